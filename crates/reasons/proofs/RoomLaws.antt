-- What the proof of `why_run` cites of the layout that it goes on with: what was refused, or that there is room.
use Rattle.std.specs.Prelude.{◌≡◌, List, ℕ, ◌≤◌}
use Rattle.std.proofs.Common.{sym, ap, subst}
use Rattle.streams.specs.Answer.{refused, gives}
use Rattle.streams.specs.AnswerLaws.{given_only}
use Rattle.refusals.specs.Refused.{number_of}
use Rattle.refusals.specs.declared.Refusal.{Refusal}
use Rattle.policy.specs.File.{policy_of}
use Rattle.policy.specs.Layout.{layout_of}
use Rattle.policy.specs.Number.{states}
use Rattle.policy.specs.declared.Layout.{Layout}
use Rattle.enforcer.specs.Entries.{layout_for}
use Rattle.enforcer.specs.States.{Granted, refused_only, layout_granted}
use Rattle.reasons.specs.Runs.{Room, shortest_of, room_refusal, room_for}
use Rattle.reasons.specs.RunLaws.{Fits, room_fits, room_none}

module _ (reading : ℕ) (file marks : List ℕ) (m : Room) (events words : ℕ) {work : ℕ} (w : work ≡ shortest_of m) where
  pub room_refused : (r : Refusal) → refused (number_of r) ≡ room_for reading file marks work events words → number_of r ≡ room_refusal reading file marks (shortest_of m) events words
  unfolding room_for
  room_refused r e = rw w at (sym (refused_only _ _ (sym e)))

  module _ {l : Layout} (e : gives l ≡ room_for reading file marks work events words) where
    given : (room_refusal reading file marks work events words ≡ 0) × (layout_of reading file ≡ l)
    unfolding room_for
    given = given_only _ _ _ (sym e)

    pub room_clear : room_refusal reading file marks (shortest_of m) events words ≡ 0
    room_clear = rw w at given.0

    pub room_long : events ≤ words
    room_long = (room_none reading file marks work events words given.0).2

    for : gives l ≡ layout_for reading file marks
    unfolding layout_for
    for = rw (room_none reading file marks work events words given.0).0 (ap gives (sym given.1))

    pub room_granted : Granted reading file marks l
    room_granted = layout_granted reading file marks for

    pub room_enough : Fits m (states (policy_of l.reading file))
    room_enough =
        subst (λ (n : ℕ). Fits m (states (policy_of n file))) (sym room_granted.named)
        (room_fits m _ (rw w at (room_none reading file marks work events words given.0).1))
