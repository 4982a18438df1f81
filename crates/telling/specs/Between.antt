-- The lines of `enforce` for what a run releases, with those of the reasons between them, are what is told.
use Rattle.std.specs.Prelude.{◌≡◌, refl, List, [], ◌∷◌, ◌++◌, map, ℕ, ◌+◌}
use Rattle.std.proofs.Common.{sym, ap, ◌∙◌}
use Rattle.policy.specs.Rules.{Policy, Place}
use Rattle.stepping.specs.Tick.{Progress, ran}
use Rattle.stepping.specs.Ticks.{ran_on}
use Rattle.enforcer.specs.Entries.{event_of, byte_of}
use Rattle.printing.specs.Text.{event_line}
use Rattle.explaining.specs.EachHalf.{Reasons}
use Rattle.sentences.specs.Text.{reason_lines, tick_text}
use Rattle.telling.specs.Told.{Told, nothing, one}

-- As console's `tick_lines`, and after each line the lines of its reasons.
abbrev pub lines_between : Policy → (from : ℕ) (events released : List ℕ) → List Reasons → List ℕ
lines_between p from [] released qs = []
lines_between p from (e ∷ events) [] qs = []
lines_between p from (e ∷ events) (r ∷ released) [] = []
lines_between p from (e ∷ events) (r ∷ released) (q ∷ qs) = (event_line from e r ++ reason_lines p q) ++ lines_between p (from + 1) events released qs

-- What is released of the events from the place s.
abbrev pub released_of : Policy → List ℕ → Place → List ℕ → List ℕ
released_of p marks s events = map byte_of (ran p marks s (map event_of events)).released

-- What is told is the lines of what the run releases, with those of some reasons between them.
pub told_between : {p : Policy} {marks : List ℕ} {from : ℕ} {s : Place} {events bytes : List ℕ} → Told p marks from s events bytes →
    (qs : List Reasons) × (bytes ≡ lines_between p from events (released_of p marks s events) qs)
told_between nothing = ([], refl)
told_between {p} {marks} {from} {s} (one {e = e} {events = events} {t = t} {q = q} h g m) =
    let r = told_between m in (
      q ∷ r.0,
      ap (λ (rest : List ℕ). tick_text p from e t q ++ rest) r.1
          ∙ sym (ap (λ (z : Progress). lines_between p from (e ∷ events) (map byte_of z.released) (q ∷ r.0)) (ran_on p marks s (event_of e) (map event_of events) t h)),
    )
