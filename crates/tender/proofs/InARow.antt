-- What two enforcers in a row release, over the streams that are permitted. It stands beside specs/InARow.antt, on which it rests.
use Rattle.std.specs.Prelude.{◌≡◌, refl, ℕ}
use Rattle.std.proofs.Common.{sym, ◌∙◌}
use Rattle.std.proofs.Math.Path.{ap, subst}
use mathlib.Core.List.{List, [], ◌∷◌, map}
use Rattle.std.proofs.Math.Option.{none-ne-some}
use native.Mathlib.Omega.{arith}
use Rattle.std.proofs.Math.ListN.{get_or}
use Rattle.policy.specs.Rules.{steps, fits_none, fits_more, Runs, Permits}
use Rattle.policy.specs.File.{policy_of}
use Rattle.policy.specs.Check.{reading_refusal}
use Rattle.enforcer.specs.Entries.{event_of}
use Rattle.prepare.specs.Computing.{the_file, a_step}
use Rattle.tender.specs.InARow.{pump_with_valve, pump_off, valve_shut, with_pump_off, alone, in_a_row, pump_alone}

module _ (reading : ℕ) (named : reading_refusal reading ≡ 0) where
  -- In a row they release a stream that both clauses permit, and another one than the join.
  pub row_else :
      (Permits (policy_of reading with_pump_off)).permits (map event_of (in_a_row reading pump_with_valve pump_off (0x10 ∷ [])))
      × (¬ (in_a_row reading pump_with_valve pump_off (0x10 ∷ []) ≡ alone reading with_pump_off (0x10 ∷ [])))
  unfolding the_file a_step Runs steps
  row_else =
      let c = pump_alone reading named in (
        subst (λ (bs : List ℕ). (Permits (policy_of reading with_pump_off)).permits (map event_of bs)) (sym c.then_pump_off)
            (fits_more {e = record { x = 0; y = 2 }} (record { x = omega arith; y = omega arith }) fits_none, (record { location = 0; clocks = [] }, refl)),
        λ e. omega (arith, ap (λ (l : List ℕ). get_or l 0 0) (sym c.then_pump_off ∙ e ∙ c.joined_pump_off)),
      )

  -- In a row they release a stream that is not permitted: the pump runs against the shut valve, as it was read, and the first clause forbids it.
  pub row_forbidden : ¬ (Permits (policy_of reading pump_with_valve)).permits (map event_of (in_a_row reading pump_with_valve valve_shut (0x10 ∷ [])))
  unfolding the_file a_step Runs steps
  row_forbidden h =
      let bytes = (pump_alone reading named).then_valve_shut in
      let r = subst (λ (bs : List ℕ). (Permits (policy_of reading pump_with_valve)).permits (map event_of bs)) bytes h in
      none-ne-some r.1.0 r.1.1
