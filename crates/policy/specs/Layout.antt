-- What the check's code answers: the layout of a file, or its refusal.
use Rattle.std.specs.Prelude.{List, [], ◌∷◌, ◌≡◌, ℕ, zero, suc, Result, Ok, Err}
use Rattle.std.proofs.Common.{sym, ◌∙◌}
use Rattle.refusals.specs.Refused.{number_of}
use Rattle.refusals.specs.declared.Refusal.{Refusal}
use Rattle.policy.specs.File
use Rattle.policy.specs.Number.{four, states_of}
use Rattle.policy.specs.Check.{refusal_of, refusal_under}
use Rattle.policy.specs.declared.Layout.{Layout}

-- What the check says: the number of its refusal, or 0 and the layout.
pub record Checked : Type 0 where
  pub refusal : ℕ
  pub layout : Layout

-- The layout of a file that passes: its counts, where its rules stand, its ceilings, and how many states it has.
abbrev pub layout_of : ℕ → List ℕ → Layout
layout_of reading f =
    record {
      reading = reading;
      inputs = File.input_count f;
      outputs = File.output_count f;
      clocks = File.clock_count f;
      locations = File.location_count f;
      rules = File.rule_count f;
      rules_start = File.rules_start f;
      rules_end = File.rules_end f;
      ceilings = four (File.ceilings_of f);
      states = states_of (File.ceilings_of f) (File.clock_count f) (File.location_count f);
    }

-- What stands for the layout of a file that is refused: all 0.
abbrev pub no_layout : Layout
no_layout =
    record {
      reading = 0;
      inputs = 0;
      outputs = 0;
      clocks = 0;
      locations = 0;
      rules = 0;
      rules_start = 0;
      rules_end = 0;
      ceilings = 0 ∷ 0 ∷ 0 ∷ 0 ∷ [];
      states = 0;
    }

-- The answer for a refusal n: the layout if n is 0, else none.
abbrev pub checked_from : ℕ → Layout → Checked
checked_from zero l = record { refusal = 0; layout = l }
checked_from (suc n) l = record { refusal = suc n; layout = no_layout }

-- A check that names no reading lays the file out under the first.
unfoldable pub checked_of : List ℕ → Checked
checked_of f = checked_from (refusal_of f) (layout_of 1 f)

-- What the check answers for a file under a reading.
unfoldable pub checked_under : ℕ → List ℕ → Checked
checked_under reading f = checked_from (refusal_under reading f) (layout_of reading f)

-- What a layout or a refusal says, as an answer of the check.
abbrev pub checked_said : Result Layout Refusal → Checked
checked_said (Ok l) = record { refusal = 0; layout = l }
checked_said (Err r) = record { refusal = number_of r; layout = no_layout }

-- All that is promised of what the check of the file f gives, and that no other result is allowed.
pub record CheckPromise (f : List ℕ) (r : Checked) : Type 0 where
  pub said : r ≡ checked_of f

-- One answer alone meets it.
pub check_one : {f : List ℕ} {r s : Checked} → CheckPromise f r → CheckPromise f s → r ≡ s
check_one p q = p.said ∙ sym q.said
