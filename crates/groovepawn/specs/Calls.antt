-- The whole promise of each call, under one name, and that it is met by one answer only and by one later content of each slice lent.
use Rattle.std.specs.Prelude.{◌≡◌, List, ℕ}
use Rattle.std.proofs.Common.{sym, ◌∙◌}
use Rattle.prepare.specs.Entry.{prepared_marks}
use Rattle.join.specs.Entry.{joined_out}
use Rattle.groovepawn.specs.Words.{prepare_word, input_word, output_word, output_state, run_word, run_state, run_out, join_word, ticks_word}

-- r is what the call returns, and `after` what the slice for the marks holds then.
pub record PrepareCall (reading : ℕ) (file before : List ℕ) (r : ℕ) (after : List ℕ) : Type 0 where
  pub said : r ≡ prepare_word reading file before
  pub marks : after ≡ prepared_marks reading file before

-- r is what the input half returns.
pub record InputCall (reading : ℕ) (file marks state : List ℕ) (x r : ℕ) : Type 0 where
  pub said : r ≡ input_word reading file marks state x

-- `after` is what the lent state holds then.
pub record OutputCall (reading : ℕ) (file marks state : List ℕ) (x y r : ℕ) (after : List ℕ) : Type 0 where
  pub said : r ≡ output_word reading file marks state x y
  pub next : after ≡ output_state reading file marks state x y

-- `after` is what the lent state holds then, and `written` what the slice for the released events does.
pub record RunCall (reading : ℕ) (file marks state events before : List ℕ) (r : ℕ) (after written : List ℕ) : Type 0 where
  pub said : r ≡ run_word reading file marks state events before
  pub next : after ≡ run_state reading file marks state events before
  pub released : written ≡ run_out reading file marks state events before

-- `after` is what the slice for the joined file holds then.
pub record JoinCall (a b before : List ℕ) (r : ℕ) (after : List ℕ) : Type 0 where
  pub said : r ≡ join_word a b before
  pub out : after ≡ joined_out a b before

-- r is what the conversion into ticks returns.
pub record TicksCall (time tick up r : ℕ) : Type 0 where
  pub said : r ≡ ticks_word time tick up

-- One answer alone meets `PrepareCall`, and one later content of the marks.
pub prepare_one : {reading : ℕ} {file before after also : List ℕ} {r q : ℕ} →
    PrepareCall reading file before r after → PrepareCall reading file before q also → (r ≡ q) × (after ≡ also)
prepare_one h g = (h.said ∙ sym g.said, h.marks ∙ sym g.marks)

-- One answer alone meets `InputCall`.
pub input_one : {reading : ℕ} {file marks state : List ℕ} {x r q : ℕ} → InputCall reading file marks state x r → InputCall reading file marks state x q → r ≡ q
input_one h g = h.said ∙ sym g.said

-- One answer alone meets `OutputCall`, and one later state.
pub output_one : {reading : ℕ} {file marks state after also : List ℕ} {x y r q : ℕ} →
    OutputCall reading file marks state x y r after → OutputCall reading file marks state x y q also → (r ≡ q) × (after ≡ also)
output_one h g = (h.said ∙ sym g.said, h.next ∙ sym g.next)

-- One answer alone meets `RunCall`, one later state, and one later content of the slice for the events.
pub run_one : {reading : ℕ} {file marks state events before after also written too : List ℕ} {r q : ℕ} →
    RunCall reading file marks state events before r after written → RunCall reading file marks state events before q also too →
    (r ≡ q) × (after ≡ also) × (written ≡ too)
run_one h g = (h.said ∙ sym g.said, h.next ∙ sym g.next, h.released ∙ sym g.released)

-- One answer alone meets `JoinCall`, and one later content of the slice for the file.
pub join_one : {a b before after also : List ℕ} {r q : ℕ} → JoinCall a b before r after → JoinCall a b before q also → (r ≡ q) × (after ≡ also)
join_one h g = (h.said ∙ sym g.said, h.out ∙ sym g.out)

-- One answer alone meets `TicksCall`.
pub ticks_one : {time tick up r q : ℕ} → TicksCall time tick up r → TicksCall time tick up q → r ≡ q
ticks_one h g = h.said ∙ sym g.said
