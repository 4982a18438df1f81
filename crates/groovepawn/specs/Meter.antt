-- The calls for a station with a meter: each one's word and what the lent slices hold then, that one answer alone meets it, and that the answer comes back
-- from its word.
use Rattle.std.specs.Prelude.{◌≡◌, refl, List, ℕ, ◌%◌}
use Rattle.std.proofs.Common.{sym, ◌∙◌, arith}
use Rattle.streams.specs.Answer.{Answer, refused, gives}
use Rattle.meter.specs.Entries.{new_refusal, new_station, new_totals, meter_input_of, meter_output_of}
use Rattle.meter.specs.Refusals.{input_up_to, output_up_to}
use Rattle.meter.specs.Sums.{refused_stays}
use Rattle.groovepawn.specs.Words.{answer_word}
use Rattle.groovepawn.specs.Fields.{answer_in, answer_back}

-- `after` and `risen` are what the station and the totals are then.
pub record MeterNewCall (station totals : List ℕ) (register r : ℕ) (after risen : List ℕ) : Type 0 where
  pub said : r ≡ new_refusal station totals
  pub placed : after ≡ new_station station totals register
  pub cleared : risen ≡ new_totals station totals

-- r is what the input half with a meter returns.
pub record MeterInputCall (reading : ℕ) (file marks station : List ℕ) (register x r : ℕ) : Type 0 where
  pub said : r ≡ answer_word (meter_input_of reading file marks station register x)

-- r is what the output half with a meter returns; `after` and `risen` are the station and the totals then.
pub record MeterOutputCall (reading : ℕ) (file marks station totals : List ℕ) (register x y r : ℕ) (after risen : List ℕ) : Type 0 where
  pub said : r ≡ answer_word (meter_output_of reading file marks station totals register x y).answer
  pub next : after ≡ (meter_output_of reading file marks station totals register x y).station
  pub sums : risen ≡ (meter_output_of reading file marks station totals register x y).totals

-- One answer alone meets `MeterNewCall`, one later station, and one later content of the totals.
pub meter_new_one : {station totals : List ℕ} {register r q : ℕ} {after risen also other : List ℕ} →
    MeterNewCall station totals register r after risen → MeterNewCall station totals register q also other →
    (r ≡ q) × (after ≡ also) × (risen ≡ other)
meter_new_one h g = (h.said ∙ sym g.said, h.placed ∙ sym g.placed, h.cleared ∙ sym g.cleared)

module _ {reading : ℕ} {file marks station : List ℕ} {register x r q : ℕ} where
  -- One answer alone meets `MeterInputCall`.
  pub meter_input_one : MeterInputCall reading file marks station register x r → MeterInputCall reading file marks station register x q → r ≡ q
  meter_input_one h g = h.said ∙ sym g.said

  -- One answer alone meets `MeterOutputCall`, one later station, and one later content of the totals.
  pub meter_output_one : {totals : List ℕ} {y : ℕ} {after risen also other : List ℕ} →
      MeterOutputCall reading file marks station totals register x y r after risen → MeterOutputCall reading file marks station totals register x y q also other →
      (r ≡ q) × (after ≡ also) × (risen ≡ other)
  meter_output_one h g = (h.said ∙ sym g.said, h.next ∙ sym g.next, h.sums ∙ sym g.sums)

module _ (reading : ℕ) (file marks station : List ℕ) where
  -- What is answered comes back from the word.
  pub meter_input_fields : (register x : ℕ) →
      answer_in (answer_word (meter_input_of reading file marks station register x)) ≡ meter_input_of reading file marks station register x
  meter_input_fields register x = answer_back (meter_input_of reading file marks station register x) 27 (omega arith) (input_up_to reading file marks station register x)

  module _ (totals : List ℕ) (register x y : ℕ) where
    -- The answer of the output half comes back from its word.
    pub meter_output_fields :
        answer_in (answer_word (meter_output_of reading file marks station totals register x y).answer) ≡ (meter_output_of reading file marks station totals register x y).answer
    meter_output_fields =
        answer_back (meter_output_of reading file marks station totals register x y).answer 27 (omega arith) (output_up_to reading file marks station totals register x y)

    -- With a refusal, read off the word's low eight bits, the station and the totals stay.
    pub meter_output_stays :
        let a = meter_output_of reading file marks station totals register x y in
        (answer_word a.answer % 256 ≡ 0 → ⊥) → (a.station ≡ station) × (a.totals ≡ totals)
    meter_output_stays = go (meter_output_of reading file marks station totals register x y).answer refl
      where
        go : (a : Answer ℕ) → (meter_output_of reading file marks station totals register x y).answer ≡ a → (answer_word a % 256 ≡ 0 → ⊥) →
            ((meter_output_of reading file marks station totals register x y).station ≡ station)
            × ((meter_output_of reading file marks station totals register x y).totals ≡ totals)
        go (refused n) e h = refused_stays reading file marks station totals register x y e
        go (gives v) e h = absurd (h (omega arith))
