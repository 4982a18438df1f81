-- A clock's line, by what was found of it.
-- In order: one clock more in a draft; the refusals of a ceiling and for want of room; the line by its refusals, in their order; one clock more in
-- the table.
use Rattle.std.specs.Prelude.{◌≡◌, refl, Bool, true, false, List, [], ◌∷◌, ◌++◌, leb, ltb, length, set}
use Rattle.std.proofs.Math.Path.{ap}
use Rattle.std.proofs.Common.{sym, ◌∙◌, arith, length-set, le-leb, ltb-true}
use Prim.Native.Nat.{ℕ, zero, suc, ◌+◌, ◌≤◌, ◌<◌}
use Rattle.std.proofs.lemmas.Bool.{lt-leb}
use Rattle.streams.specs.Answer.{Answer, refused, gives, unless, ◌or_else◌}
use Rattle.policy.specs.Rules.{Rule}
use Rattle.policy.specs.Check.{ceiling_good}
use Rattle.policy.specs.File.{part}
use Rattle.wording.specs.Words.{Word, Line}
use Rattle.wording.specs.Names.{find, is_name, must, ◌and_then◌}
use Rattle.words.specs.Counted.{number_of, numbered_then}
use Rattle.wording.specs.Reader.{Draft, clock_line}
use Rattle.words.specs.Spans.{NamesIn}
use Rattle.words.specs.Firsts.{Shaped}
use Rattle.declarations.specs.Fresh.{name_refusal, refuse, refusing, clock_new, spans_other, spans_more, take_more}
use Rattle.declarations.specs.Table.{draft_of, Fit}
use Rattle.declarations.specs.declared.table.Table.{Table}

-- One clock more, by its name and its ceiling.
abbrev pub with_clock : Draft → Word → ℕ → Draft
with_clock d w c =
    record {
      inputs = d.inputs;
      outputs = d.outputs;
      names = d.names;
      clocks = d.clocks ++ (w ∷ []);
      ceilings = d.ceilings ++ (c ∷ []);
      places = d.places;
      left = d.left;
      rules = d.rules;
      stage = 3;
      source = d.source;
    }

-- Of a ceiling c after n clocks. 4: it is 0 or above 1,001. 33: there are four clocks already.
abbrev pub clock_refusal : ℕ → ℕ → ℕ
clock_refusal c n = unless (ceiling_good c) 4 or_else unless (ltb n 4) 33

-- Behind `clock` stand two words, or the line is refused by 30.
pub clock_form : (d : Draft) (n : ℕ) (v w : Word) (l : Line) → (n ≡ 2 → ⊥) → Shaped n v w l → refused 30 ≡ clock_line d l
unfolding clock_line
clock_form d zero v w l h e = rw e
clock_form d (suc zero) v w l h e = rw e.0
clock_form d (suc (suc zero)) v w l h e = absurd (h refl)
clock_form d (suc (suc (suc n))) v w l h e = rw e.2

-- A ceiling and room, as one refusal.
last_of : (s t : Bool) (a : Answer Draft) → must s 4 (must t 33 a) ≡ refuse (unless s 4 or_else unless t 33) a
last_of true true a = refl
last_of true false a = refl
last_of false t a = refl

module _ (d : Draft) (v w : Word) (l : Line) (two : l ≡ v ∷ w ∷ []) where
  -- The line as its refusals in their order.
  abbrev name : ℕ
  name = name_refusal (is_name v) (find 0 v d.names) (find 0 v d.clocks)

  abbrev last : ℕ → Answer Draft
  last c = refuse (clock_refusal c (length d.clocks)) (gives (with_clock d v c))

  steps : clock_line d l ≡ must (leb d.stage 3) 30 (refuse name (number_of w and_then last))
  unfolding clock_line
  steps =
      ap (clock_line d) two
      ∙ ap (must (leb d.stage 3) 30)
      (clock_new (is_name v) (find 0 v d.names) (find 0 v d.clocks) _
      ∙ ap (refuse name) (numbered_then w _ ∙ ap (λ (go : ℕ → Answer Draft). number_of w and_then go) (λ i c. last_of (ceiling_good c) (ltb (length d.clocks) 4) (gives (with_clock d v c)) i)))

  -- A clock after a location or an `at` is refused by 30.
  pub clock_late : 3 < d.stage → refused 30 ≡ clock_line d l
  clock_late h = sym (steps ∙ rw (lt-leb d.stage 3 h))

  module _ (h : d.stage ≤ 3) where
    timely : clock_line d l ≡ refuse name (number_of w and_then last)
    timely = steps ∙ rw (le-leb d.stage 3 h)

    -- The refusal of the name, if it has one, is that of the line.
    pub clock_named : (r : ℕ) → r ≡ name → (r ≡ 0 → ⊥) → refused r ≡ clock_line d l
    clock_named r e z = refusing r (number_of w and_then last) z ∙ ap (λ (n : ℕ). refuse n (number_of w and_then last)) e ∙ sym timely

    module _ (fresh : 0 ≡ name) where
      -- With a new name, the refusal of the second word as a number is that of the line.
      pub clock_read : (x : Answer ℕ) → x ≡ number_of w → (x and_then last) ≡ clock_line d l
      clock_read x number = sym (timely ∙ ap (λ (n : ℕ). refuse n (number_of w and_then last)) (sym fresh) ∙ ap (λ (a : Answer ℕ). a and_then last) (sym number))

      module _ (c : ℕ) (number : gives c ≡ number_of w) where
        -- With a new name and a number, the refusal of the ceiling (4) or for want of room (33) is that of the line.
        pub clock_last : (r : ℕ) → r ≡ clock_refusal c (length d.clocks) → (r ≡ 0 → ⊥) → refused r ≡ clock_line d l
        clock_last r e z = refusing r (gives (with_clock d v c)) z ∙ ap (λ (n : ℕ). refuse n (gives (with_clock d v c))) e ∙ clock_read (gives c) number

        -- A clock that nothing refuses is added, with its ceiling.
        pub clock_given : 0 ≡ clock_refusal c (length d.clocks) → gives (with_clock d v c) ≡ clock_line d l
        clock_given e = ap (λ (n : ℕ). refuse n (gives (with_clock d v c))) e ∙ clock_read (gives c) number

-- A clock more in the table.
abbrev pub more_clock : Table → ℕ → Table
more_clock t c =
    record {
      tags = t.tags;
      ceilings = set t.ceilings t.clocks c;
      inputs = t.inputs;
      signals = t.signals;
      clocks = t.clocks + 1;
      places = t.places;
      stage = 3;
      source = t.source;
    }

module _ {text starts lengths : List ℕ} {t : Table} (f : Fit t) (p : NamesIn 76 text starts lengths) (a b c : ℕ) (h : t.clocks < 4) where
  -- Stored in the table and the slices, the new clock comes after the others, and all else stays.
  pub clock_more : (left : List ℕ) (rules : List Rule) →
      draft_of text (set starts (8 + t.clocks) a) (set lengths (8 + t.clocks) b) left (more_clock t c) rules ≡ with_clock (draft_of text starts lengths left t rules) (part text a b) c
  clock_more left rules =
      let d = draft_of text starts lengths left t rules in
      let few = f.inputs in
      let more = f.outputs in
      let names = spans_other text starts lengths (8 + t.clocks) a b 0 t.signals (λ i x y z. omega arith) in
      let clocks = spans_more text starts lengths 8 t.clocks (8 + t.clocks) a b refl (omega (arith, p.starts_long)) (omega (arith, p.lengths_long)) in
      let places = spans_other text starts lengths (8 + t.clocks) a b 12 t.places (λ i x y z. omega arith) in
      let tops = take_more t.ceilings t.clocks c (omega (arith, f.ceilings_long)) in
      (λ i. record { inputs = d.inputs; outputs = d.outputs; names = names i; clocks = clocks i; ceilings = tops i; places = places i; left = d.left; rules = rules; stage = 3; source = d.source })

-- A table of fewer than four clocks still fits with one more.
pub fit_clock : {t : Table} → Fit t → (c : ℕ) → t.clocks < 4 → Fit (more_clock t c)
fit_clock {t} f c h =
    record {
      inputs = f.inputs;
      outputs = f.outputs;
      order = f.order;
      clocks = omega arith;
      places = f.places;
      first = λ k. absurd (omega arith);
      tags_long = f.tags_long;
      ceilings_long = length-set t.ceilings t.clocks c ∙ f.ceilings_long;
    }

-- A clock that is not refused is one of the first four.
pub room_of : (c n : ℕ) → clock_refusal c n ≡ 0 → n < 4
room_of c n h = go (ceiling_good c) (ltb n 4) refl h
  where
    go : (s t : Bool) → ltb n 4 ≡ t → (unless s 4 or_else unless t 33) ≡ 0 → n < 4
    go true true e k = ltb-true n 4 e
    go true false e k = absurd (omega arith)
    go false t e k = absurd (omega arith)
