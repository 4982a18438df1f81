-- What the code has of the lines that it has read, as what the definitions have of them.
use Rattle.std.specs.Prelude.{◌≡◌, refl, true, Result, Ok, Err, List, [], ◌∷◌, ℕ, zero, suc, ◌+◌, ◌-◌, ◌≤◌, ◌<◌, length, take, drop}
use Rattle.std.proofs.Common.{ap, ◌∙◌, arith}
use Rattle.std.proofs.Math.Option.{none, some}
use borrow.Author.Tests.{lt-ltb, le-ltb, le-leb, lt-leb}
use Rattle.streams.specs.Answer.{Answer, refused, gives}
use Rattle.std.specs.Result.{IsErrAnd}
use Rattle.refusals.specs.Refused.{number_of}
use Rattle.refusals.specs.Laws.{handed_on}
use Rattle.refusals.specs.declared.Refusal.{Refusal}
use Rattle.policy.specs.Rules.{Rule}
use Rattle.wording.specs.Words.{Word, Line}
use Rattle.wording.specs.Names.{find}
use Rattle.words.specs.Spans.{spans, place_below}
use Rattle.wording.specs.Reader.{Draft, risen, at_line}
use Rattle.words.specs.Firsts.{Shaped, count_of}
use Rattle.words.specs.declared.firsts.Few.{Few}
use Rattle.words.specs.declared.words.Span.{Span}
use Rattle.declarations.specs.declared.table.Table.{Table}

-- The places of the names stand in `starts` and `lengths`: the signals' from 0 on, the clocks' from 8 on, the locations' from 12 on.
abbrev pub draft_of : (text starts lengths left : List ℕ) → Table → List Rule → Draft
draft_of text starts lengths left t rules =
    record {
      inputs = take t.inputs t.tags;
      outputs = take (t.signals - t.inputs) (drop t.inputs t.tags);
      names = spans text starts lengths 0 t.signals;
      clocks = spans text starts lengths 8 t.clocks;
      ceilings = take t.clocks t.ceilings;
      places = spans text starts lengths 12 t.places;
      left = take t.places left;
      rules = rules;
      stage = t.stage;
      source = place_below 64 t.source;
    }

-- What the code answers to a line: a refusal, or what the lines with this one have said.
abbrev pub table_said : (text starts lengths left : List ℕ) → List Rule → Result Table Refusal → Answer Draft
table_said text starts lengths left rules (Ok t) = gives (draft_of text starts lengths left t rules)
table_said text starts lengths left rules (Err r) = refused (number_of r)

-- A refusal that a `?` hands on.
pub table_handed : (text starts lengths left : List ℕ) (rules : List Rule) (r : Result Table Refusal) (e : Refusal) → IsErrAnd r (λ d. d ≡ e) → table_said text starts lengths left rules r ≡ refused (number_of e)
table_handed text starts lengths left rules r e h = ap (table_said text starts lengths left rules) (handed_on r e h)

-- The counts are in their limits, and no output stands before the last input.
pub record Fit (t : Table) : Type 0 where
  pub inputs : t.inputs ≤ 4
  pub outputs : t.signals ≤ t.inputs + 4
  pub order : t.inputs ≤ t.signals
  pub clocks : t.clocks ≤ 4
  pub places : t.places ≤ 64
  pub first : t.stage ≤ 1 → t.signals ≡ t.inputs
  pub tags_long : length t.tags ≡ 8
  pub ceilings_long : length t.ceilings ≡ 4

-- Behind `at` stands one word, or the line is refused by 30.
pub at_form : (d : Draft) (n : ℕ) (v w : Word) (l : Line) → (n ≡ 1 → ⊥) → Shaped n v w l → refused 30 ≡ at_line d l
unfolding at_line
at_form d zero v w l h e = rw e
at_form d (suc zero) v w l h e = absurd (h refl)
at_form d (suc (suc zero)) v w l h e = rw e
at_form d (suc (suc (suc n))) v w l h e = rw e.2

module _ (d : Draft) (v : Word) (l : Line) (one : l ≡ v ∷ []) where
  -- `at` and a name that no location has is refused by 31.
  pub at_unknown : find 0 v d.places ≡ none → refused 31 ≡ at_line d l
  unfolding at_line
  at_unknown e = rw (one, e)

  module _ {k : ℕ} (e : find 0 v d.places ≡ some k) where
    -- `at` and a location before that of the last `at` is refused by 34.
    pub at_falls : {s : ℕ} → d.source ≡ some s → k < s → refused 34 ≡ at_line d l
    unfolding at_line
    at_falls {s = s} f g = rw (one, e, f, lt-leb s k g)

    -- `at` and a location that is not before that of the last `at`: it is the source of the rules to come.
    pub at_rises : risen d d.source k ≡ true →
        gives (record { inputs = d.inputs; outputs = d.outputs; names = d.names; clocks = d.clocks; ceilings = d.ceilings; places = d.places; left = d.left; rules = d.rules; stage = 5; source = some k }) ≡ at_line d l
    unfolding at_line
    at_rises f = rw (one, e, f)

-- A source below 64 is that location.
pub source_some : (s : ℕ) → s < 64 → place_below 64 s ≡ some s
source_some s h = rw (lt-ltb s 64 h)

-- A source of 64 or more is none.
pub source_none : (s : ℕ) → 64 ≤ s → place_below 64 s ≡ none
source_none s h = rw (le-ltb s 64 h)

-- Where there was no `at`, any location may come.
pub rises_first : (d : Draft) (s k : ℕ) → 64 ≤ s → risen d (place_below 64 s) k ≡ true
rises_first d s k h = rw (le-ltb s 64 h)

-- After an `at`, the same location or a later one may come.
pub rises_on : (d : Draft) (s k : ℕ) → s < 64 → s ≤ k → risen d (place_below 64 s) k ≡ true
rises_on d s k h l = rw (lt-ltb s 64 h) (le-leb s k l)

-- The table behind an `at`: the rules that follow are of location k.
abbrev pub at_place : Table → ℕ → Table
at_place t k =
    record {
      tags = t.tags;
      ceilings = t.ceilings;
      inputs = t.inputs;
      signals = t.signals;
      clocks = t.clocks;
      places = t.places;
      stage = 5;
      source = k;
    }

-- With the location as its source, the table has what the lines with this `at` have said.
pub at_given : (text starts lengths left : List ℕ) (t : Table) (rules : List Rule) (v : Word) (l : Line) → l ≡ v ∷ [] → {k : ℕ} → find 0 v (spans text starts lengths 12 t.places) ≡ some k →
    k < t.places → t.places ≤ 64 → risen (draft_of text starts lengths left t rules) (place_below 64 t.source) k ≡ true →
    gives (draft_of text starts lengths left (at_place t k) rules) ≡ at_line (draft_of text starts lengths left t rules) l
at_given text starts lengths left t rules v l one {k = k} e h m f =
    let d = draft_of text starts lengths left t rules in
    let s = source_some k (omega arith) in
    (λ i. gives (record { inputs = d.inputs; outputs = d.outputs; names = d.names; clocks = d.clocks; ceilings = d.ceilings; places = d.places; left = d.left; rules = rules; stage = 5; source = s i }))
    ∙ at_rises d v l one e f

-- A table fits whatever its source is.
pub fit_at : {t : Table} → Fit t → (k : ℕ) → Fit (at_place t k)
fit_at f k =
    record {
      inputs = f.inputs;
      outputs = f.outputs;
      order = f.order;
      clocks = f.clocks;
      places = f.places;
      first = λ h. absurd (omega arith);
      tags_long = f.tags_long;
      ceilings_long = f.ceilings_long;
    }

-- Words that were not found to be one.
pub not_one : (few : Few) → ((v : Span) → few ≡ Few.One v → ⊥) → count_of few ≡ 1 → ⊥
not_one Few.None h e = omega arith
not_one (Few.One v) h e = h v refl
not_one (Few.Two v w) h e = omega arith
not_one (Few.More v w) h e = omega arith

-- Words that were not found to be two.
pub not_two : (few : Few) → ((v w : Span) → few ≡ Few.Two v w → ⊥) → count_of few ≡ 2 → ⊥
not_two Few.None h e = omega arith
not_two (Few.One v) h e = omega arith
not_two (Few.Two v w) h e = h v w refl
not_two (Few.More v w) h e = omega arith
