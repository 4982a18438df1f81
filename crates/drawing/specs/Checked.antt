-- What a checked file says of its signals and of the events that fit them.
use Rattle.std.specs.Prelude.{◌≡◌, true, false, not, ℕ, ◌≤◌, ◌<◌, leb, eqb}
use Rattle.std.proofs.Math.Path.{refl}
use Rattle.std.proofs.Common.{sym, arith, length-take, leb-true, ltb-true, ne_eqb, lt-ltb}
use Rattle.std.proofs.Math.Bool.{and-eq-true_iff}
use mathlib.Core.List.{List, [], ◌∷◌, ◌++◌}
use Rattle.std.proofs.lemmas.Bool.{eqb-false, not-true}
use Rattle.policy.specs.File.{input_tags, output_tags}
use Rattle.policy.specs.Check.{refusal_of, all_pass, among, is_capital, tags_good}
use Rattle.policy.specs.Frame.{passed}
use Rattle.drawing.specs.Values.{Distinct, NoneOf, neither}
use Rattle.drawing.specs.Events.{SignalsGood, EventFits}
use Rattle.drawing.specs.Steps.{AllFit}
use Rattle.drawing.specs.Entry.{event_good}

-- A good tag: not below the letter A, none of those before it, and those after it are good.
pub record GoodTag (before : List ℕ) (tag : ℕ) (tags : List ℕ) : Type 0 where
  pub low : 65 ≤ tag
  pub new : among tag before ≡ false
  pub others : tags_good (before ++ (tag ∷ [])) tags ≡ true

good_tag : (before : List ℕ) (tag : ℕ) (tags : List ℕ) → tags_good before (tag ∷ tags) ≡ true → GoodTag before tag tags
unfolding tags_good
good_tag before tag tags e =
    let a = (and-eq-true_iff (is_capital tag) _).0 e in
    let b = (and-eq-true_iff (leb 65 tag) _).0 a.0 in
    let c = (and-eq-true_iff (not (among tag before)) _).0 a.1 in
    record { low = leb-true _ _ b.0; new = not-true _ c.0; others = c.1 }

capitals : (before tags : List ℕ) → tags_good before tags ≡ true → (b : ℕ) → b < 65 → among b tags ≡ false
unfolding among
capitals before [] e b h = refl
capitals before (tag ∷ tags) e b h =
    let k = good_tag before tag tags e in
    rw (ne_eqb tag b (λ q. omega (arith, k.low)), capitals (before ++ (tag ∷ [])) tags k.others b h)

apart_last : (before : List ℕ) (tag b : ℕ) → among b (before ++ (tag ∷ [])) ≡ false → (among b before ≡ false) × (eqb tag b ≡ false)
unfolding among
apart_last [] tag b e = (refl, (neither (eqb tag b) false e).0)
apart_last (a ∷ before) tag b e =
    let k = neither (eqb a b) _ e in
    let l = apart_last before tag b k.1 in
    (rw (k.0, l.0), l.1)

none_last : (before : List ℕ) (tag : ℕ) (tags : List ℕ) → NoneOf (before ++ (tag ∷ [])) tags → NoneOf before tags × (among tag tags ≡ false)
unfolding NoneOf among
none_last before tag [] n = (tt, refl)
none_last before tag (t ∷ tags) n =
    let l = apart_last before tag t n.0 in
    let m = none_last before tag tags n.1 in
    ((l.0, m.0), rw (ne_eqb t tag (λ q. eqb-false tag t l.1 (sym q)), m.1))

distinct : (before tags : List ℕ) → tags_good before tags ≡ true → Distinct tags × NoneOf before tags
unfolding Distinct NoneOf
distinct before [] e = (tt, tt)
distinct before (tag ∷ tags) e =
    let k = good_tag before tag tags e in
    let d = distinct (before ++ (tag ∷ [])) tags k.others in
    let l = none_last before tag tags d.1 in
    ((l.1, d.0), (k.new, l.0))

module _ (f : List ℕ) where
  -- A checked file has at most four signals of each kind, with no tag below `A` and none twice.
  pub signals : refusal_of f ≡ 0 → SignalsGood (input_tags f) (output_tags f)
  signals e =
      let p = passed f e in
      let i = distinct [] (input_tags f) p.in_tags in
      let o = distinct (input_tags f) (output_tags f) p.out_tags in
      record {
        few_in = simp length-take (omega (arith, p.frame.inputs));
        few_out = simp length-take (omega (arith, p.frame.outputs));
        capital_in = capitals [] (input_tags f) p.in_tags;
        capital_out = capitals (input_tags f) (output_tags f) p.out_tags;
        distinct_in = i.0;
        distinct_out = o.0;
        apart = o.1;
      }

  good_fits : (e : ℕ) → event_good f e ≡ true → EventFits (input_tags f) (output_tags f) e
  good_fits e g = let k = (and-eq-true_iff _ _).0 g in record { x = ltb-true _ _ k.0; y = ltb-true _ _ k.1 }

  fits_good : (e : ℕ) → EventFits (input_tags f) (output_tags f) e → event_good f e ≡ true
  fits_good e g = rw (lt-ltb _ _ g.x, lt-ltb _ _ g.y)

  -- Events that pass the test have no bit beyond the signals.
  pub all_fit : (events : List ℕ) → all_pass (event_good f) events ≡ true → AllFit (input_tags f) (output_tags f) events
  unfolding all_pass AllFit
  all_fit [] e = tt
  all_fit (a ∷ events) e = let k = (and-eq-true_iff (event_good f a) _).0 e in (good_fits a k.0, all_fit events k.1)

  -- Events with no bit beyond the signals pass the test.
  pub fit_all : (events : List ℕ) → AllFit (input_tags f) (output_tags f) events → all_pass (event_good f) events ≡ true
  unfolding all_pass AllFit
  fit_all [] a = refl
  fit_all (e ∷ events) a = rw (fits_good e a.0, fit_all events a.1)
