-- What `Laws` says of the policy that is left fixes it: there is one.
use Rattle.std.specs.Prelude.{◌≡◌, refl, List, [], ◌∷◌, ◌⊎◌, ℕ, zero, suc, ◌≤◌, ◌<◌, length, get_or}
use Rattle.std.proofs.Common.{sym, ap, ap₂, ◌∙◌, inl, inr, zero-le, arith, ext_get_or}
use Rattle.std.proofs.Math.Logic.{by_cases}
use Rattle.std.proofs.Math.Option.{some, some-injective}
use Rattle.std.proofs.Math.Decide.{dec_lt}
use Rattle.policy.specs.Rules.{Rule, Policy, unlimited, looked}
use Rattle.policy.specs.Sound.{WellFormed}
use Rattle.policy.specs.Checked.{well_sound}
use Rattle.policy.specs.Reached.{reached_in}
use Rattle.usage.specs.Sift.{nth}
use Rattle.usage.specs.Clean.{Entered}
use Rattle.usage.specs.Flagged.{decider_below}
use Rattle.cleaning.specs.Laws.{Renumbers, StaysAs, Leaves}

-- ---- numbers
module _ {G : ℕ → Type 0} {c d : ℕ} {f g : ℕ → ℕ} (a : Renumbers G c f) (b : Renumbers G d g) where
  -- The new number is how many stay before it, whichever way it is found.
  at-least : (k n : ℕ) → G n → f n ≡ k → k ≤ g n
  at-least zero n h e = zero-le
  at-least (suc k) n h e =
      let m = a.from k (omega (arith, a.below n h)) in
      let before : m.0 < n =
      by_cases (dec_lt m.0 n) (λ l. l)
      (λ l. absurd (by_cases (dec_lt n m.0) (λ o. omega (arith, a.order n m.0 h m.1 o, m.2)) (λ o. let s : m.0 ≡ n = omega arith in omega (arith, ap f s, m.2))))
      in
      omega (arith, at-least k m.0 m.1 m.2, b.order m.0 n m.1 h before)

  count_le : c ≤ d
  count_le = go c refl
    where
      go : (k : ℕ) → c ≡ k → k ≤ d
      go zero e = zero-le
      go (suc k) e = let m = a.from k (omega arith) in omega (arith, at-least k m.0 m.1 m.2, b.below m.0 m.1)

module _ {G : ℕ → Type 0} {c d : ℕ} {f g : ℕ → ℕ} (a : Renumbers G c f) (b : Renumbers G d g) where
  one_count : c ≡ d
  one_count = omega (arith, count_le a b, count_le b a)

  one_number : (n : ℕ) → G n → f n ≡ g n
  one_number n h = omega (arith, at-least a b (f n) n h refl, at-least b a (g n) n h refl)

-- ---- lists
nth_has : {A : Type 0} (xs : List A) (i : ℕ) → i < length xs → (x : A) × (nth xs i ≡ some x)
nth_has [] i h = absurd (omega arith)
nth_has (x ∷ xs) zero h = (x, refl)
nth_has (x ∷ xs) (suc i) h = nth_has xs i (omega arith)

nth_ext : {A : Type 0} (xs ys : List A) → length xs ≡ length ys → ((i : ℕ) → i < length xs → nth xs i ≡ nth ys i) → xs ≡ ys
nth_ext [] [] e h = refl
nth_ext [] (y ∷ ys) e h = absurd (omega arith)
nth_ext (x ∷ xs) [] e h = absurd (omega arith)
nth_ext (x ∷ xs) (y ∷ ys) e h =
    ap₂ ◌∷◌ (some-injective x y (h 0 (omega arith))) (nth_ext xs ys (omega arith) (λ i l. h (suc i) (omega arith)))

-- ---- policies
module _ {p : Policy} (ok : WellFormed p) where
  entered_below : {l : ℕ} → Entered p l → l < 255
  entered_below a = omega (arith, (reached_in p (well_sound p ok) a.reached).location, a.here, ok.locations)

  module _ {f g : ℕ → ℕ} (same : (l : ℕ) → Entered p l → f l ≡ g l) where
    one_target :
        {t s u : ℕ} → ((t ≡ 255) × (s ≡ 255)) ⊎ (Entered p t × (s ≡ f t)) → ((t ≡ 255) × (u ≡ 255)) ⊎ (Entered p t × (u ≡ g t)) → s ≡ u
    one_target (inl a) (inl b) = a.1 ∙ sym b.1
    one_target (inl a) (inr b) = absurd (omega (arith, a.0, entered_below b.0))
    one_target (inr a) (inl b) = absurd (omega (arith, b.0, entered_below a.0))
    one_target {t} (inr a) (inr b) = a.1 ∙ same t a.0 ∙ sym b.1

    one_rule : {r s u : Rule} → StaysAs p f r s → StaysAs p g r u → s ≡ u
    one_rule {r} a b =
        let source = a.source.1 ∙ same r.source a.source.0 ∙ sym b.source.1 in
        let target = one_target a.target b.target in
        let in_care = a.in_care ∙ sym b.in_care in
        let in_value = a.in_value ∙ sym b.in_value in
        let out_care = a.out_care ∙ sym b.out_care in
        let out_value = a.out_value ∙ sym b.out_value in
        let reset = a.reset ∙ sym b.reset in
        let bounds = a.bounds ∙ sym b.bounds in
        λ i.
        record {
          source = source i;
          in_care = in_care i;
          in_value = in_value i;
          out_care = out_care i;
          out_value = out_value i;
          reset = reset i;
          target = target i;
          bounds = bounds i;
        }

  module _ {q o : Policy} (a : Leaves p q) (b : Leaves p o) where
    same_location : (l : ℕ) → Entered p l → a.new_location l ≡ b.new_location l
    same_location = one_number a.locations b.locations

    locations_one : q.locations ≡ o.locations
    locations_one = one_count a.locations b.locations

    left_one : q.left ≡ o.left
    left_one =
        ext_get_or 0 q.left o.left (omega (arith, a.bytes, b.bytes, locations_one)) (λ k h.
        let l = a.locations.from k (omega (arith, a.bytes)) in
        ap (λ (n : ℕ). get_or q.left n 0) (sym l.2) ∙ a.byte l.0 l.1 ∙ sym (b.byte l.0 l.1)
        ∙ ap (λ (n : ℕ). get_or o.left n 0) (sym (same_location l.0 l.1) ∙ l.2))

    rules_one : q.rules ≡ o.rules
    rules_one =
        nth_ext q.rules o.rules (one_count a.order b.order) (λ k h.
        let i = a.order.from k h in
        let u = i.1 in
        let r = nth_has p.rules i.0 (decider_below p.rules (looked unlimited p u.place) u.event i.0 u.decides) in
        let s = a.rules i.0 r.0 u r.1 in
        let t = b.rules i.0 r.0 u r.1 in
        ap (nth q.rules) (sym i.2) ∙ s.1 ∙ ap some (one_rule same_location s.2 t.2) ∙ sym t.1
        ∙ ap (nth o.rules) (sym (one_number a.order b.order i.0 u) ∙ i.2))

    -- The policy that is left is one.
    pub leaves_one : q ≡ o
    leaves_one =
        let reading = a.reading ∙ sym b.reading in
        let inputs = a.inputs ∙ sym b.inputs in
        let outputs = a.outputs ∙ sym b.outputs in
        let ceilings = a.ceilings ∙ sym b.ceilings in
        λ i.
        record {
          reading = reading i;
          inputs = inputs i;
          outputs = outputs i;
          ceilings = ceilings i;
          locations = locations_one i;
          left = left_one i;
          rules = rules_one i;
        }
