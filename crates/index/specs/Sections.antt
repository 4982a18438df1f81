-- What the functions over a checked file ask, and what its layout makes sure of.
use Rattle.std.specs.Prelude.{◌≡◌, refl, Bool, true, false, List, ◌↔◌, ℕ, ◌+◌, ◌-◌, ◌*◌, ◌≤◌, ◌<◌, ltb, eqb, length, get_or}
use Rattle.std.proofs.Common.{sym, ap, ◌∙◌, mul-le-mul, mul-le-mul_right, arith, lt-ltb, le-ltb, eqb-true}
use Rattle.std.proofs.lemmas.Bool.{eqb-false}
use Rattle.policy.specs.File.{byte_at, part, rule_size, rules_from, clock_count, location_count, rule_count, rule_section, rules_start, rules_end, rules_of}
use Rattle.policy.specs.Check.{refusal_of}
use Rattle.policy.specs.Frame.{Framed, frame}
use Rattle.policy.specs.Parts.{byte_part, rules_drop}
use Rattle.policy.specs.Own.{below, own_of}
use Rattle.policy.specs.declared.Layout.{Layout}
use Rattle.index.specs.Index.{lower, number, index_of}
use Rattle.index.specs.Names.{lower_next, not_below, rising, lower_rules, lower_below, number_own, source_exactly, index_own}

-- The file passes the check, and the layout has its locations, its clocks and its rules.
pub record Sections (f : List ℕ) (l : Layout) : Type 0 where
  pub passes : refusal_of f ≡ 0
  pub clocks : l.clocks ≡ clock_count f
  pub locations : l.locations ≡ location_count f
  pub rules : l.rules ≡ rule_count f
  pub start : l.rules_start ≡ rules_start f
  pub end : l.rules_end ≡ rules_end f

module _ {f : List ℕ} {l : Layout} (k : Sections f l) where
  framed : Framed f
  framed = frame f k.passes

  -- The layout's counts are within their limits, and the rule section is within the file.
  pub sections_limits : (l.clocks ≤ 4) × (l.locations ≤ 64) × (l.rules ≤ 256) × (l.rules_start ≤ l.rules_end) × (l.rules_end ≤ length f)
  sections_limits = omega (arith, framed, k)

  -- The rules fill their section.
  pub sections_filled : l.rules_start + l.rules * rule_size l.clocks ≡ l.rules_end
  sections_filled = rw (k.start, k.rules, k.clocks, k.end) (omega (arith, framed))

  -- The rule section is the part of the file between its ends.
  sections_part : part f l.rules_start (l.rules_end - l.rules_start) ≡ rule_section f
  sections_part =
      let n : l.rules_end - l.rules_start ≡ rule_count f * rule_size (clock_count f) = omega (arith, framed, k) in rw (n, k.start)

  -- And reads as the rules.
  pub sections_rules : rules_from l.clocks (part f l.rules_start (l.rules_end - l.rules_start)) 0 l.rules ≡ rules_of f
  sections_rules = rw (sections_part, k.clocks, k.rules)

  -- Past the rules of lower locations those of the location come first.
  pub sections_number : (a first : ℕ) → first ≡ lower a (rules_of f) →
      (first ≤ l.rules)
      × (below (a + 1) (rules_from l.clocks (part f l.rules_start (l.rules_end - l.rules_start)) (first * rule_size l.clocks) (l.rules - first)) ≡ number a (rules_of f))
  sections_number a first e =
      let few : first ≤ l.rules = omega (arith, lower_rules f k.passes a, k.rules) in
      let read = rules_drop l.clocks (part f l.rules_start (l.rules_end - l.rules_start)) 0 first l.rules few in (
        few,
        ap (λ (z : ℕ). below (a + 1) (rules_from l.clocks (part f l.rules_start (l.rules_end - l.rules_start)) z (l.rules - first))) (omega arith)
            ∙ ap (below (a + 1)) (sym read)
            ∙ rw (sections_rules, e, lower_below a (rising f k.passes)) (sym (number_own a (rising f k.passes))),
      )

  -- The rules of lower locations are at most 256, in at most 5,888 bytes.
  pub sections_passed : (a first : ℕ) → first ≡ lower a (rules_of f) → (first ≤ 256) × (first * rule_size l.clocks ≤ 256 * 23)
  sections_passed a first e =
      let few : first ≤ 256 = omega (arith, sections_number a first e, sections_limits) in
      let size : rule_size l.clocks ≤ 23 = omega (arith, sections_limits) in
      (few, mul-le-mul few size)

  -- Each rule stands within the file.
  pub sections_within : (i : ℕ) → i < l.rules → l.rules_start + i * rule_size l.clocks < length f
  sections_within i h = omega (arith, sections_filled, sections_limits, mul-le-mul_right (rule_size l.clocks) h)

  module _ (a first : ℕ) (e : first ≡ lower a (rules_of f)) (i : ℕ) where
    -- A rule that comes i after the first of a location is the location's exactly if that has more than i rules.
    pub sections_more : first + i < l.rules → eqb (byte_at f (l.rules_start + (first + i) * rule_size l.clocks)) a ≡ ltb i (number a (rules_of f))
    sections_more h =
        let size = rule_size (clock_count f) in
        let n : first + i < rule_count f = omega (arith, k.rules) in
        let b = byte_part f (rules_start f) (rule_count f * size) ((first + i) * size) (rules_start f + (first + i) * size) refl (omega (arith, mul-le-mul_right size n)) in
        rw (k.start, k.clocks, ← b) (go (eqb (byte_at (rule_section f) ((first + i) * size)) a) refl (source_exactly f k.passes a (first + i) n))
      where
        go : (t : Bool) → {s : ℕ} → eqb s a ≡ t → (s ≡ a) ↔ ((lower a (rules_of f) ≤ first + i) × (first + i < lower a (rules_of f) + number a (rules_of f))) →
            t ≡ ltb i (number a (rules_of f))
        go true q x = sym (lt-ltb i _ (omega (arith, x.0 (eqb-true _ a q))))
        go false q x = sym (le-ltb i _ (not_below i _ (λ m. eqb-false _ a q (x.1 (omega arith, omega arith)))))

    -- Past the last rule of the file comes none of any location.
    pub sections_past : l.rules ≤ first + i → ltb i (number a (rules_of f)) ≡ false
    sections_past h = le-ltb i _ (omega (arith, k.rules, lower_next a (rules_of f), lower_rules f k.passes (a + 1)))

  -- A location's own rules, by the numbers of the index.
  pub sections_own : (a : ℕ) → a < l.locations → (index : List ℕ) → index ≡ index_of f →
      record { start = get_or index (2 * a) 0 * rule_size l.clocks; count = get_or index (2 * a + 1) 0 } ≡ own_of l.clocks a (rules_of f)
  sections_own a h index e = rw (e, k.clocks) (index_own f k.passes a (omega (arith, k)))
