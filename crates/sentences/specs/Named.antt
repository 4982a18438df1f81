-- The rule that a reason names: it is one of the file's, and where it stands.
use Rattle.std.specs.Prelude.{◌≡◌, ℕ, zero, suc, ◌+◌, ◌-◌, ◌*◌, ◌≤◌, ◌<◌, length, take, drop}
use Rattle.std.proofs.Math.Path.{refl, ap}
use Rattle.std.proofs.Common.{sym, subst, ◌∙◌, mul-le-mul_right, arith}
use mathlib.Core.List.{List}
use Rattle.std.specs.Int.Bits.{and_le_r}
use Rattle.std.proofs.Math.ListN.{get_or}
use Rattle.streams.specs.Stream.{Event}
use Rattle.policy.specs.Rules.{Rule, Place}
use Rattle.policy.specs.File.{byte_at, part, rule_size, rule_from, rules_from, input_count, outputs_at, output_count, rule_count, rule_section, clock_count, rules_start, policy_of}
use Rattle.policy.specs.Parts.{rule_part, rules_part}
use Rattle.policy.specs.Frame.{frame, part_length, rules_length}
use Rattle.policy.specs.Checked.{well_ruled}
use Rattle.policy.specs.declared.Layout.{Layout}
use Rattle.stepping.specs.Decider.{decider_lt}
use Rattle.stepping.specs.Ready.{Laid}
use Rattle.stepping.specs.Laid.{laid_well, laid_limits, laid_section}
use Rattle.explaining.specs.Reasons.{Reason, count_of, SaysWhy, by_rule, by_none, by_ticks, by_rests, SaysIn, most_rests, most_ticks, at_once, Given, forwarded, edited, Explained}
use Rattle.asks.specs.Words.{asks}
use Rattle.asks.specs.Short.{each_at}
use Rattle.frames.specs.Framed.{part_between}
use Rattle.sentences.specs.Text.{no_rule, asks_of, reason_line, Named, reason_short}

module _ (reading : ℕ) (f : List ℕ) where
  says_named : {s : Place} {e : Event} {q : Reason} → SaysWhy (policy_of reading f) s e q → Named (rule_count f) q
  unfolding policy_of
  says_named {e = e} (by_rule {i = i} d h t) = decider_lt (clock_count f) (rule_section f) _ e (rule_count f) 0 i d
  says_named (by_none h) = tt
  says_named (by_ticks h t) = tt
  says_named (by_rests h t) = tt

  in_named : {s : Place} {n x : ℕ} {q : Reason} → SaysIn (policy_of reading f) s n x q → Named (rule_count f) q
  in_named (most_rests l h m) = tt
  in_named (most_ticks l h m o) = tt
  in_named (at_once h g) = says_named g

  given_named : {says : Reason → Type 0} {w v : ℕ} {q : Reason} → ((r : Reason) → says r → Named (rule_count f) r) → Given says w v q → Named (rule_count f) q
  given_named h (forwarded e) = tt
  given_named h (edited {r = r} n s) = h r s

  -- The rules that the reasons of a tick name are among those of the file.
  pub explained_named : {marks : List ℕ} {s : Place} {x y : ℕ} {i o : Reason} → Explained (policy_of reading f) marks s x y i o →
      Named (rule_count f) i × Named (rule_count f) o
  explained_named h = (given_named (λ r s. in_named s) h.for_input, given_named (λ r s. says_named s) h.for_output)

  -- The policy has as many rules as the file counts.
  pub rules_count : length (policy_of reading f).rules ≡ rule_count f
  unfolding policy_of
  rules_count = rules_length (clock_count f) (rule_section f) 0 (rule_count f)

rule_there : (k : ℕ) (f : List ℕ) (d : Rule) (at n i : ℕ) → i < n → get_or (rules_from k f at n) i d ≡ rule_from k f (at + i * rule_size k)
unfolding rules_from
rule_there k f d at zero i l = absurd (omega arith)
rule_there k f d at (suc n) zero l = ap (rule_from k f) (omega arith)
rule_there k f d at (suc n) (suc i) l = rule_there k f d (at + rule_size k) n i (omega arith) ∙ ap (rule_from k f) (omega arith)

-- The tags lie within the file.
pub tags_fit : {f : List ℕ} {l : Layout} → Laid f l → 1 + l.inputs + 1 + l.outputs ≤ length f
tags_fit {f} k = omega (arith, frame f k.passes, k)

-- Its bytes.
module _ {f : List ℕ} {l : Layout} (k : Laid f l) (i : ℕ) (h : i < rule_count f) where
  -- They lie within the file.
  pub rule_fits : l.rules_start + i * rule_size l.clocks + rule_size l.clocks ≤ length f
  rule_fits =
      let m : i + 1 ≤ l.rules = omega (arith, k.rules) in
      omega (arith, mul-le-mul_right (rule_size l.clocks) m, laid_section k, laid_limits k)

  -- The bytes of the rule with the number i.
  abbrev pub bytes : List ℕ
  bytes = part f (l.rules_start + i * rule_size l.clocks) (rule_size l.clocks)

  -- They read as the rule.
  pub rule_reads : rule_from l.clocks bytes 0 ≡ get_or (policy_of l.reading f).rules i no_rule
  unfolding policy_of
  rule_reads =
      rule_part f (l.rules_start + i * rule_size l.clocks) (rule_size l.clocks) l.clocks 0 (l.rules_start + i * rule_size l.clocks) (omega arith) (omega arith)
      ∙ rw (k.clocks, k.start) (sym (rule_there (clock_count f) f no_rule (rules_start f) (rule_count f) i h))
      ∙ ap (λ (rs : List Rule). get_or rs i no_rule) (sym (rules_part f (clock_count f) (rules_start f) (rule_count f)))

  -- "A value has no bit outside its care mask".
  pub rule_cares : (byte_at bytes 2 ≤ byte_at bytes 1) × (byte_at bytes 4 ≤ byte_at bytes 3)
  unfolding rule_from
  rule_cares =
      let p = policy_of l.reading f in
      let g = each_at no_rule (well_ruled p (laid_well k)) i (omega (arith, rules_count l.reading f)) in
      let r = get_or p.rules i no_rule in
      let e = rule_reads in (
        omega (arith, ap (λ (z : Rule). z.in_value) e, ap (λ (z : Rule). z.in_care) e, g.formed.inputs, and_le_r r.in_value r.in_care),
        omega (arith, ap (λ (z : Rule). z.out_value) e, ap (λ (z : Rule). z.out_care) e, g.formed.outputs, and_le_r r.out_value r.out_care),
      )

  -- As the code takes the tags and the rule's bytes out of the file: what they ask is what the rule asks.
  pub inputs_taken : take (1 + l.inputs - 1) (drop 1 f) ≡ (policy_of l.reading f).inputs
  unfolding policy_of
  inputs_taken = part_between f 1 (input_count f) {start = 1} {end = 1 + l.inputs} refl (omega (arith, k.inputs))

  -- The tags of the outputs, as the code takes them out of the file.
  pub outputs_taken : take (1 + l.inputs + 1 + l.outputs - (1 + l.inputs + 1)) (drop (1 + l.inputs + 1) f) ≡ (policy_of l.reading f).outputs
  unfolding policy_of
  outputs_taken =
      let e = (frame f k.passes).inputs_end in
      part_between f (outputs_at f + 1) (output_count f) {start = 1 + l.inputs + 1} {end = 1 + l.inputs + 1 + l.outputs} (omega (arith, k.inputs)) (omega (arith, k.inputs, k.outputs))

  abbrev from : ℕ
  from = l.rules_start + i * rule_size l.clocks

  -- The rule's bytes, as the code takes them out of the file.
  pub rule_taken : take (from + rule_size l.clocks - from) (drop from f) ≡ bytes
  rule_taken = part_between f from (rule_size l.clocks) {start = from} {end = from + rule_size l.clocks} refl refl

  -- A rule's bytes are as many as a rule takes with so many clocks.
  pub rule_long : length bytes ≡ rule_size l.clocks
  rule_long = part_length f from (rule_size l.clocks) rule_fits

  -- From these parts of the file the code says what the rule asks.
  pub asks_taken :
      asks (take (1 + l.inputs - 1) (drop 1 f)) (take (1 + l.inputs + 1 + l.outputs - (1 + l.inputs + 1)) (drop (1 + l.inputs + 1) f))
      (rule_from l.clocks (take (from + rule_size l.clocks - from) (drop from f)) 0)
      ≡ asks_of (policy_of l.reading f) i
  unfolding asks_of
  asks_taken = λ d. asks (inputs_taken d) (outputs_taken d) ((ap (λ (z : List ℕ). rule_from l.clocks z 0) rule_taken ∙ rule_reads) d)

-- A line has at most 152 bytes after what stands before its words.
pub line_short : {f : List ℕ} {l : Layout} → Laid f l → (broken half : List ℕ) (q : Reason) → Named (rule_count f) q → count_of q < 65536 →
    length half ≤ length broken → length (reason_line (policy_of l.reading f) broken half q) ≤ length broken + 152
line_short {f} {l} k broken half q n c h =
    reason_short (policy_of l.reading f) (laid_well k) broken half q (subst (λ (m : ℕ). Named m q) (sym (rules_count l.reading f)) n) c h
