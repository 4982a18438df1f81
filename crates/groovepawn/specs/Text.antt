-- The calls for policy texts: what each returns and leaves in the slice lent, that one answer alone meets it, and that it comes back from its word.
-- In order: the word of each call; the calls; that one answer alone meets each; how large the numbers are; the answers read back from their words;
-- what a refusal leaves.
use Rattle.std.specs.Prelude.{◌≡◌, refl, Bool, true, false, cond, List, ℕ, zero, suc, ◌+◌, ◌*◌, ◌/◌, ◌%◌, ◌^◌, ◌≤◌, ◌<◌, leb, ltb, eqb, length, get_or}
use Rattle.std.proofs.Common.{sym, ap, ◌∙◌, arith, ne_eqb}
use Rattle.streams.specs.Answer.{Answer, answer}
use Rattle.streams.specs.AnswerLaws.{answer_up_to, none_refused, unless_le, else_le}
use Rattle.policy.specs.Check.{refusal_of}
use Rattle.policy.specs.CheckLaws.{refusal_le}
use Rattle.wording.specs.Reader.{FromText, stops, reads, file_from_text}
use Rattle.wording.specs.Writer.{text_of_file}
use Rattle.wording.specs.RuleLines.{rule_numbers}
use Rattle.wording.specs.Good.{good_at_most}
use Rattle.wording.specs.Given.{read_said}
use Rattle.wording.specs.Longest.{written_at_most}
use Rattle.compiling.specs.Promise.{ReadText, fitted, answered, filled}
use Rattle.showing.specs.Entry.{write_refusal, written_over, length_unless}
use Rattle.pointing.specs.RuleAt.{RuleAt, line_of_rule, rule_found}
use Rattle.pointing.specs.NameAt.{NameAt, name_given}
use Rattle.wording.specs.Given.{stopped_by}
use Rattle.pointing.specs.Short.{Shaped, given_shaped}
use Rattle.groovepawn.specs.Words.{answer_word}
use Rattle.groovepawn.specs.Fields.{answer_in, answer_back}

-- A refusal; a line or a place from bit 8 on, held modulo 2 ^ 32; and a length from bit 40 on.
abbrev pub placed_word : (n at size : ℕ) → ℕ
placed_word n at size = n + at % 2 ^ 32 * 256 + size * 1099511627776

-- What the reader answers: a refusal with its line, or the length of the file.
abbrev pub text_read_of : (text out : List ℕ) → ReadText
text_read_of text out = answered (fitted out (file_from_text text))

-- The word of a text that is read.
unfoldable pub text_read_word : (text out : List ℕ) → ℕ
text_read_word text out = placed_word (text_read_of text out).refusal (text_read_of text out).line (text_read_of text out).length

-- What the writer answers: a refusal, or the length of the text.
abbrev pub text_write_of : (file out : List ℕ) → Answer ℕ
text_write_of file out = answer (write_refusal file out) (length (text_of_file file))

-- The word of a text that is written.
unfoldable pub text_write_word : (file out : List ℕ) → ℕ
text_write_word file out = answer_word (text_write_of file out)

-- The line of the rule i in a text, or a refusal with its line.
abbrev pub text_rule_of : List ℕ → ℕ → RuleAt
text_rule_of text i = rule_found (line_of_rule text i (file_from_text text))

-- The line from bit 8 on, held modulo 2 ^ 32.
unfoldable pub text_rule_word : List ℕ → ℕ → ℕ
text_rule_word text i = (text_rule_of text i).refusal + (text_rule_of text i).line % 2 ^ 32 * 256

-- The line of a refusal, or where the name begins.
abbrev pub where_of : NameAt → ℕ
where_of r = cond (eqb r.refusal 0) r.place r.line

-- The word of a name: its refusal with the line, or its place and length.
abbrev pub named_word : NameAt → ℕ
named_word r = placed_word r.refusal (where_of r) r.length

-- Where the i-th name of this kind stands in a text, or a refusal with its line.
abbrev pub text_name_of : (kind : ℕ) → List ℕ → ℕ → NameAt
text_name_of kind text i = name_given kind text i (file_from_text text)

-- The word of the i-th name of this kind.
unfoldable pub text_name_word : (kind : ℕ) → List ℕ → ℕ → ℕ
text_name_word kind text i = named_word (text_name_of kind text i)

-- `after` is what the slice for the file holds then.
pub record TextReadCall (text before : List ℕ) (r : ℕ) (after : List ℕ) : Type 0 where
  pub said : r ≡ text_read_word text before
  pub file : after ≡ filled before (fitted before (file_from_text text))

-- `after` is what the slice for the text holds then.
pub record TextWriteCall (file before : List ℕ) (r : ℕ) (after : List ℕ) : Type 0 where
  pub said : r ≡ text_write_word file before
  pub text : after ≡ written_over (text_of_file file) before (write_refusal file before)

-- r is what the call for the line of the rule i returns.
pub record TextRuleCall (text : List ℕ) (i r : ℕ) : Type 0 where
  pub said : r ≡ text_rule_word text i

-- Of a signal (kind 0), a clock (1) or a location (2).
pub record TextNameCall (kind : ℕ) (text : List ℕ) (i r : ℕ) : Type 0 where
  pub said : r ≡ text_name_word kind text i

-- One answer alone meets `TextReadCall`, and one later content of the slice for the file.
pub text_read_one : {text before after also : List ℕ} {r q : ℕ} → TextReadCall text before r after → TextReadCall text before q also → (r ≡ q) × (after ≡ also)
text_read_one h g = (h.said ∙ sym g.said, h.file ∙ sym g.file)

-- One answer alone meets `TextWriteCall`, and one later content of the slice for the text.
pub text_write_one : {file before after also : List ℕ} {r q : ℕ} →
    TextWriteCall file before r after → TextWriteCall file before q also → (r ≡ q) × (after ≡ also)
text_write_one h g = (h.said ∙ sym g.said, h.text ∙ sym g.text)

-- One answer alone meets `TextRuleCall`.
pub text_rule_one : {text : List ℕ} {i r q : ℕ} → TextRuleCall text i r → TextRuleCall text i q → r ≡ q
text_rule_one h g = h.said ∙ sym g.said

-- One answer alone meets `TextNameCall`.
pub text_name_one : {kind : ℕ} {text : List ℕ} {i r q : ℕ} → TextNameCall kind text i r → TextNameCall kind text i q → r ≡ q
text_name_one h g = h.said ∙ sym g.said

-- How large the numbers are. "The longest is 5,974 bytes."
pub read_small : (text out : List ℕ) → ((text_read_of text out).refusal ≤ 34) × ((text_read_of text out).length ≤ 5974)
read_small text out = go (file_from_text text) refl
  where
    go : (x : FromText (List ℕ)) → file_from_text text ≡ x → ((answered (fitted out x)).refusal ≤ 34) × ((answered (fitted out x)).length ≤ 5974)
    go (stops n line) e = ((stopped_by text n line e).1, omega arith)
    go (reads f) e = fits (leb (length f) (length out))
      where
        short : length f ≤ 5974
        short = let s = read_said text f e in rw (← s.file) (good_at_most s.draft s.good)

        fits : (t : Bool) →
            let a = answered (cond t (reads f) (stops 14 0)) in (a.refusal ≤ 34) × (a.length ≤ 5974)
        fits true = (omega arith, short)
        fits false = (omega arith, omega arith)

-- The writer refuses by a number up to 14.
pub write_le : (file out : List ℕ) → write_refusal file out ≤ 14
unfolding write_refusal
write_le file out = let f : refusal_of file ≤ 14 = omega (arith, refusal_le file) in search (else_le, unless_le)

passes : (file out : List ℕ) → write_refusal file out ≡ 0 → refusal_of file ≡ 0
unfolding write_refusal
passes file out e = ((none_refused (refusal_of file) _).0 e).0

-- What the code adds up is the word, and the length is small: with a refusal it is 0.
pub written_word : (file out : List ℕ) →
    let size = length_unless (write_refusal file out) (length (text_of_file file)) in
    (size ≤ 39420) × (write_refusal file out + size * 256 ≡ text_write_word file out)
unfolding text_write_word
written_word file out = go (write_refusal file out) refl
  where
    go : (n : ℕ) → write_refusal file out ≡ n →
        let size = length_unless n (length (text_of_file file)) in
        (size ≤ 39420) × (n + size * 256 ≡ answer_word (answer n (length (text_of_file file))))
    go zero e = (written_at_most file (passes file out e), omega arith)
    go (suc n) e = (omega arith, omega arith)

-- The call for a rule's line refuses by a number up to 35.
pub rule_small : (text : List ℕ) (i : ℕ) → (text_rule_of text i).refusal ≤ 35
rule_small text i = go (file_from_text text) refl
  where
    go : (x : FromText (List ℕ)) → file_from_text text ≡ x → (rule_found (line_of_rule text i x)).refusal ≤ 35
    go (stops n line) e = omega (arith, (stopped_by text n line e).1)
    go (reads f) e = there (ltb i (length (rule_numbers text)))
      where
        there : (t : Bool) → (rule_found (cond t (reads (get_or (rule_numbers text) i 0)) (stops 35 0))).refusal ≤ 35
        there true = omega arith
        there false = omega arith

-- The answers that words hold, as the header's macros read them.
abbrev pub text_read_in : ℕ → ReadText
text_read_in w = record { refusal = w % 256; line = w / 256 % 4294967296; length = w / 1099511627776 }

-- The answer in the word of a rule's line.
abbrev pub text_rule_in : ℕ → RuleAt
text_rule_in w = record { refusal = w % 256; line = w / 256 }

-- By the refusal n: a name of `size` bytes at `at`, or a refusal with the line `at`.
abbrev pub name_held : (n at size : ℕ) → NameAt
name_held zero at size = record { refusal = 0; line = 0; place = at; length = size }
name_held (suc n) at size = record { refusal = suc n; line = at; place = 0; length = 0 }

-- The answer in the word of a name.
abbrev pub text_name_in : ℕ → NameAt
text_name_in w = name_held (w % 256) (w / 256 % 4294967296) (w / 1099511627776)

record Placed (n at size w : ℕ) : Type 0 where
  refusal : w % 256 ≡ n
  place : w / 256 % 4294967296 ≡ at
  long : w / 1099511627776 ≡ size

placed_back : (n at size : ℕ) → n < 256 → at < 2 ^ 32 → Placed n at size (placed_word n at size)
placed_back n at size h l =
    let e : at % 2 ^ 32 ≡ at = omega arith in
    let w = n + at * 256 + size * 1099511627776 in
    let u : w / 256 ≡ at + size * 4294967296 = omega arith in
    let a : (at + size * 4294967296) % 4294967296 ≡ at = omega arith in
    rw e (record { refusal = omega arith; place = ap (λ (m : ℕ). m % 4294967296) u ∙ a; long = omega arith })

-- What is answered comes back from the word, if its line or its place is below 2 ^ 32.
pub text_read_fields : (text out : List ℕ) → (text_read_of text out).line < 2 ^ 32 → text_read_in (text_read_word text out) ≡ text_read_of text out
unfolding text_read_word
text_read_fields text out l =
    let r = text_read_of text out in
    let k = placed_back r.refusal r.line r.length (omega (arith, read_small text out)) l in
    λ i. record { refusal = k.refusal i; line = k.place i; length = k.long i }

-- The answer of the writer comes back from its word.
pub text_write_fields : (file out : List ℕ) → answer_in (text_write_word file out) ≡ text_write_of file out
unfolding text_write_word
text_write_fields file out = answer_back (text_write_of file out) 14 (omega arith) (answer_up_to (write_refusal file out) (length (text_of_file file)) (write_le file out))

-- The same as the writer's two numbers.
pub text_write_numbers : (file out : List ℕ) →
    (text_write_word file out % 256 ≡ write_refusal file out) × (text_write_word file out / 256 ≡ length_unless (write_refusal file out) (length (text_of_file file)))
text_write_numbers file out = let k = written_word file out in let l = write_le file out in (omega arith, omega arith)

-- The line of a rule comes back from its word, if it is below 2 ^ 32.
pub text_rule_fields : (text : List ℕ) (i : ℕ) → (text_rule_of text i).line < 2 ^ 32 → text_rule_in (text_rule_word text i) ≡ text_rule_of text i
unfolding text_rule_word
text_rule_fields text i l =
    let r = text_rule_of text i in
    let s = rule_small text i in
    let e : r.line % 2 ^ 32 ≡ r.line = omega arith in
    let a : (r.refusal + r.line * 256) % 256 ≡ r.refusal = omega arith in
    let b : (r.refusal + r.line * 256) / 256 ≡ r.line = omega arith in
    ap (λ (m : ℕ). text_rule_in (r.refusal + m * 256)) e ∙ (λ j. record { refusal = a j; line = b j })

-- Where a name stands comes back from its word, if its place or line is below 2 ^ 32.
pub text_name_fields : (kind : ℕ) (text : List ℕ) (i : ℕ) → where_of (text_name_of kind text i) < 2 ^ 32 → text_name_in (text_name_word kind text i) ≡ text_name_of kind text i
unfolding text_name_word
text_name_fields kind text i = back (text_name_of kind text i) (given_shaped kind text i)
  where
    back : (r : NameAt) → Shaped r → where_of r < 2 ^ 32 → text_name_in (named_word r) ≡ r
    back r s l =
        let k = placed_back r.refusal (where_of r) r.length (omega (arith, s.number)) l in
        (λ j. name_held (k.refusal j) (k.place j) (k.long j)) ∙ held r.refusal refl
      where
        held : (n : ℕ) → r.refusal ≡ n → name_held n (cond (eqb n 0) r.place r.line) r.length ≡ r
        held zero e = λ j. record { refusal = sym e j; line = sym (s.found e) j; place = r.place; length = r.length }
        held (suc n) e =
            let q = ne_eqb (suc n) 0 (λ z. omega arith) in
            let o = s.none (λ z. omega arith) in
            ap (λ (t : Bool). record { refusal = suc n; line = cond t r.place r.line; place = 0; length = 0 }) q
            ∙ (λ j. record { refusal = sym e j; line = r.line; place = sym o.0 j; length = sym o.1 j })

-- With a refusal, read off the word's low eight bits, the slice stays.
pub text_read_stays : (text out : List ℕ) → (text_read_word text out % 256 ≡ 0 → ⊥) → filled out (fitted out (file_from_text text)) ≡ out
unfolding text_read_word
text_read_stays text out = go (fitted out (file_from_text text))
  where
    go : (x : FromText (List ℕ)) → (placed_word (answered x).refusal (answered x).line (answered x).length % 256 ≡ 0 → ⊥) → filled out x ≡ out
    go (stops n line) h = refl
    go (reads f) h = absurd (h (omega arith))

-- With a refusal the slice for the text stays.
pub text_write_stays : (file out : List ℕ) → (text_write_word file out % 256 ≡ 0 → ⊥) → written_over (text_of_file file) out (write_refusal file out) ≡ out
unfolding text_write_word
text_write_stays file out = go (write_refusal file out)
  where
    go : (n : ℕ) → (answer_word (answer n (length (text_of_file file))) % 256 ≡ 0 → ⊥) → written_over (text_of_file file) out n ≡ out
    go zero h = absurd (h (omega arith))
    go (suc n) h = refl
