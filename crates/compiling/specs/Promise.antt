-- What the reader answers, for any bytes, and that one answer alone meets it.
-- In order: what is answered and what is written; the two promises; what a judgement says of the text; and the ways a reading ends, each of which
-- keeps its promise: a refused line, a policy refused as a whole, a slice that is too short, and a file.
use Rattle.std.specs.Prelude.{◌≡◌, Option, Some, None, Result, Ok, Err, Bool, true, false, cond, leb, get_or, take}
use Rattle.std.proofs.Math.Path.{refl, ap, sym, subst}
use Rattle.std.proofs.Common.{◌∙◌, mul-le-mul, le-leb}
use Rattle.std.proofs.lemmas.Bool.{false≢true, lt-leb}
use mathlib.Core.List.{List, ◌++◌}
use Prim.Native.Nat.{ℕ, zero, suc, ◌+◌, ◌*◌, ◌≤◌, ◌<◌}
use native.Mathlib.Omega.{arith}
use Rattle.std.proofs.Math.ListN.{length, drop, length-append}
use Rattle.std.proofs.Math.Seq.{get_or-take}
use Rattle.streams.specs.Answer.{◌or_else◌, unless}
use Rattle.policy.specs.Rules.{Rule, Policy}
use Rattle.policy.specs.File.{rule_size}
use Rattle.policy.specs.Number.{states_of}
use Rattle.policy.specs.Check.{refusal_of}
use Rattle.policy.specs.Checked.{ceiling_at}
use Rattle.policy.specs.Bytes.{bytes_of, counts_bytes, rules_bytes}
use Rattle.policy.specs.ReadBack.{nearly_length}
use Rattle.texts.specs.Wrote.{Wrote}
use Rattle.texts.specs.WroteLaws.{wrote_then}
use Rattle.wording.specs.Words.{lines_of}
use Rattle.wording.specs.Reader.{Draft, empty, FromText, stops, reads, read_lines, said_by, policy_from, policy_from_text, passed, filed, file_from_text}
use Rattle.wording.specs.Good.{Good, all_good, good_nearly}
use Rattle.wording.specs.Given.{good_refusal}
use Rattle.declarations.specs.Table.{draft_of, Fit}
use Rattle.declarations.specs.Fresh.{spans_long}
use Rattle.declarations.specs.SignalLine.{inputs_long, outputs_long}
use Rattle.declarations.specs.declared.table.Table.{Table}
use Rattle.compiling.specs.Counts.{counts_of, ceilings_long, counts_are}
use Rattle.compiling.specs.Refused.{as_whole}
use Rattle.compiling.specs.declared.refused.LineRefusal.{LineRefusal}
use Rattle.refusals.specs.Refused.{number_of}
use Rattle.refusals.specs.Laws.{number_above}
use Rattle.refusals.specs.declared.Refusal.{Refusal}

-- The file, if the slice has room for it. 14: it has not.
abbrev pub fitted : List ℕ → FromText (List ℕ) → FromText (List ℕ)
fitted out (stops n line) = stops n line
fitted out (reads f) = cond (leb (length f) (length out)) (reads f) (stops 14 0)

-- In 01's numbers: a refusal and the line that it stands in, 0 for the file's own; or 0 and the length written.
pub record ReadText : Type 0 where
  pub refusal : ℕ
  pub line : ℕ
  pub length : ℕ

-- A refusal with its line, or the length of the file.
abbrev pub answered : FromText (List ℕ) → ReadText
answered (stops n line) = record { refusal = n; line = line; length = 0 }
answered (reads f) = record { refusal = 0; line = 0; length = length f }

-- What the slice holds afterwards: a refusal writes nothing.
abbrev pub filled : List ℕ → FromText (List ℕ) → List ℕ
filled out (stops n line) = out
filled out (reads f) = f ++ drop (length f) out

-- What `compile` promises: its answer, and what the slice holds afterwards.
pub record ReadTextPromise (text before : List ℕ) (r : ReadText) (after : List ℕ) : Type 0 where
  pub says : r ≡ answered (fitted before (file_from_text text))
  pub writes : after ≡ filled before (fitted before (file_from_text text))

-- One answer and one content of the slice alone keep this promise.
pub read_one : {text before after other : List ℕ} {r s : ReadText} → ReadTextPromise text before r after → ReadTextPromise text before s other → (r ≡ s) × (after ≡ other)
read_one w v = (w.says ∙ sym v.says, w.writes ∙ sym v.writes)

-- What a length or a refusal says, as an answer of the reader.
abbrev pub read_said : Result ℕ LineRefusal → ReadText
read_said (Ok n) = record { refusal = 0; line = 0; length = n }
read_said (Err e) = record { refusal = number_of e.refusal; line = e.line; length = 0 }

-- The same of a judgement: 14, where there is no room.
abbrev pub judged_said : Result (Option ℕ) LineRefusal → ReadText
judged_said (Ok (Some n)) = record { refusal = 0; line = 0; length = n }
judged_said (Ok None) = record { refusal = 14; line = 0; length = 0 }
judged_said (Err e) = record { refusal = number_of e.refusal; line = e.line; length = 0 }

-- The text is a policy's.
abbrev pub is_read : FromText (List ℕ) → Bool
is_read (stops n line) = false
is_read (reads f) = true

-- The judgement says that it is one.
abbrev pub is_good : Result (Option ℕ) LineRefusal → Bool
is_good (Ok n) = true
is_good (Err e) = false

-- What a judgement says in numbers: an answer of the reader, and whether the text is a policy's.
abbrev pub JudgedAs : (text before : List ℕ) → ReadText → Bool → (after : List ℕ) → Type 0
JudgedAs text before r good after = ReadTextPromise text before r after × (good ≡ is_read (file_from_text text))

-- What `judge` promises: as `compile`, and whether the text is a policy's, with room for its file or without.
pub record JudgePromise (text before : List ℕ) (r : Result (Option ℕ) LineRefusal) (after : List ℕ) : Type 0 where
  pub read : ReadTextPromise text before (judged_said r) after
  pub good : is_good r ≡ is_read (file_from_text text)

-- What a judgement says of the text.
module _ {text before after : List ℕ} where
  -- A text that is not good gives no file, and the answer has its refusal and its line.
  pub judged_not : {r : ReadText} → JudgedAs text before r false after → file_from_text text ≡ stops r.refusal r.line
  judged_not {r} w = go (file_from_text text) refl
    where
      go : (x : FromText (List ℕ)) → file_from_text text ≡ x → file_from_text text ≡ stops r.refusal r.line
      go (stops n line) k =
          let s = sym (w.0.says ∙ ap (λ (y : FromText (List ℕ)). answered (fitted before y)) k) in
          k ∙ (λ i. stops (s i).refusal (s i).line)
      go (reads f) k = absurd (false≢true (w.1 ∙ ap is_read k))

  -- So it is where `judge` refuses it.
  pub judge_not : (e : LineRefusal) → JudgePromise text before (Err e) after → file_from_text text ≡ stops (number_of e.refusal) e.line
  judge_not e w = judged_not (w.read, w.good)

  -- A text that is good gives a file.
  pub judged_good : (n : Option ℕ) → JudgePromise text before (Ok n) after → (f : List ℕ) × (file_from_text text ≡ reads f)
  judged_good n w = go (file_from_text text) refl
    where
      go : (x : FromText (List ℕ)) → file_from_text text ≡ x → (f : List ℕ) × (file_from_text text ≡ reads f)
      go (stops m line) k = absurd (false≢true (sym (w.good ∙ ap is_read k)))
      go (reads f) k = (f, k)

module _ (text before : List ℕ) where
  promised : {x : FromText (List ℕ)} → fitted before (file_from_text text) ≡ x → {r : ReadText} {after : List ℕ} → r ≡ answered x → after ≡ filled before x → ReadTextPromise text before r after
  promised e a b = record { says = a ∙ ap answered (sym e); writes = b ∙ ap (filled before) (sym e) }

  stopped : {n line : ℕ} → file_from_text text ≡ stops n line → JudgedAs text before (record { refusal = n; line = line; length = 0 }) false before
  stopped e = (promised (ap (fitted before) e) refl refl, sym (ap is_read e))

  judged : (e : LineRefusal) → JudgedAs text before (judged_said (Err e)) false before → JudgePromise text before (Err e) before
  judged e k = record { read = k.0; good = k.1 }

  -- Where a line is refused, the answer is its refusal and its number, and nothing is written.
  pub read_stopped : {n line : ℕ} → read_lines 1 empty (lines_of text) ≡ stops n line → JudgedAs text before (record { refusal = n; line = line; length = 0 }) false before
  unfolding file_from_text policy_from_text
  read_stopped e = stopped (ap (λ (x : FromText Draft). filed (said_by 1 x)) e)

  -- So `judge` keeps its promise.
  pub judge_stopped : (e : LineRefusal) → read_lines 1 empty (lines_of text) ≡ stops (number_of e.refusal) e.line → JudgePromise text before (Err e) before
  judge_stopped e h = judged e (read_stopped h)

  module _ (starts lengths left : List ℕ) {t : Table} (f : Fit t) {rules : List Rule} (lines : read_lines 1 empty (lines_of text) ≡ reads (draft_of text starts lengths left t rules)) {count : ℕ} (many : length rules ≡ count) where
    abbrev d : Draft
    d = draft_of text starts lengths left t rules

    abbrev p : Policy
    p = policy_from 1 d

    good : Good d
    good = all_good (lines_of text) d lines

    named : length d.places ≡ t.places
    named = spans_long text starts lengths 12 t.places

    -- The ceilings are those that the check takes.
    pub ceilings_fit : (i : ℕ) → i < t.clocks → get_or t.ceilings i 0 ≤ 1001
    ceilings_fit i h =
        let c = ceiling_at d.ceilings good.clocks.good i (omega (arith, ceilings_long f)) in
        omega (arith, c.1, get_or-take t.clocks t.ceilings i 0 h)

    states_taken : (k : ℕ) → k ≤ t.clocks → states_of (take t.clocks t.ceilings) k t.places ≡ states_of t.ceilings k t.places
    unfolding states_of
    states_taken zero h = refl
    states_taken (suc k) h =
        let e = get_or-take t.clocks t.ceilings k 0 (omega arith) in
        (λ i. states_taken k (omega arith) i * suc (e i))

    -- The file's own refusal: 2, 9, or 0 for none.
    abbrev pub own_refusal : ℕ
    own_refusal = unless (leb 1 t.places) 2 or_else unless (leb (states_of t.ceilings t.clocks t.places) 65536) 9

    own_is : refusal_of (bytes_of p) ≡ own_refusal
    unfolding policy_from
    own_is =
        good_refusal d good
        ∙ (λ i. unless (leb 1 (named i)) 2 or_else unless (leb (states_of (take t.clocks t.ceilings) (ceilings_long f i) (named i)) 65536) 9)
        ∙ ap (λ (n : ℕ). unless (leb 1 t.places) 2 or_else unless (leb n 65536) 9) (states_taken t.clocks (omega arith))

    file_is : file_from_text text ≡ passed (refusal_of (bytes_of p)) (bytes_of p)
    unfolding file_from_text policy_from_text
    file_is = ap (λ (x : FromText Draft). filed (said_by 1 x)) lines

    -- How long the file is.
    abbrev pub file_length : ℕ
    file_length = 6 + t.signals + 2 * t.clocks + t.places + count * (7 + 4 * t.clocks)

    file_long : length (bytes_of p) ≡ file_length
    unfolding policy_from
    file_long =
        let c = ceilings_long f in
        let body : length p.rules * rule_size (length p.ceilings) ≡ count * (7 + 4 * t.clocks) = (λ j. many j * rule_size (c j)) in
        omega (arith, nearly_length p (good_nearly 1 d good), inputs_long f, outputs_long f, c, named, body, f.order)

    -- Where all lines are read and the policy is refused as a whole, the answer has line 0, and nothing is written.
    pub read_own : {n : ℕ} → n ≡ own_refusal → (n ≡ 0 → ⊥) → JudgedAs text before (record { refusal = n; line = 0; length = 0 }) false before
    read_own {n} e z = stopped (go n z (file_is ∙ ap (λ (m : ℕ). passed m (bytes_of p)) (own_is ∙ sym e)))
      where
        go : (m : ℕ) → (m ≡ 0 → ⊥) → file_from_text text ≡ passed m (bytes_of p) → file_from_text text ≡ stops m 0
        go zero y h = absurd (y refl)
        go (suc m) y h = h

    -- So `judge` keeps its promise.
    pub judge_own : (d : Refusal) → number_of d ≡ own_refusal → JudgePromise text before (Err (as_whole d)) before
    judge_own d e = judged (as_whole d) (read_own e (λ z. omega (arith, number_above d)))

    module _ (e : 0 ≡ own_refusal) where
      file_read : file_from_text text ≡ reads (bytes_of p)
      file_read = file_is ∙ ap (λ (m : ℕ). passed m (bytes_of p)) (own_is ∙ sym e)

      with_room : {b : Bool} → leb (length (bytes_of p)) (length before) ≡ b → fitted before (file_from_text text) ≡ cond b (reads (bytes_of p)) (stops 14 0)
      with_room h = ap (fitted before) file_read ∙ ap (λ (b : Bool). cond b (reads (bytes_of p)) (stops 14 0)) h

      -- Where the file is longer than the slice, the text is good, the answer is 14, and nothing is written.
      pub read_short : length before < file_length → JudgePromise text before (Ok None) before
      read_short h = record { read = promised (with_room (lt-leb (length (bytes_of p)) (length before) (omega (arith, file_long)))) refl refl; good = sym (ap is_read file_read) }

      -- The counts, then the rules.
      pub counts_room : file_length ≤ length before → length (counts_of left t count) + length (rules_bytes rules) ≤ length before
      unfolding bytes_of policy_from
      counts_room h =
          let c = ap length (counts_are text starts lengths left f rules count many) in
          omega (arith, file_long, length-append (counts_bytes p) (rules_bytes rules), c)

      -- Where there is room, and the counts and then the rules are written from 0 on, the answer is the file's length.
      pub read_whole : file_length ≤ length before → {middle after : List ℕ} {from end : ℕ} → Wrote before 0 (counts_of left t count) from middle → Wrote middle from (rules_bytes rules) end after →
          JudgePromise text before (Ok (Some end)) after
      unfolding bytes_of policy_from
      read_whole h {after = after} {end = end} w v =
          let c = counts_are text starts lengths left f rules count many in
          let both : Wrote before 0 (bytes_of p) end after = subst (λ (b : List ℕ). Wrote before 0 (b ++ rules_bytes rules) end after) (sym c) (wrote_then (omega arith) w v) in
          let y : 0 + length (bytes_of p) ≡ length (bytes_of p) = omega arith in
          let long = both.next ∙ y in
          record {
            read = promised (with_room (le-leb (length (bytes_of p)) (length before) (omega (arith, file_long)))) (λ i. record { refusal = 0; line = 0; length = long i }) (both.text ∙ ap (λ (n : ℕ). bytes_of p ++ drop n before) y);
            good = sym (ap is_read file_read);
          }

-- A file's rules take at most 5,888 bytes.
pub rules_small : (count clocks : ℕ) → count ≤ 256 → clocks ≤ 4 → count * (7 + 4 * clocks) ≤ 5888
rules_small count clocks h l = let s : 7 + 4 * clocks ≤ 23 = omega arith in mul-le-mul h s
