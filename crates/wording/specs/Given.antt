-- What a text that is read gives, and what is refused of one that is not.
use Rattle.std.specs.Prelude.{◌≡◌, refl, ◌⊎◌, Bool, true, false, List, ℕ, zero, suc, ◌≤◌, ◌<◌, leb, length, get_or}
use Rattle.std.proofs.Common.{ap, sym, ◌∙◌, ⊎_elim, arith, leb-true}
use Rattle.streams.specs.Answer.{◌or_else◌, unless}
use Rattle.streams.specs.AnswerLaws.{none_refused, none_unless}
use Rattle.policy.specs.Number.{states}
use Rattle.policy.specs.File.{policy_of}
use Rattle.policy.specs.Check.{refusal_of}
use Rattle.policy.specs.Bytes.{bytes_of}
use Rattle.policy.specs.Sound.{WellFormed, wholly}
use Rattle.policy.specs.ReadBack.{read_back}
use Rattle.policy.specs.WrittenBytes.{bytes_are_bytes}
use Rattle.policy.specs.WrittenPasses.{written_refusal}
use Rattle.wording.specs.Words.{lines_of}
use Rattle.wording.specs.Reader.{Draft, empty, FromText, stops, reads, read_lines, said_by, policy_from, policy_from_text, passed, filed, file_from_text}
use Rattle.wording.specs.Writer.{text_of_file}
use Rattle.wording.specs.Good.{Good, all_good, good_nearly}
use Rattle.wording.specs.Refuses.{in_line, in-line, in_line_few}
use Rattle.wording.specs.Back.{any_file_back, text_passes}

-- The file that a draft gives is refused, if at all, for its locations or for its states.
pub good_refusal : (d : Draft) → Good d →
    refusal_of (bytes_of (policy_from 1 d)) ≡ (unless (leb 1 (policy_from 1 d).locations) 2 or_else unless (leb (states (policy_from 1 d)) 65536) 9)
good_refusal d g = written_refusal (policy_from 1 d) (good_nearly 1 d g)

-- A refusal is 4, 7 or 30 to 34 in a line of the text; or, of the text as a whole, 2 (it has no location) or 9 (it has too many states).
pub refused_so : (text : List ℕ) (n line : ℕ) → file_from_text text ≡ stops n line →
    ((in_line n ≡ true) × (1 ≤ line) × (line ≤ length (lines_of text))) ⊎ (((n ≡ 2) ⊎ (n ≡ 9)) × (line ≡ 0))
unfolding file_from_text policy_from_text
refused_so text n line h = go (read_lines 1 empty (lines_of text)) refl h
  where
    whole : (a b : Bool) (m : ℕ) (f : List ℕ) → m ≡ (unless a 2 or_else unless b 9) → passed m f ≡ stops n line → ((n ≡ 2) ⊎ (n ≡ 9)) × (line ≡ 0)
    whole a b zero f e k = absurd (let z : ◌≡◌ {A = ℕ} 0 1 = cc in omega arith)
    whole false b (suc m) f e k =
        let number : suc m ≡ n = cc in
        let place : ◌≡◌ {A = ℕ} 0 line = cc in
        (◌⊎◌.inl (sym number ∙ e), sym place)
    whole true false (suc m) f e k =
        let number : suc m ≡ n = cc in
        let place : ◌≡◌ {A = ℕ} 0 line = cc in
        (◌⊎◌.inr (sym number ∙ e), sym place)
    whole true true (suc m) f e k = absurd (omega arith)

    go : (r : FromText Draft) → read_lines 1 empty (lines_of text) ≡ r → filed (said_by 1 r) ≡ stops n line →
        ((in_line n ≡ true) × (1 ≤ line) × (line ≤ length (lines_of text))) ⊎ (((n ≡ 2) ⊎ (n ≡ 9)) × (line ≡ 0))
    go (stops m k) e g =
        let number : m ≡ n = cc in
        let place : k ≡ line = cc in
        let at = in-line 1 empty (lines_of text) n line (e ∙ (λ i. stops (number i) (place i))) in
        ◌⊎◌.inl (at.0, at.1, omega (arith, at.2))
    go (reads d) e g =
        let p = policy_from 1 d in
        ◌⊎◌.inr (whole (leb 1 p.locations) (leb (states p) 65536) (refusal_of (bytes_of p)) (bytes_of p) (good_refusal d (all_good (lines_of text) d e)) g)

-- So it is one of the numbers 1 to 34.
pub stopped_by : (text : List ℕ) (n line : ℕ) → file_from_text text ≡ stops n line → (0 < n) × (n ≤ 34)
stopped_by text n line h =
    ⊎_elim (λ k. in_line_few n k.0) (λ k. ⊎_elim (λ e. (omega arith, omega arith)) (λ e. (omega arith, omega arith)) k.0) (refused_so text n line h)

-- What a text that is read says: the draft of its lines, whose policy is well formed and has this file.
pub record Said (text f : List ℕ) : Type 0 where
  pub draft : Draft
  pub lines : read_lines 1 empty (lines_of text) ≡ reads draft
  pub good : Good draft
  pub formed : WellFormed (policy_from 1 draft)
  pub file : bytes_of (policy_from 1 draft) ≡ f

-- A text that gives the file f has such a draft.
pub read_said : (text f : List ℕ) → file_from_text text ≡ reads f → Said text f
unfolding file_from_text policy_from_text
read_said text f h = go (read_lines 1 empty (lines_of text)) refl h
  where
    file : (m : ℕ) (g : List ℕ) → passed m g ≡ reads f → (m ≡ 0) × (g ≡ f)
    file zero g k = (refl, cc)
    file (suc m) g k = absurd (let z : ◌≡◌ {A = ℕ} 0 1 = cc in omega arith)

    go : (r : FromText Draft) → read_lines 1 empty (lines_of text) ≡ r → filed (said_by 1 r) ≡ reads f → Said text f
    go (stops m k) e g = absurd (let z : ◌≡◌ {A = ℕ} 0 1 = cc in omega arith)
    go (reads d) e g =
        let p = policy_from 1 d in
        let good = all_good (lines_of text) d e in
        let both = file (refusal_of (bytes_of p)) (bytes_of p) g in
        let tests = (none_refused (unless (leb 1 p.locations) 2) (unless (leb (states p) 65536) 9)).0 (sym (good_refusal d good) ∙ both.0) in
        let start = leb-true 1 p.locations ((none_unless (leb 1 p.locations) 1).0 tests.0) in
        let room = leb-true (states p) 65536 ((none_unless (leb (states p) 65536) 8).0 tests.1) in
        record { draft = d; lines = e; good = good; formed = wholly (good_nearly 1 d good) start room; file = both.1 }

-- The policy of the file is what the lines say.
pub said_policy : {text f : List ℕ} (s : Said text f) → policy_of 1 f ≡ policy_from 1 s.draft
unfolding policy_from
said_policy s = ap (policy_of 1) (sym s.file) ∙ read_back (policy_from 1 s.draft) s.formed

-- Every number in the file is a byte.
pub read_bytes : (text f : List ℕ) → file_from_text text ≡ reads f → (i : ℕ) → get_or f i 0 < 256
read_bytes text f h = let s = read_said text f h in rw (← s.file) (bytes_are_bytes (policy_from 1 s.draft) s.formed)

-- The writer's text for the file gives it again.
pub rewritten : (text f : List ℕ) → file_from_text text ≡ reads f → file_from_text (text_of_file f) ≡ reads f
rewritten text f h = any_file_back f (read_bytes text f h) (text_passes text f h)
