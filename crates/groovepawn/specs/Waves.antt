-- The calls for a wave viewer: what each returns and leaves in the slice lent, that one answer alone meets it, and that it comes back from its word.
use Rattle.std.specs.Prelude.{◌≡◌, List, ℕ}
use Rattle.std.proofs.Common.{sym, ap, subst, ◌∙◌, arith}
use Rattle.streams.specs.Answer.{Answer}
use Rattle.drawing.specs.Entry.{write_of, written_out, Reads}
use Rattle.waves.specs.Laws.{write_up_to, reads_up_to, reads_one}
use Rattle.groovepawn.specs.Words.{answer_word}
use Rattle.groovepawn.specs.Fields.{answer_in, answer_back}

-- The word of a stream that is written as a text.
unfoldable pub wave_write_word : (file events out : List ℕ) → ℕ
wave_write_word file events out = answer_word (write_of file events out)

-- `after` is what the slice for the text holds then.
pub record WaveWriteCall (file events before : List ℕ) (r : ℕ) (after : List ℕ) : Type 0 where
  pub said : r ≡ wave_write_word file events before
  pub text : after ≡ written_out file events before

-- The word is that of the reader's answer, and `after` what the slice for the events holds then.
pub record WaveReadCall (file text before : List ℕ) (r : ℕ) (after : List ℕ) : Type 0 where
  pub says : Answer ℕ
  pub reads : Reads file text before says after
  pub said : r ≡ answer_word says

-- One answer alone meets `WaveWriteCall`, and one later content of the slice for the text.
pub wave_write_one : {file events before after also : List ℕ} {r q : ℕ} →
    WaveWriteCall file events before r after → WaveWriteCall file events before q also → (r ≡ q) × (after ≡ also)
wave_write_one h g = (h.said ∙ sym g.said, h.text ∙ sym g.text)

-- One answer alone meets `WaveReadCall`, and one later content of the slice for the events.
pub wave_read_one : {file text before after also : List ℕ} {r q : ℕ} →
    WaveReadCall file text before r after → WaveReadCall file text before q also → (r ≡ q) × (after ≡ also)
wave_read_one {file} {text} {before} h g =
    let k = reads_one file text before h.reads g.reads in (h.said ∙ ap answer_word k.0 ∙ sym g.said, k.1)

-- The answer of the writer comes back from its word.
pub wave_write_fields : (file events out : List ℕ) → answer_in (wave_write_word file events out) ≡ write_of file events out
unfolding wave_write_word
wave_write_fields file events out = answer_back (write_of file events out) 29 (omega arith) (write_up_to file events out)

-- The answer of the reader comes back from its word.
pub wave_read_fields : {file text before after : List ℕ} {r : ℕ} → WaveReadCall file text before r after → Reads file text before (answer_in r) after
wave_read_fields {file} {text} {before} {after} h =
    let e = ap answer_in h.said ∙ answer_back h.says 21 (omega arith) (reads_up_to file text before h.reads) in
    subst (λ (a : Answer ℕ). Reads file text before a after) (sym e) h.reads
