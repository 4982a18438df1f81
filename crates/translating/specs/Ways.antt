-- What is written and printed by each way through the reader and the writer.
use Rattle.std.specs.Prelude.{◌≡◌, List, [], leb}
use Rattle.std.proofs.Math.Path.{refl, sym, ap}
use Rattle.std.proofs.Common.{◌∙◌, zero-add, arith, le-leb}
use Prim.Native.Nat.{ℕ, zero, suc, ◌≤◌, ◌<◌}
use Rattle.std.proofs.Math.ListN.{length}
use Rattle.std.proofs.lemmas.Bool.{lt-leb}
use Rattle.streams.specs.Answer.{◌or_else◌, unless}
use Rattle.policy.specs.Check.{refusal_of}
use Rattle.policy.specs.Frame.{frame, longest}
use Rattle.texts.specs.Wrote.{Wrote}
use Rattle.wording.specs.Reader.{FromText, stops, reads, file_from_text}
use Rattle.wording.specs.Writer.{text_of_file}
use Rattle.wording.specs.Given.{stopped_by}
use Rattle.wording.specs.Back.{text_passes}
use Rattle.wording.specs.Longest.{written_at_most}
use Rattle.compiling.specs.Promise.{ReadText, ReadTextPromise, fitted, answered, filled}
use Rattle.showing.specs.Entry.{written_over, write_refusal}
use Rattle.showing.specs.Promise.{Written, WriteTextPromise}
use Rattle.printing.specs.Text.{refused_line, unless_refused}
use Rattle.translating.specs.ToFile.{stopped_line, compiled_line, compiled, file_of, line_of, written, printed}
use Rattle.translating.specs.ToText.{printed as shown}

-- A text is refused by a number above 0.
pub stops_above : (text : List ℕ) (n line : ℕ) → file_from_text text ≡ stops n line → n ≡ 0 → ⊥
stops_above text n line e z = omega (arith, (stopped_by text n line e).0)

module _ (text : List ℕ) where
  -- The text is too long.
  pub too_long : 65536 < length text → (written text ≡ []) × (printed text ≡ stopped_line 33 0)
  unfolding written printed compiled
  too_long h = rw (lt-leb (length text) 65536 h) (refl, refl)

  module _ (short : length text ≤ 65536) (out : List ℕ) (room : length out ≡ 5974) {r : ReadText} {after : List ℕ} (k : ReadTextPromise text out r after) where
    is_read : compiled text ≡ file_from_text text
    unfolding compiled
    is_read = rw (le-leb (length text) 65536 short)

    -- The slice has room for every file.
    roomy : fitted out (file_from_text text) ≡ file_from_text text
    roomy = go (file_from_text text) refl
      where
        go : (x : FromText (List ℕ)) → file_from_text text ≡ x → fitted out x ≡ x
        go (stops n line) e = refl
        go (reads f) e = rw (le-leb (length f) (length out) (omega (arith, longest f (frame f (text_passes text f e)))))

    says : (r ≡ answered (file_from_text text)) × (after ≡ filled out (file_from_text text))
    says = (k.says ∙ ap answered roomy, k.writes ∙ ap (filled out) roomy)

    -- The reader refuses: nothing is written, and the refusal and its line are printed.
    pub stopped_way : (r.refusal ≡ 0 → ⊥) → (written text ≡ []) × (printed text ≡ stopped_line r.refusal r.line) × (after ≡ out)
    unfolding written printed
    stopped_way h = rw is_read (go (file_from_text text) says.0 says.1)
      where
        go : (x : FromText (List ℕ)) → r ≡ answered x → after ≡ filled out x →
            (file_of x ≡ []) × (line_of x ≡ stopped_line r.refusal r.line) × (after ≡ out)
        go (stops n line) e w = (refl, sym (ap (λ (x : ReadText). stopped_line x.refusal x.line) e), w)
        go (reads f) e w = absurd (h (ap (λ (x : ReadText). x.refusal) e))

    -- The reader does not: the file is written, and its length is printed.
    pub read_way : r.refusal ≡ 0 → Wrote out 0 (written text) r.length after × (printed text ≡ compiled_line r.length)
    unfolding written printed
    read_way z = rw is_read (go (file_from_text text) refl says.0 says.1)
      where
        go : (x : FromText (List ℕ)) → file_from_text text ≡ x → r ≡ answered x → after ≡ filled out x →
            Wrote out 0 (file_of x) r.length after × (line_of x ≡ compiled_line r.length)
        go (stops n line) e a w = absurd (stops_above text n line e (sym (ap (λ (x : ReadText). x.refusal) a) ∙ z))
        go (reads f) e a w =
            let long : r.length ≡ length f = ap (λ (x : ReadText). x.length) a in
            (record { text = w ∙ rw zero-add; next = long ∙ sym (zero-add (length f)) }, ap compiled_line (sym long))

module _ (file out : List ℕ) (room : length out ≡ 39420) {r : Written} {after : List ℕ} (k : WriteTextPromise file out r after) where
  -- The slice has room for every text.
  text_fits : write_refusal file out ≡ refusal_of file
  unfolding write_refusal
  text_fits = go (refusal_of file) refl
    where
      go : (n : ℕ) → refusal_of file ≡ n → (n or_else unless (leb (length (text_of_file file)) (length out)) 14) ≡ n
      go zero e = rw (le-leb (length (text_of_file file)) (length out) (omega (arith, written_at_most file e)))
      go (suc n) e = refl

  -- The writer refuses: the line of the refusal is printed.
  pub refused_way : (r.refusal ≡ 0 → ⊥) → (shown file ≡ refused_line r.refusal) × (after ≡ out)
  unfolding shown
  refused_way h = go (refusal_of file) (k.refuses ∙ text_fits) (k.writes ∙ ap (written_over (text_of_file file) out) text_fits)
    where
      go : (n : ℕ) → r.refusal ≡ n → after ≡ written_over (text_of_file file) out n → (unless_refused n (text_of_file file) ≡ refused_line r.refusal) × (after ≡ out)
      go zero e w = absurd (h e)
      go (suc n) e w = (ap refused_line (sym e), w)

  -- The writer does not: the text that it wrote is printed.
  pub shown_way : r.refusal ≡ 0 → Wrote out 0 (shown file) r.length after
  unfolding shown
  shown_way z =
      let none : refusal_of file ≡ 0 = sym (k.refuses ∙ text_fits) ∙ z in
      let wrote : write_refusal file out ≡ 0 = text_fits ∙ none in
      rw none
      (record {
        text = k.writes ∙ rw (wrote, zero-add);
        next = k.long ∙ rw (wrote, zero-add);
      })
