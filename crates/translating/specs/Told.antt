-- What `compile` writes and prints, in the words of the text's page: a policy file and its length, or no file and a refusal with its line.
use Rattle.std.specs.Prelude.{◌≡◌, Bool, true, false, cond, List, [], ◌⊎◌, ℕ, ◌<◌, leb, length, get_or}
use Rattle.std.proofs.Math.Path.{refl, ap}
use Rattle.std.proofs.Common.{◌∙◌, arith, le-leb}
use Rattle.policy.specs.Check.{refusal_of}
use Rattle.policy.specs.Frame.{frame}
use Rattle.wording.specs.Reader.{FromText, stops, reads, file_from_text}
use Rattle.wording.specs.Writer.{text_of_file}
use Rattle.wording.specs.Longest.{written_at_most}
use Rattle.wording.specs.Given.{read_bytes}
use Rattle.wording.specs.Back.{any_file_back, text_passes}
use Rattle.translating.specs.ToFile.{stopped_line, compiled_line, compiled, file_of, line_of, written, printed}
use Rattle.translating.specs.ToText.{printed as shown}
use Rattle.translating.specs.Ways.{stops_above}

-- What `show` prints of a file that passes its check, `compile` turns into that file, byte for byte.
pub shown_back : (f : List ℕ) → ((i : ℕ) → get_or f i 0 < 256) → refusal_of f ≡ 0 → compiled (shown f) ≡ reads f
unfolding shown compiled
shown_back f bytes e =
    rw (e, le-leb (length (text_of_file f)) 65536 (omega (arith, written_at_most f e))) (any_file_back f bytes e)

-- A file is written, never an empty one, and its length is printed.
pub record Compiles (text : List ℕ) : Type 0 where
  pub file : List ℕ
  pub said : file_from_text text ≡ reads file
  pub passes : refusal_of file ≡ 0
  pub some : 0 < length file
  pub writes : written text ≡ file
  pub prints : printed text ≡ compiled_line (length file)
  pub back : compiled (shown file) ≡ reads file

-- No byte is written, and the refusal is printed.
pub record Refuses (text : List ℕ) : Type 0 where
  pub number : ℕ
  pub line : ℕ
  pub some : ¬ (number ≡ 0)
  pub said : compiled text ≡ stops number line
  pub writes : written text ≡ []
  pub prints : printed text ≡ stopped_line number line

module _ (text : List ℕ) where
  with_file : (f : List ℕ) → compiled text ≡ reads f → file_from_text text ≡ reads f → Compiles text
  unfolding written printed
  with_file f e h =
      let p = text_passes text f h in
      record {
        file = f;
        said = h;
        passes = p;
        some = let k = frame f p in omega arith;
        writes = ap file_of e;
        prints = ap line_of e;
        back = shown_back f (read_bytes text f h) p;
      }

  without : (n line : ℕ) → compiled text ≡ stops n line → ¬ (n ≡ 0) → Refuses text
  unfolding written printed
  without n line e h = record { number = n; line = line; some = h; said = e; writes = ap file_of e; prints = ap line_of e }

  -- Every text is compiled or refused.
  pub told : Compiles text ⊎ Refuses text
  unfolding compiled
  told = go (leb (length text) 65536) refl
    where
      read : (x : FromText (List ℕ)) → file_from_text text ≡ x → compiled text ≡ file_from_text text → Compiles text ⊎ Refuses text
      read (stops n line) e s = ◌⊎◌.inr (without n line (s ∙ e) (stops_above text n line e))
      read (reads f) e s = ◌⊎◌.inl (with_file f (s ∙ e) e)

      go : (t : Bool) → leb (length text) 65536 ≡ t → Compiles text ⊎ Refuses text
      go true e = read (file_from_text text) refl (ap (λ (b : Bool). cond b (file_from_text text) (stops 33 0)) e)
      go false e = ◌⊎◌.inr (without 33 0 (ap (λ (b : Bool). cond b (file_from_text text) (stops 33 0)) e) (λ z. omega arith))
