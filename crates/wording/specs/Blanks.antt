-- Comments, blanks, line ends and blank lines change nothing: the words of the lines alone are read.
-- In order: the words alone; a byte in front of a text; blanks; comments; blank lines.
use Rattle.std.specs.Prelude.{◌≡◌, refl, Bool, true, false, cond, ◌||◌, List, [], ◌∷◌, ◌++◌, ℕ, suc, eqb}
use Rattle.std.proofs.Common.{ap, sym, ◌∙◌, eqb-true, eq-eqb, ne_eqb}
use Rattle.std.proofs.lemmas.Bool.{false≢true, eqb-false}
use Rattle.streams.specs.Answer.{Answer, refused, gives}
use Rattle.policy.specs.Check.{refusal_of}
use Rattle.policy.specs.Bytes.{bytes_of}
use Rattle.wording.specs.Words.{Line, parts, kind, first_kind, onto, words_of, split, each_words, lines_of, laid}
use Rattle.wording.specs.Laid.{Unended, line_split, laid_read}
use Rattle.wording.specs.Names.{◌and_then◌, through}
use Rattle.wording.specs.Reader.{Draft, empty, read_line, FromText, reads, stops, proceed, read_lines, said_by, policy_from, policy_from_text, passed, filed, file_from_text}
use Rattle.wording.specs.Whole.{lines_whole}

-- Texts with the same words in the same lines are read alike: as one file, or refused by one number in one line.
pub words_alone : (text other : List ℕ) → lines_of text ≡ lines_of other → file_from_text text ≡ file_from_text other
unfolding file_from_text policy_from_text
words_alone text other e = ap (λ (ls : List Line). filed (said_by 1 (read_lines 1 empty ls))) e

-- The text of its words alone, each line with one space between them.
unfoldable pub tidied : List ℕ → List ℕ
tidied text = laid (λ l. 0) (lines_of text)

-- A text that is tidied gives the same file, or the same refusal in the same line.
pub tidied_alike : (text : List ℕ) → file_from_text (tidied text) ≡ file_from_text text
unfolding tidied
tidied_alike text = words_alone (tidied text) text (laid_read (λ l. 0) (lines_of text) (lines_whole text))

-- The words of a line with the byte c in front of it, where the line begins with a byte of the kind k.
abbrev word_onto : ℕ → ℕ → Line → Line
word_onto c k l = cond (eqb c 35) [] (cond (eqb (kind c) 0) l (cond (eqb k (kind c)) (onto c l) ((c ∷ []) ∷ l)))

abbrev line_onto : ℕ → ℕ → List Line → List Line
line_onto c k [] = word_onto c k [] ∷ []
line_onto c k (l ∷ ls) = word_onto c k l ∷ ls

end_kind : kind 10 ≡ 0
unfolding kind parts
end_kind = refl

line_front : (c : ℕ) (cs : List ℕ) → lines_of (c ∷ cs) ≡ cond (eqb c 10) ([] ∷ lines_of cs) (line_onto c (first_kind cs) (lines_of cs))
unfolding lines_of split words_of
line_front c [] = go (eqb c 10)
  where
    go : (t : Bool) → each_words (cond t ([] ∷ []) ((c ∷ []) ∷ [])) ≡ cond t ([] ∷ []) (line_onto c 0 [])
    go true = refl
    go false = refl
line_front c (d ∷ ds) = go (eqb c 10) (eqb d 10) refl (split ds)
  where
    go : (t u : Bool) → eqb d 10 ≡ u → (ls : List (List ℕ)) →
        each_words (cond t ([] ∷ cond u ([] ∷ ls) (onto d ls)) (onto c (cond u ([] ∷ ls) (onto d ls))))
        ≡ cond t ([] ∷ each_words (cond u ([] ∷ ls) (onto d ls))) (line_onto c (kind d) (each_words (cond u ([] ∷ ls) (onto d ls))))
    go true u e ls = refl
    go false true e ls = let end : kind d ≡ 0 = ap kind (eqb-true d 10 e) ∙ end_kind in rw end
    go false false e [] = refl
    go false false e (l ∷ ls) = refl

-- Two ends of a text that give the same words behind any front.
record Alike (xs ys : List ℕ) : Type 0 where
  first : first_kind xs ≡ first_kind ys
  lines : lines_of xs ≡ lines_of ys

alike_front : (c : ℕ) {xs ys : List ℕ} → Alike xs ys → Alike (c ∷ xs) (c ∷ ys)
alike_front c {xs} {ys} a =
    record {
      first = refl;
      lines = line_front c xs ∙ (λ i. cond (eqb c 10) ([] ∷ a.lines i) (line_onto c (a.first i) (a.lines i))) ∙ sym (line_front c ys);
    }

alike_behind : (front : List ℕ) {xs ys : List ℕ} → Alike xs ys → Alike (front ++ xs) (front ++ ys)
alike_behind [] a = a
alike_behind (c ∷ front) a = alike_front c (alike_behind front a)

read_alike : (front : List ℕ) {xs ys : List ℕ} → Alike xs ys → file_from_text (front ++ xs) ≡ file_from_text (front ++ ys)
read_alike front {xs} {ys} a = words_alone (front ++ xs) (front ++ ys) (alike_behind front a).lines

-- A blank: a space, a tab or a carriage return.
unfoldable pub is_blank : ℕ → Bool
is_blank c = eqb c 32 || (eqb c 9 || eqb c 13)

record BlankFacts (b : ℕ) : Type 0 where
  parting : kind b ≡ 0
  line : eqb b 10 ≡ false
  comment : eqb b 35 ≡ false

blank_facts : (b : ℕ) → is_blank b ≡ true → BlankFacts b
unfolding is_blank kind parts
blank_facts b h = go (eqb b 32) refl (eqb b 9) refl h
  where
    at : (n : ℕ) → BlankFacts n → b ≡ n → BlankFacts b
    at n f e = rw e f

    go : (s : Bool) → eqb b 32 ≡ s → (t : Bool) → eqb b 9 ≡ t → (s || (t || eqb b 13)) ≡ true → BlankFacts b
    go true e t f k = at 32 (record { parting = refl; line = refl; comment = refl }) (eqb-true b 32 e)
    go false e true f k = at 9 (record { parting = refl; line = refl; comment = refl }) (eqb-true b 9 f)
    go false e false f k = at 13 (record { parting = refl; line = refl; comment = refl }) (eqb-true b 13 k)

-- In front of some lines a blank adds nothing but, where there is none, a line.
abbrev or_one : List Line → List Line
or_one [] = [] ∷ []
or_one (l ∷ ls) = l ∷ ls

one_there : (d : ℕ) (ds : List ℕ) → or_one (lines_of (d ∷ ds)) ≡ lines_of (d ∷ ds)
one_there d ds = ap or_one (line_front d ds) ∙ go (eqb d 10) (lines_of ds) ∙ sym (line_front d ds)
  where
    go : (t : Bool) (ls : List Line) → or_one (cond t ([] ∷ ls) (line_onto d (first_kind ds) ls)) ≡ cond t ([] ∷ ls) (line_onto d (first_kind ds) ls)
    go true ls = refl
    go false [] = refl
    go false (l ∷ ls) = refl

module _ (b : ℕ) (h : is_blank b ≡ true) where
  blank_front : (cs : List ℕ) → lines_of (b ∷ cs) ≡ or_one (lines_of cs)
  blank_front cs = let k = blank_facts b h in line_front b cs ∙ rw k.line (go k (lines_of cs))
    where
      go : BlankFacts b → (ls : List Line) → line_onto b (first_kind cs) ls ≡ or_one ls
      go k [] = rw (k.comment, k.parting)
      go k (l ∷ ls) = rw (k.comment, k.parting)

  blank_there : (d : ℕ) (ds : List ℕ) → lines_of (b ∷ d ∷ ds) ≡ lines_of (d ∷ ds)
  blank_there d ds = blank_front (d ∷ ds) ∙ one_there d ds

  -- Between two bytes that are not of one word a blank may stand or not: beside another blank, at a line's ends, before a comment, beside a sign.
  pub blank_between : (front : List ℕ) (a d : ℕ) (back : List ℕ) → (kind a ≡ kind d → kind a ≡ 0) →
      file_from_text (front ++ (a ∷ b ∷ d ∷ back)) ≡ file_from_text (front ++ (a ∷ d ∷ back))
  blank_between front a d back apart = read_alike front (record { first = refl; lines = line_front a (b ∷ d ∷ back) ∙ go (eqb a 10) ∙ sym (line_front a (d ∷ back)) })
    where
      far : (s t : Bool) → eqb (kind a) 0 ≡ s → eqb (kind d) (kind a) ≡ t → (l : Line) →
          cond s l (cond (eqb 0 (kind a)) (onto a l) ((a ∷ []) ∷ l)) ≡ cond s l (cond t (onto a l) ((a ∷ []) ∷ l))
      far true t e f l = refl
      far false true e f l = absurd (false≢true (sym e ∙ eq-eqb (kind a) 0 (apart (sym (eqb-true (kind d) (kind a) f)))))
      far false false e f l = rw (ne_eqb 0 (kind a) (λ z. eqb-false (kind a) 0 e (sym z)))

      on : (l : Line) → word_onto a (kind b) l ≡ word_onto a (kind d) l
      on l = rw (blank_facts b h).parting (ap (λ (m : Line). cond (eqb a 35) [] m) (far (eqb (kind a) 0) (eqb (kind d) (kind a)) refl refl l))

      each : (ls : List Line) → line_onto a (kind b) ls ≡ line_onto a (kind d) ls
      each [] = ap (λ (l : Line). l ∷ []) (on [])
      each (l ∷ ls) = ap (λ (m : Line). m ∷ ls) (on l)

      go : (t : Bool) →
          cond t ([] ∷ lines_of (b ∷ d ∷ back)) (line_onto a (kind b) (lines_of (b ∷ d ∷ back))) ≡ cond t ([] ∷ lines_of (d ∷ back)) (line_onto a (kind d) (lines_of (d ∷ back)))
      go true = ap (λ (ls : List Line). [] ∷ ls) (blank_there d back)
      go false = ap (line_onto a (kind b)) (blank_there d back) ∙ each (lines_of (d ∷ back))

  -- A blank in front of a text that is not empty changes nothing.
  pub blank_first : (d : ℕ) (back : List ℕ) → file_from_text (b ∷ d ∷ back) ≡ file_from_text (d ∷ back)
  blank_first d back = words_alone (b ∷ d ∷ back) (d ∷ back) (blank_there d back)

-- One blank does what another does: tabs and carriage returns are spaces.
pub blank_for_blank : (front : List ℕ) (b c : ℕ) (back : List ℕ) → is_blank b ≡ true → is_blank c ≡ true →
    file_from_text (front ++ (b ∷ back)) ≡ file_from_text (front ++ (c ∷ back))
blank_for_blank front b c back h g =
    read_alike front (record {
      first = (blank_facts b h).parting ∙ sym (blank_facts c g).parting;
      lines = blank_front b h back ∙ sym (blank_front c g back);
    })

last_split : (c : ℕ) (cs : List ℕ) → Unended (c ∷ cs) → split (c ∷ cs) ≡ (c ∷ cs) ∷ []
unfolding split
last_split c [] h = rw h.0
last_split c (d ∷ ds) h = rw (h.0, last_split d ds h.1)

-- A comment may be left out, as far as its line's end.
pub comment_gone : (front comment back : List ℕ) → Unended comment → file_from_text (front ++ (35 ∷ (comment ++ (10 ∷ back)))) ≡ file_from_text (front ++ (10 ∷ back))
unfolding lines_of split words_of kind parts
comment_gone front comment back h =
    read_alike front (record { first = refl; lines = ap each_words (line_split (35 ∷ comment) back (refl, h)) })

-- A comment that ends the text does what a blank does.
pub comment_last : (front comment : List ℕ) → Unended comment → file_from_text (front ++ (35 ∷ comment)) ≡ file_from_text (front ++ (32 ∷ []))
unfolding lines_of split words_of kind parts
comment_last front comment h = read_alike front (record { first = refl; lines = ap each_words (one_line comment h) })
  where
    one_line : (cs : List ℕ) → Unended cs → onto 35 (split cs) ≡ (35 ∷ cs) ∷ []
    one_line [] h = refl
    one_line (c ∷ cs) h = ap (onto 35) (last_split c cs h)

-- The lines that have words.
unfoldable pub spoken : List Line → List Line
spoken [] = []
spoken ([] ∷ ls) = spoken ls
spoken ((w ∷ ws) ∷ ls) = (w ∷ ws) ∷ spoken ls

-- The file, or the number of the refusal without its line.
abbrev pub line_aside : {A : Type 0} → FromText A → Answer A
line_aside (stops n line) = refused n
line_aside (reads a) = gives a

lines_aside : (line : ℕ) (d : Draft) (ls : List Line) → line_aside (read_lines line d ls) ≡ through read_line d ls
unfolding read_lines through
lines_aside line d [] = refl
lines_aside line d (l ∷ ls) = go (read_line d l) (λ e. lines_aside (suc line) e ls)
  where
    go : (a : Answer Draft) → ((e : Draft) → line_aside (read_lines (suc line) e ls) ≡ through read_line e ls) →
        line_aside (proceed line a (λ e. read_lines (suc line) e ls)) ≡ (a and_then λ e. through read_line e ls)
    go (refused n) rest = refl
    go (gives e) rest = rest e

spoken_through : (d : Draft) (ls : List Line) → through read_line d (spoken ls) ≡ through read_line d ls
unfolding spoken through read_line
spoken_through d [] = refl
spoken_through d ([] ∷ ls) = spoken_through d ls
spoken_through d ((w ∷ ws) ∷ ls) = go (read_line d (w ∷ ws)) (λ e. spoken_through e ls)
  where
    go : (a : Answer Draft) → ((e : Draft) → through read_line e (spoken ls) ≡ through read_line e ls) →
        (a and_then λ e. through read_line e (spoken ls)) ≡ (a and_then λ e. through read_line e ls)
    go (refused n) rest = refl
    go (gives e) rest = rest e

abbrev file_by : Answer Draft → Answer (List ℕ)
file_by (refused n) = refused n
file_by (gives d) = line_aside (passed (refusal_of (bytes_of (policy_from 1 d))) (bytes_of (policy_from 1 d)))

file_aside : (text : List ℕ) → line_aside (file_from_text text) ≡ file_by (through read_line empty (spoken (lines_of text)))
unfolding file_from_text policy_from_text
file_aside text = go (read_lines 1 empty (lines_of text)) ∙ ap file_by (lines_aside 1 empty (lines_of text) ∙ sym (spoken_through empty (lines_of text)))
  where
    go : (r : FromText Draft) → line_aside (filed (said_by 1 r)) ≡ file_by (line_aside r)
    go (stops n line) = refl
    go (reads d) = refl

-- Blank lines change nothing but the numbers of the lines.
pub blank_lines : (text other : List ℕ) → spoken (lines_of text) ≡ spoken (lines_of other) → line_aside (file_from_text text) ≡ line_aside (file_from_text other)
blank_lines text other e = file_aside text ∙ ap (λ (ls : List Line). file_by (through read_line empty ls)) e ∙ sym (file_aside other)
