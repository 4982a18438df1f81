-- A rule with letters for names is read alike.
-- In order: a word and what stands in its place; words that a rule reads alike; as far as the arrow; the words of a rule; its line.
use Rattle.std.specs.Prelude.{◌≡◌, Bool, cond, ℕ, eqb, length}
use Rattle.std.proofs.Math.Path.{refl, ap, sym}
use Rattle.std.proofs.Common.{◌∙◌, arith, eqb-true, ne_eqb}
use Rattle.std.proofs.Math.Bool.{true, false}
use Rattle.std.proofs.lemmas.Bool.{false≢true}
use mathlib.Core.List.{List, [], ◌∷◌}
use Rattle.std.proofs.Math.Option.{Option, none, some}
use Rattle.streams.specs.Answer.{Answer, refused, gives}
use Rattle.policy.specs.Check.{is_capital}
use Rattle.wording.specs.Words.{Word, Line}
use Rattle.wording.specs.Names.{same, find, is, is_name, is_number, ◌and_then◌, known, numbered, through}
use Rattle.wording.specs.NamesBack.{same_true}
use Rattle.wording.specs.Reader.{Draft, tags, Begun, Part, opening, more, arrow, sign, at_least, at_most, goes, gone, clears, bare, unset, on_signal, on_bound}
use Rattle.wording.specs.Reader.{Scope, scope, signal_by, signal, signal_or, condition, word_at, rule_word, rule_line, read_line}
use Rattle.wording.specs.Kept.{Keeps, stops_here, goes_on, keeps_must, keeps_known, keeps_cond, keeps_numbered}
use Rattle.wording.specs.RuleLines.{is_rule}
use Rattle.wording.specs.Others.{rule-by}
use Rattle.wording.specs.Lettered.{Named, letter_for, word_lettered, rule_lettered}
use Rattle.wording.specs.OtherWords.{Other, capital_low, letter_is_other, off_is_other, name_low, name_is_other}
use Rattle.wording.specs.Standing.{stand_none, stand_more, StandsIn}

-- A word and what stands in its place.
data Instead (s : Scope) (w : Word) : Word → Type 0 where
  itself : Instead s w w
  letter : {t : ℕ} (i : ℕ) → signal s w ≡ some i → signal s (t ∷ []) ≡ some i → is_name w ≡ true → is_capital t ≡ true → Instead s w (t ∷ [])

instead : (d : Draft) {ss : List Named} → StandsIn d ss → (w : Word) → Instead (scope d) w (letter_for ss w)
unfolding letter_for signal
instead d stand_none w = itself
instead d (stand_more {s = s} {ss = ss} k ks) w = go (same s.name w) refl (instead d ks w)
  where
    go : (t : Bool) → same s.name w ≡ t → Instead (scope d) w (letter_for ss w) → Instead (scope d) w (cond t (s.letter ∷ []) (letter_for ss w))
    go true e rest =
        let n = same_true s.name w e in
        letter k.number (ap (signal_by (tags d) d.names) (sym n) ∙ k.by_name) k.by_letter (ap is_name (sym n) ∙ k.name) k.capital
    go false e rest = rest

-- Two words that a rule reads alike.
data Alike (s : Scope) : Word → Word → Type 0 where
  alike_self : {w : Word} → Alike s w w
  alike_other : {w v : Word} → Other w → Other v → ((b : Begun) → condition s b w ≡ condition s b v) → Alike s w v

module _ (s : Scope) where
  on_letter : (t i : ℕ) → is_capital t ≡ true → signal s (t ∷ []) ≡ some i → (b : Begun) → condition s b (t ∷ []) ≡ on_signal b 1 i
  unfolding condition
  on_letter t i c e b = let low = capital_low t c in rw (ne_eqb t 33 (λ z. omega arith), e)

  on_name : (w : Word) (i : ℕ) → is_name w ≡ true → signal s w ≡ some i → (b : Begun) → condition s b w ≡ on_signal b 1 i
  unfolding condition is_name
  on_name [] i n e b = absurd (false≢true n)
  on_name (c ∷ cs) i n e b = let low = name_low c cs n in rw (ne_eqb c 33 (λ z. omega arith), e)

  on_off : (cs ds : Word) → signal s cs ≡ signal s ds → (b : Begun) → condition s b (33 ∷ cs) ≡ condition s b (33 ∷ ds)
  unfolding condition
  on_off cs ds e b = ap (λ (o : Option ℕ). known o (on_signal b 0)) e

  alike_plain : {w v : Word} → Instead s w v → Alike s w v
  alike_plain itself = alike_self
  alike_plain (letter {t = t} i a b n c) =
      alike_other (name_is_other _ n) (letter_is_other t c) (λ x. on_name _ i n a x ∙ sym (on_letter t i c b x))

  alike_off : {w v : Word} → Instead s w v → Alike s (33 ∷ w) (33 ∷ v)
  alike_off itself = alike_self
  alike_off (letter {t = t} i a b n c) = alike_other (off_is_other _) (off_is_other (t ∷ [])) (on_off _ (t ∷ []) (a ∙ sym b))

alike_word : (d : Draft) {ss : List Named} → StandsIn d ss → (w : Word) → Alike (scope d) w (word_lettered ss w)
unfolding word_lettered
alike_word d k [] = alike_self
alike_word d {ss} k (c ∷ cs) = go (eqb c 33) refl
  where
    go : (t : Bool) → eqb c 33 ≡ t → Alike (scope d) (c ∷ cs) (cond t (33 ∷ letter_for ss cs) (letter_for ss (c ∷ cs)))
    go true e = let z : c ≡ 33 = eqb-true c 33 e in rw z (alike_off (scope d) (instead d k cs))
    go false e = alike_plain (scope d) (instead d k (c ∷ cs))

-- The arrow is still to come.
abbrev Fore : Part → Type 0
Fore opening = Unit {0}
Fore more = Unit {0}
Fore arrow = Unit {0}
Fore (sign k) = Unit {0}
Fore (at_least k) = Unit {0}
Fore (at_most k) = Unit {0}
Fore goes = ⊥
Fore gone = ⊥
Fore clears = ⊥

module _ (s : Scope) (b : Begun) where
  no_number : {A : Type 0} (w v : Word) (go : ℕ → Answer A) → is_number w ≡ false → is_number v ≡ false → numbered w go ≡ numbered v go
  unfolding numbered
  no_number w v go e f = rw (e, f)

  word_alike : (part : Part) {w v : Word} → Fore part → Alike s w v → word_at s b part v ≡ word_at s b part w
  unfolding word_at
  word_alike part f alike_self = refl
  word_alike part f (alike_other {w = w} {v = v} x y c) = go part f
    where
      go : (part : Part) → Fore part → word_at s b part v ≡ word_at s b part w
      go opening f = rw (x.any, y.any) (sym (c b))
      go more f = rw (x.arrow, y.arrow) (sym (c b))
      go arrow f = rw (x.arrow, y.arrow)
      go (sign k) f = rw (x.least, y.least, x.most, y.most)
      go (at_least k) f = no_number v w _ y.number x.number
      go (at_most k) f = no_number v w _ y.number x.number
      go goes f = absurd f
      go gone f = absurd f
      go clears f = absurd f

-- After a word that is no arrow the arrow is still to come.
module _ (s : Scope) (b : Begun) where
  abbrev ForeNext : Begun → Type 0
  ForeNext c = Fore c.part

  signal_fore : (v i : ℕ) → Keeps ForeNext (on_signal b v i)
  unfolding on_signal
  signal_fore v i = keeps_must (unset b.care i) 31 _ (λ e. goes_on tt)

  or_fore : (w : Word) (o : Option ℕ) → Keeps ForeNext (signal_or s b w o)
  or_fore w none = keeps_known (find 0 w s.clocks) _ (λ k e. goes_on tt)
  or_fore w (some i) = signal_fore 1 i

  condition_fore : (w : Word) → Keeps ForeNext (condition s b w)
  unfolding condition
  condition_fore [] = stops_here
  condition_fore (c ∷ cs) = keeps_cond (eqb c 33) _ _ (keeps_known (signal s cs) _ (λ i e. signal_fore 0 i)) (or_fore (c ∷ cs) (signal s (c ∷ cs)))

  word_fore : (part : Part) (w : Word) → Fore part → is "->" w ≡ false → Keeps ForeNext (word_at s b part w)
  unfolding word_at on_bound
  word_fore opening w f e = keeps_cond (is "any" w) _ _ (goes_on tt) (condition_fore w)
  word_fore more w f e = rw e (condition_fore w)
  word_fore arrow w f e = rw e stops_here
  word_fore (sign k) w f e = keeps_cond (is ">=" w) _ _ (goes_on tt) (keeps_must (is "<=" w) 30 _ (λ g. goes_on tt))
  word_fore (at_least k) w f e = keeps_numbered w _ (λ n. goes_on tt)
  word_fore (at_most k) w f e = keeps_numbered w _ (λ n. goes_on tt)
  word_fore goes w f e = absurd f
  word_fore gone w f e = absurd f
  word_fore clears w f e = absurd f

-- The words of a rule are read alike with letters for names, from before the arrow on.
rule_alike : (d : Draft) {ss : List Named} → StandsIn d ss → (b : Begun) (ws : Line) → Fore b.part →
    through (rule_word (scope d)) b (rule_lettered ss ws) ≡ through (rule_word (scope d)) b ws
unfolding rule_lettered through
rule_alike d k b [] f = refl
rule_alike d {ss} k b (w ∷ ws) f = go (is "->" w) refl (λ c. rule_alike d k c ws)
  where
    step : (a : Answer Begun) → Keeps (λ c. Fore c.part) a →
        ((c : Begun) → Fore c.part → through (rule_word (scope d)) c (rule_lettered ss ws) ≡ through (rule_word (scope d)) c ws) →
        (a and_then λ c. through (rule_word (scope d)) c (rule_lettered ss ws)) ≡ (a and_then λ c. through (rule_word (scope d)) c ws)
    step (refused n) h rest = refl
    step (gives c) (goes_on h) rest = rest c h

    go : (t : Bool) → is "->" w ≡ t →
        ((c : Begun) → Fore c.part → through (rule_word (scope d)) c (rule_lettered ss ws) ≡ through (rule_word (scope d)) c ws) →
        through (rule_word (scope d)) b (cond t (w ∷ ws) (word_lettered ss w ∷ rule_lettered ss ws)) ≡ through (rule_word (scope d)) b (w ∷ ws)
    go true e rest = refl
    go false e rest =
        rw (word_alike (scope d) b b.part f (alike_word d k w))
        (step (word_at (scope d) b b.part w) (word_fore (scope d) b b.part w f e) rest)

-- The line of a rule stays one.
module _ (d : Draft) {ss : List Named} (k : StandsIn d ss) where
  still_rule : {w v : Word} (ws vs : Line) → Alike (scope d) w v → is_rule (w ∷ ws) ≡ true → is_rule (v ∷ vs) ≡ true
  unfolding is_rule
  still_rule ws vs alike_self h = h
  still_rule ws vs (alike_other x y c) h = rw (y.input, y.output, y.clock, y.location, y.at)

  rule_still : (w : Word) (ws : Line) → is_rule (w ∷ ws) ≡ true →
      read_line d (rule_lettered ss (w ∷ ws)) ≡ rule_line d (rule_lettered ss (w ∷ ws)) d.source
  unfolding rule_lettered
  rule_still w ws h = go (is "->" w)
    where
      go : (t : Bool) → read_line d (cond t (w ∷ ws) (word_lettered ss w ∷ rule_lettered ss ws))
          ≡ rule_line d (cond t (w ∷ ws) (word_lettered ss w ∷ rule_lettered ss ws)) d.source
      go true = rule-by d w ws h
      go false = rule-by d (word_lettered ss w) (rule_lettered ss ws) (still_rule ws (rule_lettered ss ws) (alike_word d k w) h)

  rule_line_alike : (ls ms : Line) → through (rule_word (scope d)) (bare (length d.clocks)) ls ≡ through (rule_word (scope d)) (bare (length d.clocks)) ms →
      (o : Option ℕ) → rule_line d ls o ≡ rule_line d ms o
  unfolding rule_line
  rule_line_alike ls ms h none = refl
  rule_line_alike ls ms h (some s) = rw h

  -- A rule is read alike with letters for names; any other line is left as it is.
  pub line_alike : (l : Line) → read_line d (cond (is_rule l) (rule_lettered ss l) l) ≡ read_line d l
  unfolding rule_lettered
  line_alike l = go (is_rule l) refl
    where
      rule : (l : Line) → is_rule l ≡ true → read_line d (rule_lettered ss l) ≡ read_line d l
      rule [] h = refl
      rule (w ∷ ws) h =
          rule_still w ws h
          ∙ rule_line_alike (rule_lettered ss (w ∷ ws)) (w ∷ ws) (rule_alike d k (bare (length d.clocks)) (w ∷ ws) tt) d.source
          ∙ sym (rule-by d w ws h)

      go : (t : Bool) → is_rule l ≡ t → read_line d (cond t (rule_lettered ss l) l) ≡ read_line d l
      go true e = rule l e
      go false e = refl
