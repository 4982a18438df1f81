-- What a word does in each part of a rule, by the word of the language that it is.
use Rattle.std.specs.Prelude.{◌≡◌, Bool, true, false, List, eqb, ℕ}
use Rattle.std.proofs.Math.Path.{refl}
use Rattle.std.proofs.Common.{ap, sym, ◌∙◌}
use Rattle.streams.specs.Answer.{Answer, refused, gives}
use Rattle.std.specs.Cmp.Lexicographic.{pointwise}
use Rattle.std.proofs.Math.Option.{Option}
use Rattle.words.specs.Lex.{same_is}
use Rattle.wording.specs.Words.{Word}
use Rattle.wording.specs.Names.{is, same, find, ◌and_then◌, known}
use Rattle.words.specs.Counted.{number_of, numbered_then}
use Rattle.conditions.specs.Steps.{begun_of}
use Rattle.conditions.specs.declared.steps.Part.{Part}
use Rattle.conditions.specs.declared.steps.Parsed.{Parsed}
use Rattle.wording.specs.Reader.{Scope, Begun, opening, more, arrow, sign, at_least, at_most, goes, gone, clears, turn, at_least_of, at_most_of, on_bound, on_target, on_reset, condition, word_at}

-- What `==` says of a word and one of the language.
pub word_test : (w v u : Word) {t : Bool} → v ≡ u → t ≡ pointwise eqb w v → same w u ≡ t
word_test w v u h e = sym (e ∙ same_is w v ∙ ap (same w) h)

module _ (d : Scope) (b : Begun) (w : Word) where
  -- After a first word `any` only the arrow may come.
  pub opening_any : is "any" w ≡ true → gives (turn arrow b) ≡ word_at d b opening w
  unfolding word_at
  opening_any e = rw e

  -- Any other first word is a condition.
  pub opening_on : is "any" w ≡ false → condition d b w ≡ word_at d b opening w
  unfolding word_at
  opening_on e = rw e

  -- After an arrow behind conditions the target comes.
  pub more_arrow : is "->" w ≡ true → gives (turn goes b) ≡ word_at d b more w
  unfolding word_at
  more_arrow e = rw e

  -- Any other word behind conditions is a further condition.
  pub more_on : is "->" w ≡ false → condition d b w ≡ word_at d b more w
  unfolding word_at
  more_on e = rw e

  -- After `any` and the arrow the target comes.
  pub arrow_is : is "->" w ≡ true → gives (turn goes b) ≡ word_at d b arrow w
  unfolding word_at
  arrow_is e = rw e

  -- After `any` a word other than the arrow is refused with 30.
  pub arrow_not : is "->" w ≡ false → refused 30 ≡ word_at d b arrow w
  unfolding word_at
  arrow_not e = rw e

  -- After a clock's name and `>=` the number of its low comes.
  pub sign_low : (k : ℕ) → is ">=" w ≡ true → gives (turn (at_least k) b) ≡ word_at d b (sign k) w
  unfolding word_at
  sign_low k e = rw e

  -- After a clock's name and `<=` the number of its high comes.
  pub sign_high : (k : ℕ) → is ">=" w ≡ false → is "<=" w ≡ true → gives (turn (at_most k) b) ≡ word_at d b (sign k) w
  unfolding word_at
  sign_high k e f = rw (e, f)

  -- After a clock's name any other word is refused with 30.
  pub sign_none : (k : ℕ) → is ">=" w ≡ false → is "<=" w ≡ false → refused 30 ≡ word_at d b (sign k) w
  unfolding word_at
  sign_none k e f = rw (e, f)

  -- The target `violation` is the byte 255.
  pub goes_violation : is "violation" w ≡ true → gives (on_target b 255) ≡ word_at d b goes w
  unfolding word_at
  goes_violation e = rw e

  -- Any other target must name a location.
  pub goes_place : is "violation" w ≡ false → known (find 0 w d.places) (λ t. gives (on_target b t)) ≡ word_at d b goes w
  unfolding word_at
  goes_place e = rw e

  -- By what was found among the locations.
  pub goes_found : is "violation" w ≡ false → {ps : List Word} → d.places ≡ ps → {o : Option ℕ} → o ≡ find 0 w ps → known o (λ t. gives (on_target b t)) ≡ word_at d b goes w
  goes_found h e f = ap (λ (o : Option ℕ). known o (λ t. gives (on_target b t))) (f ∙ ap (find 0 w) (sym e)) ∙ goes_place h

  -- After the target and `reset` the names of clocks come.
  pub gone_reset : is "reset" w ≡ true → gives (turn clears b) ≡ word_at d b gone w
  unfolding word_at
  gone_reset e = rw e

  -- After the target any other word is refused with 30.
  pub gone_not : is "reset" w ≡ false → refused 30 ≡ word_at d b gone w
  unfolding word_at
  gone_not e = rw e

  -- What is done with a number: a low that is none, or too large a one, is refused as that number is, and any other becomes a bound of clock k.
  pub low_read : (k : ℕ) (a : Answer ℕ) → a ≡ number_of w → (a and_then λ n. gives (on_bound b k (at_least_of n))) ≡ word_at d b (at_least k) w
  unfolding word_at
  low_read k a e = ap (λ (x : Answer ℕ). x and_then λ n. gives (on_bound b k (at_least_of n))) e ∙ sym (numbered_then w λ n. gives (on_bound b k (at_least_of n)))

  -- The same for a high.
  pub high_read : (k : ℕ) (a : Answer ℕ) → a ≡ number_of w → (a and_then λ n. gives (on_bound b k (at_most_of n))) ≡ word_at d b (at_most k) w
  unfolding word_at
  high_read k a e = ap (λ (x : Answer ℕ). x and_then λ n. gives (on_bound b k (at_most_of n))) e ∙ sym (numbered_then w λ n. gives (on_bound b k (at_most_of n)))

-- Where a rule leads.
pub target_is : (n : ℕ) (p : Parsed) (t : ℕ) →
    begun_of n (record { part = Part.Gone; clock = p.clock; care = p.care; value = p.value; target = t; reset = p.reset; low = p.low; high = p.high }) ≡ on_target (begun_of n p) t
unfolding on_target
target_is n p t = refl

-- After `reset` each word must name a clock, none of them twice.
pub clears_word : (d : Scope) (b : Begun) (w : Word) → known (find 0 w d.clocks) (on_reset b) ≡ word_at d b clears w
unfolding word_at
clears_word d b w = refl
