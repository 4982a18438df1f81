-- What a line leaves as it is: one of a rule adds that rule alone, one of a clock or a location and an `at` leave the signals and the rules.
use Rattle.std.specs.Prelude.{◌≡◌, true, ◌&&◌, ℕ, leb, ltb, length}
use Rattle.std.proofs.Math.Path.{refl}
use mathlib.Core.List.{[], ◌∷◌}
use Rattle.std.proofs.Math.Option.{Option, none, some}
use Rattle.std.proofs.lemmas.Bool.{not-true}
use Rattle.streams.specs.Answer.{Answer, refused, gives}
use Rattle.policy.specs.Rules.{Rule}
use Rattle.policy.specs.Check.{ceiling_good, bounds_good}
use Rattle.wording.specs.Words.{Word, Line}
use Rattle.wording.specs.Names.{find, is, through}
use Rattle.wording.specs.Kept.{Keeps, stops_here, goes_on, keeps_must, keeps_known, keeps_free, keeps_numbered, keeps_then}
use Rattle.wording.specs.Good.{keeps_name}
use Rattle.wording.specs.RuleBack.{neither}
use Rattle.wording.specs.RuleLines.{is_rule}
use Rattle.wording.specs.Reader.{Draft, Begun, scope, bare, tags, clock_line, new_place, location_line, risen, at_line, rule_word, ends, rule_of, add_rule, rule_line, read_line}

-- A line of a rule is read as one.
pub rule-by : (d : Draft) (w : Word) (ws : Line) → is_rule (w ∷ ws) ≡ true → read_line d (w ∷ ws) ≡ rule_line d (w ∷ ws) d.source
unfolding is_rule read_line
rule-by d w ws h =
    let a = neither (is "input" w) _ h in
    let b = neither (is "output" w) _ a.1 in
    let c = neither (is "clock" w) _ b.1 in
    let e = neither (is "location" w) _ c.1 in
    rw (a.0, b.0, c.0, e.0, not-true (is "at" w) e.1)

module _ (d : Draft) where
  -- The draft e has the letters, the names and the rules of d.
  pub record Aside (e : Draft) : Type 0 where
    pub letters : tags e ≡ tags d
    pub names : e.names ≡ d.names
    pub rules : e.rules ≡ d.rules

  -- A line of a clock leaves the signals and the rules.
  pub clock_aside : (ws : Line) → Keeps Aside (clock_line d ws)
  unfolding clock_line
  clock_aside [] = stops_here
  clock_aside (w ∷ []) = stops_here
  clock_aside (w ∷ n ∷ []) =
      keeps_must (leb d.stage 3) 30 _
      (λ s. keeps_name d w d.clocks _
      (λ e f. keeps_free (find 0 w d.names) _
      (λ h. keeps_numbered n _
      (λ c. keeps_must (ceiling_good c) 4 _
      (λ g. keeps_must (ltb (length d.clocks) 4) 33 _ (λ r. goes_on (record { letters = refl; names = refl; rules = refl })))))))
  clock_aside (w ∷ n ∷ v ∷ ws) = stops_here

  place_aside : (w : Word) (byte : ℕ) → Keeps Aside (new_place d w byte)
  unfolding new_place
  place_aside w byte =
      keeps_must (leb d.stage 4) 30 _
      (λ s. keeps_name d w d.places _
      (λ e f. keeps_must (ltb (length d.places) 64) 33 _ (λ r. goes_on (record { letters = refl; names = refl; rules = refl }))))

  -- A line of a location leaves the signals and the rules.
  pub location_aside : (ws : Line) → Keeps Aside (location_line d ws)
  unfolding location_line
  location_aside [] = stops_here
  location_aside (w ∷ []) = place_aside w 0
  location_aside (w ∷ a ∷ []) = stops_here
  location_aside (w ∷ a ∷ b ∷ []) = stops_here
  location_aside (w ∷ a ∷ b ∷ c ∷ []) = keeps_must (is "must" a && (is "be" b && is "left" c)) 30 _ (λ e. place_aside w 1)
  location_aside (w ∷ a ∷ b ∷ c ∷ v ∷ ws) = stops_here

  -- An `at` leaves the signals and the rules.
  pub at_aside : (ws : Line) → Keeps Aside (at_line d ws)
  unfolding at_line
  at_aside [] = stops_here
  at_aside (w ∷ []) =
      keeps_known (find 0 w d.places) _
      (λ k e. keeps_must (risen d d.source k) 34 _ (λ u. goes_on (record { letters = refl; names = refl; rules = refl })))
  at_aside (w ∷ v ∷ ws) = stops_here

  -- A line of a rule adds one rule, and nothing else.
  pub rule_adds : (ws : Line) (source : Option ℕ) → Keeps (λ e. (r : Rule) × (e ≡ add_rule d r)) (rule_line d ws source)
  unfolding rule_line
  rule_adds ws none = stops_here
  rule_adds ws (some s) =
      keeps_then {Q = λ b. Unit {0}} (through (rule_word (scope d)) (bare (length d.clocks)) ws) _
      (any (through (rule_word (scope d)) (bare (length d.clocks)) ws))
      (λ b q. keeps_must (ends b b.part) 30 _
      (λ e. keeps_must (bounds_good d.ceilings b.bounds) 7 _
      (λ f. keeps_must (ltb (length d.rules) 256) 33 _ (λ r. goes_on (rule_of d s b, refl)))))
    where
      any : (a : Answer Begun) → Keeps (λ b. Unit {0}) a
      any (refused n) = stops_here
      any (gives b) = goes_on tt
