-- The cleaned policy permits the same streams, and rests after the same. For any flags that are meant so.
use Rattle.std.specs.Prelude.{◌≡◌, refl, Bool, true, false, List, [], ◌∷◌, map, ℕ, zero, suc, get_or}
use Rattle.std.proofs.Math.Path.{sym, ap}
use Rattle.std.proofs.Common.{◌∙◌}
use Rattle.std.proofs.lemmas.Bool.{false≢true}
use Rattle.std.proofs.Math.Option
use Rattle.std.proofs.Math.Option.{some, map-eq-some_iff}
use Rattle.std.proofs.Math.Dec.{eqb}
use Rattle.streams.specs.Stream.{Stream}
use Rattle.streams.specs.Languages.{◌narrows◌, ◌≋◌}
use Rattle.policy.specs.Rules.{Policy, Place, start, unlimited, steps, rests, Runs, Rests, Permits}
use Rattle.policy.specs.Sound.{WellFormed}
use Rattle.policy.specs.Reached.{Reached}
use Rattle.usage.specs.Sift.{flag, sift, rank}
use Rattle.usage.specs.Clean.{Meant, cleaned, moved}
use Rattle.cleaning.specs.Same.{entered_here, from_start, after_cleaned, cleaned_after}
use Rattle.cleaning.specs.Signals.{within, fits_within, steps_within}
use Rattle.cleaning.specs.Lawful.{cleaned_well}

-- What is kept of a list of numbers is read at its new number.
pub get_d_sift : (L : List Bool) (xs : List ℕ) (i : ℕ) → flag L i ≡ true → get_or (sift L xs) (rank L i) 0 ≡ get_or xs i 0
get_d_sift [] xs i h = absurd (false≢true h)
get_d_sift (b ∷ L) [] i h = refl
get_d_sift (true ∷ L) (x ∷ xs) zero h = refl
get_d_sift (true ∷ L) (x ∷ xs) (suc i) h = get_d_sift L xs i h
get_d_sift (false ∷ L) (x ∷ xs) zero h = absurd (false≢true h)
get_d_sift (false ∷ L) (x ∷ xs) (suc i) h = get_d_sift L xs i h

module _ {p : Policy} {L U : List Bool} (meant : Meant p L U) (ok : WellFormed p) where
  -- A stream with other bits than the signals' leads where the one without them does.
  leads_cleaned : (w : Stream) → steps unlimited (cleaned p L U) (start (cleaned p L U)) w ≡ Option.map (moved L) (steps unlimited p (start p) w)
  leads_cleaned w =
      sym (steps_within (cleaned p L U) (cleaned_well meant ok) unlimited w (start (cleaned p L U)))
      ∙ from_start meant (map (within p) w) (fits_within p w) ∙ ap (Option.map (moved L)) (steps_within p ok unlimited w (start p))

  reached_within : (w : Stream) (s : Place) → steps unlimited p (start p) w ≡ some s → Reached p s
  reached_within w s h = (map (within p) w, (fits_within p w, steps_within p ok unlimited w (start p) ∙ h))

  -- The byte of a location goes along with it.
  rests_moved : (s : Place) → Reached p s → rests (cleaned p L U) (moved L s).location ≡ rests p s.location
  unfolding rests
  rests_moved s r = ap (λ (b : ℕ). eqb b 0) (get_d_sift L p.left s.location (entered_here meant r))

  forth : Permits (cleaned p L U) narrows Permits p
  unfolding Runs Rests
  forth =
      record {
        permits = λ w r. let s = cleaned_after meant w r.1.0 (r.0, r.1.1) in (s.1.0, (s.0, s.1.1));
        rests = λ w r.
            let h = (map-eq-some_iff (moved L) (steps unlimited p (start p) w)).0 (sym (leads_cleaned w) ∙ r.1) in (
              h.0,
              h.1,
              sym (rests_moved h.0 (reached_within w h.0 h.1)) ∙ ap (λ (t : Place). rests (cleaned p L U) t.location) h.2 ∙ r.2,
            );
      }

  back : Permits p narrows Permits (cleaned p L U)
  unfolding Runs Rests
  back =
      record {
        permits = λ w r. let a = after_cleaned meant w r.1.0 (r.0, r.1.1) in (a.0, (moved L r.1.0, a.1));
        rests = λ w r. (
          moved L r.0,
          leads_cleaned w ∙ ap (Option.map (moved L)) r.1,
          rests_moved r.0 (reached_within w r.0 r.1) ∙ r.2,
        );
      }

  -- The cleaned policy permits the same streams, and rests after the same.
  pub permits_same : Permits (cleaned p L U) ≋ Permits p
  permits_same = (forth, back)
