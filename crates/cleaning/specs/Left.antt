-- What is left of a policy, and where it stands then; and the bytes of the list.
use Rattle.std.specs.Prelude.{◌≡◌, refl, Bool, true, List, [], ◌∷◌, ◌⊎◌, ◌↔◌, ℕ, zero, suc, ◌+◌, ◌*◌, length}
use Rattle.std.proofs.Math.Path.{sym, ap}
use Rattle.std.proofs.Common.{◌∙◌, inl, inr, div-add-mod', arith, eq-eqb, ne_eqb}
use Rattle.std.proofs.Math.Option.{some, map, some-injective, none-ne-some}
use Rattle.std.proofs.lemmas.List.{length-map}
use Rattle.policy.specs.Rules.{Rule, Policy}
use Rattle.policy.specs.File.{byte_at, pair_at}
use Rattle.policy.specs.Sound.{WellFormed}
use Rattle.usage.specs.Sift.{flag, nth, sift, rank, kept}
use Rattle.cleaning.specs.SiftLaws.{rank_kept, rank_less, rank_from, nth_sift, nth_map, length_sift}
use Rattle.usage.specs.Clean.{Entered, Used, Struck, renumbered, renamed, struck_bytes}
use Rattle.usage.specs.Flags.{entered_flags, used_flags}
use Rattle.usage.specs.Flagged.{meant}
use Rattle.cleaning.specs.Entry.{cleaned_of}
use Rattle.cleaning.specs.Laws.{ThreeBytes, Renumbers, StaysAs, Leaves}
use Rattle.cleaning.specs.Same.{flag_below, used_rule}
use Rattle.cleaning.specs.Lawful.{start_kept}
use Rattle.cleaning.specs.Alike.{get_d_sift}

-- Each entry of the list stands in three bytes, its kind and its old number.
pub three_bytes : (xs : List Struck) → ThreeBytes xs (struck_bytes xs)
three_bytes xs = record { size = size xs; kind = kind xs; number = number xs }
  where
    size : (xs : List Struck) → length (struck_bytes xs) ≡ 3 * length xs
    size [] = refl
    size (x ∷ xs) = omega (arith, size xs)

    kind : (xs : List Struck) (i : ℕ) (x : Struck) → nth xs i ≡ some x → byte_at (struck_bytes xs) (3 * i) ≡ x.kind
    kind [] i x h = absurd (none-ne-some x h)
    kind (y ∷ xs) zero x h = ap (λ (z : Struck). z.kind) (some-injective y x h)
    kind (y ∷ xs) (suc i) x h = let e : 3 * suc i ≡ suc (suc (suc (3 * i))) = omega arith in rw e (kind xs i x h)

    number : (xs : List Struck) (i : ℕ) (x : Struck) → nth xs i ≡ some x → pair_at (struck_bytes xs) (3 * i + 1) ≡ x.number
    number [] i x h = absurd (none-ne-some x h)
    number (y ∷ xs) zero x h = div-add-mod' y.number 256 ∙ ap (λ (z : Struck). z.number) (some-injective y x h)
    number (y ∷ xs) (suc i) x h =
        let e : 3 * suc i + 1 ≡ suc (suc (suc (3 * i + 1))) = omega arith in
        let d : suc (suc (suc (3 * i + 1))) + 1 ≡ suc (suc (suc (3 * i + 1 + 1))) = omega arith in
        rw (e, d) (number xs i x h)

-- Flags number what they keep anew.
renumbers : {G : ℕ → Type 0} (L : List Bool) → ((n : ℕ) → (flag L n ≡ true) ↔ G n) → Renumbers G (kept L) (rank L)
renumbers L says =
    record {
      below = λ n g. rank_kept L n ((says n).1 g);
      order = λ n m g h. rank_less L n m ((says n).1 g);
      from = λ k l. let r = rank_from L k l in (r.0, (says r.0).0 r.1, r.2);
    }

module _ (p : Policy) (ok : WellFormed p) where
  stays_as : (i : ℕ) (r : Rule) → Used p i → nth p.rules i ≡ some r → StaysAs p (rank (entered_flags p)) r (renamed (entered_flags p) r)
  stays_as i r u h =
      let k = used_rule p i r u h in
      record {
        source = (k.0, refl);
        target = target k.1;
        in_care = refl;
        in_value = refl;
        out_care = refl;
        out_value = refl;
        reset = refl;
        bounds = refl;
      }
    where
      target :
          (r.target ≡ 255) ⊎ Entered p r.target →
          ((r.target ≡ 255) × (renumbered (entered_flags p) r.target ≡ 255))
          ⊎ (Entered p r.target × (renumbered (entered_flags p) r.target ≡ rank (entered_flags p) r.target))
      target (inl e) = inl (e, rw (eq-eqb r.target 255 e))
      target (inr a) =
          let l = flag_below (entered_flags p) r.target (((meant p ok).entered r.target).1 a) in
          let few = (meant p ok).few in
          inr (a, rw (ne_eqb r.target 255 (λ e. omega arith)))

  -- The cleaned policy has what is entered and used, in order and renumbered, and nothing else.
  pub leaves : Leaves p (cleaned_of p)
  unfolding cleaned_of
  leaves =
      let m = meant p ok in
      record {
        reading = refl;
        inputs = refl;
        outputs = refl;
        ceilings = refl;
        new_location = rank (entered_flags p);
        start = ((m.entered 0).0 (start_kept m), refl);
        locations = renumbers (entered_flags p) m.entered;
        bytes = length_sift (entered_flags p) p.left (m.locations ∙ sym ok.bytes);
        byte = λ l a. get_d_sift (entered_flags p) p.left l ((m.entered l).1 a);
        new_rule = rank (used_flags p);
        order =
            rw (length-map (sift (used_flags p) p.rules) (renamed (entered_flags p)), length_sift (used_flags p) p.rules m.rules)
            (renumbers (used_flags p) m.used);
        rules = λ i r u h. (
          renamed (entered_flags p) r,
          nth_map (renamed (entered_flags p)) (sift (used_flags p) p.rules) (rank (used_flags p) i)
              ∙ ap (map (renamed (entered_flags p))) (nth_sift (used_flags p) p.rules i ((m.used i).1 u) ∙ h),
          stays_as i r u h,
        );
      }
