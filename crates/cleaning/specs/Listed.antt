-- What stands in the list of what was struck, and in which order; and no other list says so. For any flags that are meant so.
-- In order: the locations; the rules; kind by kind; "in file order"; that one list alone says so.
use Rattle.std.specs.Prelude.{◌≡◌, refl, Bool, true, false, cond, ◌⊎◌, ◌↔◌, ℕ, zero, suc, ◌+◌, ◌≤◌, ◌<◌, length}
use Rattle.std.proofs.Common.{sym, ap, ap₂, subst, ◌∙◌, inl, inr, ⊎_elim, zero-add, arith}
use Rattle.std.proofs.lemmas.Bool.{false≢true}
use mathlib.Core.List.Memᴰ
use mathlib.Core.List.{List, [], ◌∷◌, ◌++◌, Memᴰ}
use Rattle.std.proofs.Math.Option.{some, some-injective, none-ne-some}
use Rattle.policy.specs.Rules.{Rule, Policy}
use Rattle.usage.specs.Sift.{flag, nth}
use Rattle.usage.specs.Clean.{Used, Entered, Meant, Struck, locations_struck, rules_struck, struck}
use Rattle.cleaning.specs.Laws.{section, Earlier, InOrder, in_order_none, in_order_more, Lists}
use Rattle.cleaning.specs.Same.{used_rule}
use Rattle.cleaning.specs.Again.{nth_below}

abbrev location : ℕ → Struck
location l = record { kind = 1; number = l }

-- A rule is of kind 3 where its location stays, and else of kind 2.
abbrev rule_of : Bool → ℕ → Struck
rule_of stays i = record { kind = cond stays 3 2; number = i }

-- ---- the locations from l on
locations_in :
    (L : List Bool) (l : ℕ) {x : Struck} → Memᴰ x (locations_struck l L) → (i : ℕ) × (i < length L) × (flag L i ≡ false) × (x ≡ location (l + i))
locations_in [] l m = elim m [ ]
locations_in (true ∷ L) l m =
    let r = locations_in L (suc l) m in
    (suc r.0, omega (arith, r.1), r.2, r.3 ∙ ap location (omega arith))
locations_in (false ∷ L) l (Memᴰ.head e) = (0, omega arith, refl, e ∙ ap location (omega arith))
locations_in (false ∷ L) l (Memᴰ.tail m) =
    let r = locations_in L (suc l) m in
    (suc r.0, omega (arith, r.1), r.2, r.3 ∙ ap location (omega arith))

locations_have : (L : List Bool) (l i : ℕ) → i < length L → flag L i ≡ false → Memᴰ (location (l + i)) (locations_struck l L)
locations_have [] l i h e = absurd (omega arith)
locations_have (true ∷ L) l zero h e = absurd (false≢true (sym e))
locations_have (false ∷ L) l zero h e = let n : l + 0 ≡ l = omega arith in Memᴰ.head (ap location n)
locations_have (true ∷ L) l (suc i) h e =
    subst (λ (n : ℕ). Memᴰ (location n) (locations_struck (suc l) L)) (omega arith) (locations_have L (suc l) i (omega arith) e)
locations_have (false ∷ L) l (suc i) h e =
    Memᴰ.tail (subst (λ (n : ℕ). Memᴰ (location n) (locations_struck (suc l) L)) (omega arith) (locations_have L (suc l) i (omega arith) e))

-- ---- the rules from the number i on
module _ (L : List Bool) where
  rules_in :
      (U : List Bool) (rs : List Rule) (i : ℕ) {x : Struck} → Memᴰ x (rules_struck L i U rs) →
      (j : ℕ) × (r : Rule) × (nth rs j ≡ some r) × (flag U j ≡ false) × (x ≡ rule_of (flag L r.source) (i + j))
  rules_in [] rs i m = elim m [ ]
  rules_in (false ∷ U) [] i m = elim m [ ]
  rules_in (true ∷ U) [] i m = elim m [ ]
  rules_in (true ∷ U) (r ∷ rs) i m =
      let k = rules_in U rs (suc i) m in
      (suc k.0, k.1, k.2, k.3, k.4 ∙ ap (rule_of (flag L k.1.source)) (omega arith))
  rules_in (false ∷ U) (r ∷ rs) i (Memᴰ.head e) = (0, r, refl, refl, e ∙ ap (rule_of (flag L r.source)) (omega arith))
  rules_in (false ∷ U) (r ∷ rs) i (Memᴰ.tail m) =
      let k = rules_in U rs (suc i) m in
      (suc k.0, k.1, k.2, k.3, k.4 ∙ ap (rule_of (flag L k.1.source)) (omega arith))

  rules_have :
      (U : List Bool) (rs : List Rule) (i j : ℕ) (r : Rule) → j < length U → nth rs j ≡ some r → flag U j ≡ false →
      Memᴰ (rule_of (flag L r.source) (i + j)) (rules_struck L i U rs)
  rules_have [] rs i j r h q e = absurd (omega arith)
  rules_have (b ∷ U) [] i j r h q e = absurd (none-ne-some r q)
  rules_have (true ∷ U) (a ∷ rs) i zero r h q e = absurd (false≢true (sym e))
  rules_have (false ∷ U) (a ∷ rs) i zero r h q e =
      let n : i + 0 ≡ i = omega arith in
      Memᴰ.head (ap₂ (λ (z : Rule) (m : ℕ). rule_of (flag L z.source) m) (sym (some-injective a r q)) n)
  rules_have (true ∷ U) (a ∷ rs) i (suc j) r h q e =
      subst (λ (n : ℕ). Memᴰ (rule_of (flag L r.source) n) (rules_struck L (suc i) U rs)) (omega arith)
      (rules_have U rs (suc i) j r (omega arith) q e)
  rules_have (false ∷ U) (a ∷ rs) i (suc j) r h q e =
      Memᴰ.tail
      (subst (λ (n : ℕ). Memᴰ (rule_of (flag L r.source) n) (rules_struck L (suc i) U rs)) (omega arith)
      (rules_have U rs (suc i) j r (omega arith) q e))

-- ---- kind by kind
module _ {p : Policy} {L U : List Bool} (meant : Meant p L U) where
  -- A flag that is not set says no.
  not_entered : (l : ℕ) → flag L l ≡ false → ¬ Entered p l
  not_entered l h a = false≢true (sym h ∙ (meant.entered l).1 a)

  not_used : (i : ℕ) → flag U i ≡ false → ¬ Used p i
  not_used i h u = false≢true (sym h ∙ (meant.used i).1 u)

  unset : (b : Bool) → ¬ (b ≡ true) → b ≡ false
  unset true n = absurd (n refl)
  unset false n = refl

  no_entry : (l : ℕ) → ¬ Entered p l → flag L l ≡ false
  no_entry l n = unset (flag L l) (λ h. n ((meant.entered l).0 h))

  no_use : (i : ℕ) → ¬ Used p i → flag U i ≡ false
  no_use i n = unset (flag U i) (λ h. n ((meant.used i).0 h))

  -- Each entry is a location that is not entered, or a rule that is not used.
  from_list :
      {x : Struck} → Memᴰ x (struck p L U) →
      ((l : ℕ) × (l < p.locations) × (flag L l ≡ false) × (x ≡ location l))
      ⊎ ((i : ℕ) × (r : Rule) × (nth p.rules i ≡ some r) × (flag U i ≡ false) × (x ≡ rule_of (flag L r.source) i))
  from_list m =
      ⊎_elim (λ u. let k = locations_in L 0 u in inl (k.0, omega (arith, k.1, meant.locations), k.2, k.3 ∙ ap location (zero-add k.0)))
      (λ u. let k = rules_in L U p.rules 0 u in inr (k.0, k.1, k.2, k.3, k.4 ∙ ap (rule_of (flag L k.1.source)) (zero-add k.0)))
      (Memᴰ.append_cases (locations_struck 0 L) m)

  location_listed : (l : ℕ) → l < p.locations → flag L l ≡ false → Memᴰ (location l) (struck p L U)
  location_listed l h e =
      Memᴰ.append_left (rules_struck L 0 U p.rules)
      (subst (λ (n : ℕ). Memᴰ (location n) (locations_struck 0 L)) (zero-add l) (locations_have L 0 l (omega (arith, meant.locations)) e))

  rule_listed : (i : ℕ) (r : Rule) → nth p.rules i ≡ some r → flag U i ≡ false → Memᴰ (rule_of (flag L r.source) i) (struck p L U)
  rule_listed i r q e =
      Memᴰ.append_right (locations_struck 0 L)
      (subst (λ (n : ℕ). Memᴰ (rule_of (flag L r.source) n) (rules_struck L 0 U p.rules)) (zero-add i)
      (rules_have L U p.rules 0 i r (omega (arith, nth_below p.rules i r q, meant.rules)) q e))

  kind_1 : (l : ℕ) → Memᴰ (record { kind = 1; number = l }) (struck p L U) ↔ ((l < p.locations) × (¬ Entered p l))
  kind_1 l = (
    λ m.
        ⊎_elim (λ k. let e = ap (λ (x : Struck). x.number) k.3 in (omega (arith, k.1), rw e (not_entered k.0 k.2)))
        (λ k. absurd (other (flag L k.1.source) (ap (λ (x : Struck). x.kind) k.4))) (from_list m),
    λ h. location_listed l h.0 (no_entry l h.1),
  )
    where
      other : (b : Bool) → ◌≡◌ {A = ℕ} 1 (cond b 3 2) → ⊥
      other true e = omega arith
      other false e = omega arith

  kind_2 :
      (i : ℕ) → Memᴰ (record { kind = 2; number = i }) (struck p L U) ↔ ((r : Rule) × (nth p.rules i ≡ some r) × (¬ Entered p r.source))
  kind_2 i = (
    λ m.
        ⊎_elim (λ k. let e = ap (λ (x : Struck). x.kind) k.3 in absurd (omega arith))
        (λ k.
        let e = ap (λ (x : Struck). x.number) k.4 in
        (k.1, rw e k.2, not_entered k.1.source (other (flag L k.1.source) (ap (λ (x : Struck). x.kind) k.4)))) (from_list m),
    λ h.
        subst (λ (b : Bool). Memᴰ (rule_of b i) (struck p L U)) (no_entry h.0.source h.2)
        (rule_listed i h.0 h.1 (no_use i (λ u. h.2 (used_rule p i h.0 u h.1).0))),
  )
    where
      other : (b : Bool) → ◌≡◌ {A = ℕ} 2 (cond b 3 2) → b ≡ false
      other true e = absurd (omega arith)
      other false e = refl

  kind_3 :
      (i : ℕ) →
      Memᴰ (record { kind = 3; number = i }) (struck p L U)
      ↔ ((r : Rule) × (nth p.rules i ≡ some r) × Entered p r.source × (¬ Used p i))
  kind_3 i = (
    λ m.
        ⊎_elim (λ k. let e = ap (λ (x : Struck). x.kind) k.3 in absurd (omega arith))
        (λ k.
        let e = ap (λ (x : Struck). x.number) k.4 in (
          k.1,
          rw e k.2,
          (meant.entered k.1.source).0 (other (flag L k.1.source) (ap (λ (x : Struck). x.kind) k.4)),
          rw e (not_used k.0 k.3),
        )) (from_list m),
    λ h.
        subst (λ (b : Bool). Memᴰ (rule_of b i) (struck p L U)) ((meant.entered h.0.source).1 h.2)
        (rule_listed i h.0 h.1 (no_use i h.3)),
  )
    where
      other : (b : Bool) → ◌≡◌ {A = ℕ} 3 (cond b 3 2) → b ≡ true
      other true e = refl
      other false e = absurd (omega arith)

  kinds : (x : Struck) → Memᴰ x (struck p L U) → (1 ≤ x.kind) × (x.kind ≤ 3)
  kinds x m =
      ⊎_elim (λ k. let e = ap (λ (x : Struck). x.kind) k.3 in (omega arith, omega arith))
      (λ k. either (flag L k.1.source) (ap (λ (x : Struck). x.kind) k.4)) (from_list m)
    where
      either : {n : ℕ} (b : Bool) → n ≡ cond b 3 2 → (1 ≤ n) × (n ≤ 3)
      either true e = (omega arith, omega arith)
      either false e = (omega arith, omega arith)

-- ---- "in file order"
of_rules : (b : Bool) (i : ℕ) → section (rule_of b i) ≡ 1
of_rules true i = refl
of_rules false i = refl

locations_order : (L : List Bool) (l : ℕ) → InOrder (locations_struck l L)
locations_order [] l = in_order_none
locations_order (true ∷ L) l = locations_order L (suc l)
locations_order (false ∷ L) l =
    in_order_more {x = location l} (λ y m. let k = locations_in L (suc l) m in
    let n = ap (λ (x : Struck). x.number) k.3 in
    inr (ap section (sym k.3), omega arith)) (locations_order L (suc l))

module _ (L : List Bool) where
  rules_order : (U : List Bool) (rs : List Rule) (i : ℕ) → InOrder (rules_struck L i U rs)
  rules_order [] rs i = in_order_none
  rules_order (b ∷ U) [] i = in_order_none
  rules_order (true ∷ U) (r ∷ rs) i = rules_order U rs (suc i)
  rules_order (false ∷ U) (r ∷ rs) i =
      in_order_more {x = rule_of (flag L r.source) i} (λ y m. let k = rules_in L U rs (suc i) m in
      let n = ap (λ (x : Struck). x.number) k.4 in
      inr (of_rules (flag L r.source) i ∙ sym (ap section k.4 ∙ of_rules (flag L k.1.source) (suc i + k.0)), omega arith))
      (rules_order U rs (suc i))

order_append :
    {xs ys : List Struck} → InOrder xs → InOrder ys → ((x y : Struck) → Memᴰ x xs → Memᴰ y ys → Earlier x y) → InOrder (xs ++ ys)
order_append in_order_none k f = k
order_append (in_order_more {x = x} {xs = xs} h t) k f =
    in_order_more (λ y m. ⊎_elim (h y) (f x y (Memᴰ.head refl)) (Memᴰ.append_cases xs m)) (order_append t k (λ x y m n. f x y (Memᴰ.tail m) n))

struck_order : (p : Policy) (L U : List Bool) → InOrder (struck p L U)
struck_order p L U =
    order_append (locations_order L 0) (rules_order L U p.rules 0) (λ x y m n.
    let a = ap section (locations_in L 0 m).3 in
    let k = rules_in L U p.rules 0 n in
    let b = ap section k.4 ∙ of_rules (flag L k.1.source) k.0 in
    inl (omega arith))

-- A list in order is known by what stands in it.
not_both : (x y : Struck) → Earlier x y → Earlier y x → ⊥
not_both x y (inl h) (inl k) = omega arith
not_both x y (inl h) (inr k) = omega (arith, k.0)
not_both x y (inr h) (inl k) = omega (arith, h.0)
not_both x y (inr h) (inr k) = omega (arith, h.1, k.1)

in_order_one : {xs ys : List Struck} → InOrder xs → InOrder ys → ((x : Struck) → Memᴰ x xs ↔ Memᴰ x ys) → xs ≡ ys
in_order_one in_order_none in_order_none f = refl
in_order_one in_order_none (in_order_more {x = y} k u) f = absurd (Memᴰ.not-nil ((f y).1 (Memᴰ.head refl)))
in_order_one (in_order_more {x = x} h t) in_order_none f = absurd (Memᴰ.not-nil ((f x).0 (Memᴰ.head refl)))
in_order_one (in_order_more {x = x} {xs = xs} h t) (in_order_more {x = y} {xs = ys} k u) f =
    let first : x ≡ y = same ((f x).0 (Memᴰ.head refl)) ((f y).1 (Memᴰ.head refl)) in
    ap₂ ◌∷◌ first (in_order_one t u (λ z. (λ m. go_on first m ((f z).0 (Memᴰ.tail m)), λ m. go_back first m ((f z).1 (Memᴰ.tail m)))))
  where
    same : Memᴰ x (y ∷ ys) → Memᴰ y (x ∷ xs) → x ≡ y
    same (Memᴰ.head e) n = e
    same (Memᴰ.tail m) (Memᴰ.head e) = sym e
    same (Memᴰ.tail m) (Memᴰ.tail n) = absurd (not_both x y (h y n) (k x m))

    -- What comes later is not the first again.
    go_on : {z : Struck} → x ≡ y → Memᴰ z xs → Memᴰ z (y ∷ ys) → Memᴰ z ys
    go_on {z} first m (Memᴰ.head e) = let b = subst (Earlier x) (e ∙ sym first) (h z m) in absurd (not_both x x b b)
    go_on first m (Memᴰ.tail n) = n

    go_back : {z : Struck} → x ≡ y → Memᴰ z ys → Memᴰ z (x ∷ xs) → Memᴰ z xs
    go_back {z} first m (Memᴰ.head e) = let b = subst (Earlier y) (e ∙ first) (k z m) in absurd (not_both y y b b)
    go_back first m (Memᴰ.tail n) = n

-- The list has just the locations that are not entered and the rules that are not used, by kind and in file order.
pub lists : {p : Policy} {L U : List Bool} → Meant p L U → Lists p (struck p L U)
lists {p} {L} {U} meant =
    record { kind_1 = kind_1 meant; kind_2 = kind_2 meant; kind_3 = kind_3 meant; kinds = kinds meant; order = struck_order p L U }

-- By the kind of an entry.
by_kind : (k : ℕ) → 1 ≤ k → k ≤ 3 → (k ≡ 1) ⊎ ((k ≡ 2) ⊎ (k ≡ 3))
by_kind zero a b = absurd (omega arith)
by_kind (suc zero) a b = inl refl
by_kind (suc (suc zero)) a b = inr (inl refl)
by_kind (suc (suc (suc zero))) a b = inr (inr refl)
by_kind (suc (suc (suc (suc k)))) a b = absurd (omega arith)

listed_too : {p : Policy} {xs ys : List Struck} → Lists p xs → Lists p ys → (x : Struck) → Memᴰ x xs → Memᴰ x ys
listed_too {xs = xs} {ys} f g x m = let k = f.kinds x m in go (by_kind x.kind k.0 k.1)
  where
    entry : {k : ℕ} → x.kind ≡ k → x ≡ record { kind = k; number = x.number }
    entry e = λ i. record { kind = e i; number = x.number }

    turn : {k : ℕ} → x.kind ≡ k → (Memᴰ (record { kind = k; number = x.number }) xs → Memᴰ (record { kind = k; number = x.number }) ys) → Memᴰ x ys
    turn e h = subst (λ (z : Struck). Memᴰ z ys) (sym (entry e)) (h (subst (λ (z : Struck). Memᴰ z xs) (entry e) m))

    go : (x.kind ≡ 1) ⊎ ((x.kind ≡ 2) ⊎ (x.kind ≡ 3)) → Memᴰ x ys
    go (inl e) = turn e (λ h. (g.kind_1 x.number).1 ((f.kind_1 x.number).0 h))
    go (inr (inl e)) = turn e (λ h. (g.kind_2 x.number).1 ((f.kind_2 x.number).0 h))
    go (inr (inr e)) = turn e (λ h. (g.kind_3 x.number).1 ((f.kind_3 x.number).0 h))

-- The list that says so is one.
pub lists_one : {p : Policy} {xs ys : List Struck} → Lists p xs → Lists p ys → xs ≡ ys
lists_one f g = in_order_one f.order g.order (λ x. (listed_too f g x, listed_too g f x))
