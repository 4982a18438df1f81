-- One pass over a location's own rules, as the code makes it: what each rule takes, and what is known before and after it.
-- In order: what a rule takes, by its bytes (`Parts`, `Parted`, `Took`); whether it leads to a marked place (`Went`), and what all rules find
-- (`Gathers`, `Gathering`); where it leads, whatever is marked (`Led`, `Held`, `RuleTurned`), and which states the rules have found (`Passing`).
use Rattle.std.specs.Prelude.{◌≡◌, Bool, cond, ◌&&◌, List, [], ◌∷◌, ℕ, ◌≤◌, ◌<◌, eqb, replicate}
use Rattle.std.proofs.Math.Path.{refl, sym, ap, ap₂}
use Rattle.std.proofs.Common.{◌∙◌, subst, lt-ltb, le-ltb, ltb-true, ltb-false}
use Rattle.std.proofs.Math.Bool.{true, false, and-eq-true_iff, or-true}
use Rattle.std.proofs.lemmas.Bool.{false≢true}
use native.Mathlib.Omega.{arith}
use Rattle.std.proofs.Math.Dec.{ltb}
use Rattle.std.specs.Int.Bits.{bit_and, bit_or, bit_xor, and_zero_r, or_zero_r, xor_zero_r}
use Rattle.std.proofs.Math.ListN.{get_or}
use Rattle.streams.specs.Choose.{some_below}
use Rattle.streams.specs.ChooseLaws.{some_from, some_none, some_has, some_fails}
use Rattle.policy.specs.Rules.{Rule, Policy, Place, input_values, output_values, stopped, looked}
use Rattle.policy.specs.Sound.{WellFormed}
use Rattle.policy.specs.Own.{own}
use Rattle.policy.specs.Number.{states}
use Rattle.stepping.specs.State.{is_marked}
use Rattle.stepping.specs.Only.{marked_one}
use Rattle.stepping.specs.Tick.{may_stand}
use Rattle.choice.specs.Sets.{agreed, cond_same, has, has_or, has_some, has_not_empty, all_below}
use Rattle.choice.specs.Outs.{outs}
use Rattle.stepping.specs.Ways.{room, holds, takes, leads, gathered, allowed}
use Rattle.stepping.specs.WaysLaws.{gathered_keeps, gathered_empty, gathered_own, allowed_any}
use Rattle.choice.specs.Changed.{Changed, changed_one, changed_by, changed_not, zeros}

-- A test that nothing passes is passed by no number below n.
none_any : (n : ℕ) → some_below (λ x. ltb 0 0) n ≡ false
none_any n = some_fails _ n (λ z h. refl)

-- What a rule takes, by care bits and a value of the input and a set of outputs.
module _ (s : Place) where
  -- These care bits, this value and this set say what the rule r takes, whatever the input.
  pub record Parts (r : Rule) (care value set : ℕ) : Type 0 where
    pub few : care < 16
    pub within : bit_and value care ≡ value
    pub same : (x left : ℕ) → agreed care value set x left ≡ takes s r x left

  -- Whether the rule r takes something of the first n sets, and if so, what: its own care bits, value and outputs. If not, the three numbers are 0.
  pub record Parted (r : Rule) (n : ℕ) (left : List ℕ) (some : Bool) (care value set : ℕ) : Type 0 where
    pub says : some ≡ some_below (λ x. ltb 0 (takes s r x (get_or left x 0))) n
    pub parts : some ≡ true → Parts r care value set
    pub its_care : care ≡ cond some r.in_care 0
    pub its_value : value ≡ cond some r.in_value 0
    pub its_set : set ≡ cond some (outs r.out_care r.out_value) 0

  -- One answer alone meets it.
  pub parted_one : {r : Rule} {n : ℕ} {left : List ℕ} {a b : Bool} {care value set care' value' set' : ℕ} →
      Parted r n left a care value set → Parted r n left b care' value' set' → (a ≡ b) × (care ≡ care') × (value ≡ value') × (set ≡ set')
  parted_one {r} k j =
      let e = k.says ∙ sym j.says in (
        e,
        k.its_care ∙ rw e (sym j.its_care),
        k.its_value ∙ rw e (sym j.its_value),
        k.its_set ∙ rw e (sym j.its_set),
      )

  parted_nothing : {r : Rule} {n : ℕ} {left : List ℕ} → false ≡ some_below (λ x. ltb 0 (takes s r x (get_or left x 0))) n → Parted r n left false 0 0 0
  parted_nothing d = record { says = d; parts = λ q. absurd (false≢true q); its_care = refl; its_value = refl; its_set = refl }

  -- A rule whose bounds do not hold takes nothing.
  pub parted_bounds : {r : Rule} {n : ℕ} {left : List ℕ} → holds s r ≡ false → Parted r n left false 0 0 0
  unfolding takes
  parted_bounds {r} {n} e = parted_nothing (rw (e, none_any n))

  -- One whose bounds hold takes what its bytes say.
  pub parts_so : {r : Rule} → holds s r ≡ true → r.in_care < 16 → bit_and r.in_value r.in_care ≡ r.in_value →
      Parts r r.in_care r.in_value (outs r.out_care r.out_value)
  unfolding takes
  parts_so e few within = record { few = few; within = within; same = λ x l. rw e }

  module _ {r : Rule} {n : ℕ} {left : List ℕ} (e : holds s r ≡ true) where
    -- Nothing of that is left: the answer is no, and the three numbers are 0.
    pub parted_taken : false ≡ some_below (λ x. ltb 0 (agreed r.in_care r.in_value (outs r.out_care r.out_value) x (get_or left x 0))) n → Parted r n left false 0 0 0
    unfolding takes
    parted_taken d = parted_nothing (rw e d)

    -- Something of that is left: the answer is yes, with the rule's own numbers.
    pub parted_so : r.in_care < 16 → bit_and r.in_value r.in_care ≡ r.in_value →
        true ≡ some_below (λ x. ltb 0 (agreed r.in_care r.in_value (outs r.out_care r.out_value) x (get_or left x 0))) n →
        Parted r n left true r.in_care r.in_value (outs r.out_care r.out_value)
    unfolding takes
    parted_so few within d = record { says = rw e d; parts = λ q. parts_so e few within; its_care = refl; its_value = refl; its_set = refl }

  module _ {r : Rule} {n : ℕ} {left : List ℕ} {care value set : ℕ} (k : Parted r n left false care value set) where
    -- Where the answer is no, the rule takes nothing of any of the first n sets.
    pub parted_none : (x : ℕ) → x < n → takes s r x (get_or left x 0) ≡ 0
    parted_none x h =
        let m : takes s r x (get_or left x 0) ≤ 0 = ltb-false _ _ (some_none _ n (sym k.says) x h) in
        omega arith

    -- Where the answer is no, the sets stay as they are.
    pub parted_not : Changed (λ x. bit_xor (get_or left x 0) (takes s r x (get_or left x 0))) n left left
    parted_not = changed_not (λ x h. rw (parted_none x h, xor_zero_r))

  -- Sets that lose what the parts say lose what the rule takes.
  pub parts_taken : {r : Rule} {n : ℕ} {left rest : List ℕ} {care value set : ℕ} → Parts r care value set →
      Changed (λ x. bit_xor (get_or left x 0) (agreed care value set x (get_or left x 0))) n left rest →
      Changed (λ x. bit_xor (get_or left x 0) (takes s r x (get_or left x 0))) n left rest
  parts_taken {left = left} k c = changed_by (λ x h. rw (k.same x (get_or left x 0))) c

  -- What the rule r takes of the first n sets, and whether that is something.
  pub record Took (r : Rule) (n : ℕ) (left rest : List ℕ) (some : Bool) : Type 0 where
    pub changed : Changed (λ x. bit_xor (get_or left x 0) (takes s r x (get_or left x 0))) n left rest
    pub says : some ≡ some_below (λ x. ltb 0 (takes s r x (get_or left x 0))) n

  -- One answer alone meets it, and one later content of the sets.
  pub took_one : {r : Rule} {n : ℕ} {left rest also : List ℕ} {a b : Bool} → Took r n left rest a → Took r n left also b → (rest ≡ also) × (a ≡ b)
  took_one k j = (changed_one k.changed j.changed, k.says ∙ sym j.says)

  -- Where the answer is no, the rule takes nothing and leaves the sets as they are.
  pub took_not : {r : Rule} {n : ℕ} {left : List ℕ} {care value set : ℕ} → Parted r n left false care value set → Took r n left left false
  took_not k = record { changed = parted_not k; says = k.says }

  -- Where the answer is yes, the rule takes something: what its parts say.
  pub took_so : {r : Rule} {n : ℕ} {left rest : List ℕ} {care value set : ℕ} → Parted r n left true care value set →
      Changed (λ x. bit_xor (get_or left x 0) (agreed care value set x (get_or left x 0))) n left rest → Took r n left rest true
  took_so k c = record { changed = parts_taken (k.parts refl) c; says = k.says }

  -- `Took` holds for an equal number of sets too.
  pub took_as : {r : Rule} {n m : ℕ} {left rest : List ℕ} {some : Bool} → n ≡ m → Took r n left rest some → Took r m left rest some
  took_as {r} {left = left} {rest = rest} {some = some} e w = subst (λ (k : ℕ). Took r k left rest some) e w

module _ (s : Place) (p : Policy) (marks : List ℕ) where
  -- What the rule r takes of the first n sets, and whether it takes something and leads to a marked place.
  pub record Went (r : Rule) (n : ℕ) (left rest : List ℕ) (found : Bool) : Type 0 where
    pub changed : Changed (λ x. bit_xor (get_or left x 0) (takes (looked stopped p s) r x (get_or left x 0))) n left rest
    pub says : found ≡ (some_below (λ x. ltb 0 (takes (looked stopped p s) r x (get_or left x 0))) n && leads s p marks r)

  -- `Went` holds for an equal number of sets and an equal answer too.
  pub went_as : {r : Rule} {n m : ℕ} {left rest : List ℕ} {found t : Bool} → n ≡ m → found ≡ t → Went r n left rest found → Went r m left rest t
  went_as {r} {n} {left = left} {rest = rest} {t = t} e d w = subst (λ (k : ℕ). Went r k left rest t) e (subst (λ (b : Bool). Went r n left rest b) d w)

  -- A rule that takes nothing is not found to lead to a marked place.
  pub went_not : {r : Rule} {n : ℕ} {left rest : List ℕ} → Took (looked stopped p s) r n left rest false → Went r n left rest false
  went_not k = record { changed = k.changed; says = rw (← k.says) }

  -- A rule that takes something is found exactly if it leads to a marked place.
  pub went_took : {r : Rule} {n : ℕ} {left rest : List ℕ} {found : Bool} → Took (looked stopped p s) r n left rest true → found ≡ leads s p marks r → Went r n left rest found
  went_took k e = record { changed = k.changed; says = rw (← k.says) e }

  -- What the rule r takes of the first n sets; and it is found, if the rule leads to a marked place.
  pub record Gathers (r : Rule) (n : ℕ) (left rest found more : List ℕ) : Type 0 where
    pub taken : Changed (λ x. bit_xor (get_or left x 0) (takes (looked stopped p s) r x (get_or left x 0))) n left rest
    pub gained : Changed (λ x. cond (leads s p marks r) (bit_or (get_or found x 0) (takes (looked stopped p s) r x (get_or left x 0))) (get_or found x 0)) n found more

  -- `Gathers` holds for an equal number of sets too.
  pub gathers_as : {r : Rule} {n m : ℕ} {left rest found more : List ℕ} → n ≡ m → Gathers r n left rest found more → Gathers r m left rest found more
  gathers_as {r} {left = left} {rest = rest} {found = found} {more = more} e w = subst (λ (k : ℕ). Gathers r k left rest found more) e w

  -- A rule that takes nothing changes neither what is left nor what is found.
  pub gathers_not : {r : Rule} {n : ℕ} {left : List ℕ} (found : List ℕ) {care value set : ℕ} → Parted (looked stopped p s) r n left false care value set → Gathers r n left left found found
  gathers_not {r} {n} {left} found k =
      record {
        taken = parted_not (looked stopped p s) k;
        gained = changed_not (λ x h. rw (parted_none (looked stopped p s) k x h, or_zero_r) (cond_same (leads s p marks r) (get_or found x 0)));
      }

  module _ {r : Rule} {n : ℕ} {left rest : List ℕ} {care value set : ℕ} (k : Parts (looked stopped p s) r care value set)
      (c : Changed (λ x. bit_xor (get_or left x 0) (agreed care value set x (get_or left x 0))) n left rest) (found : List ℕ) where
    -- If the rule leads to a marked place, all that it takes is found; if not, nothing.
    pub gathers_led : {led : ℕ} → led ≡ cond (leads s p marks r) set 0 → {more : List ℕ} →
        Changed (λ x. bit_or (get_or found x 0) (agreed care value led x (get_or left x 0))) n found more → Gathers r n left rest found more
    gathers_led {led} e g =
        record { taken = parts_taken (looked stopped p s) k c; gained = changed_by (λ x h. go x (leads s p marks r) e) g }
      where
        go : (x : ℕ) (b : Bool) → led ≡ cond b set 0 →
            bit_or (get_or found x 0) (agreed care value led x (get_or left x 0)) ≡ cond b (bit_or (get_or found x 0) (takes (looked stopped p s) r x (get_or left x 0))) (get_or found x 0)
        go x true q = rw q (ap (bit_or (get_or found x 0)) (k.same x (get_or left x 0)))
        go x false q = rw (q, and_zero_r, cond_same {A = ℕ} (eqb (bit_and x care) value) 0, or_zero_r) refl

  -- What is known with the rules rs still to come.
  pub record Gathering (rs : List Rule) (left found : List ℕ) : Type 0 where
    pub within : (x : ℕ) → x < input_values p → allowed p marks s x ≡ gathered s p marks rs x (get_or left x 0) (get_or found x 0)
    pub past : (x : ℕ) → input_values p ≤ x → get_or found x 0 ≡ 0

  -- Before the first rule.
  pub gathering_start : WellFormed p → (rs : List Rule) → rs ≡ own s.location p.rules → (left : List ℕ) →
      Changed (λ x. all_below (output_values p)) (input_values p) (replicate 16 0) left → Gathering rs left (replicate 16 0)
  unfolding allowed
  gathering_start k rs e left c =
      record {
        within = λ x h. sym (gathered_own s p marks x (room p x) k) ∙ rw (e, c.at x, zeros 16 x) (refl);
        past = λ x h. zeros 16 x;
      }

  -- One rule more.
  pub gathering_more : {r : Rule} {rs : List Rule} {left rest found more : List ℕ} →
      Gathering (r ∷ rs) left found → Gathers r (input_values p) left rest found more → Gathering rs rest more
  unfolding gathered
  gathering_more {r} {rs} {left} {rest} {found} {more} g w =
      record { within = within; past = λ x h. w.gained.at x ∙ rw (le-ltb x (input_values p) h) (g.past x h) }
    where
      within : (x : ℕ) → x < input_values p → allowed p marks s x ≡ gathered s p marks rs x (get_or rest x 0) (get_or more x 0)
      within x h = g.within x h ∙ ap₂ (gathered s p marks rs x) (sym (w.taken.at x ∙ rw (lt-ltb x (input_values p) h))) (sym (w.gained.at x ∙ rw (lt-ltb x (input_values p) h)))

  -- A rule that takes nothing, or leads to no marked place, finds nothing.
  pub gathering_on : {r : Rule} {rs : List Rule} {left rest found : List ℕ} →
      Gathering (r ∷ rs) left found → Went r (input_values p) left rest false → Gathering rs rest found
  gathering_on {r} {left = left} {found = found} g w =
      gathering_more g (record { taken = w.changed; gained = changed_not (λ x h. same x h _ refl (leads s p marks r) refl) })
    where
      same : (x : ℕ) → x < input_values p → (a : Bool) → some_below (λ z. ltb 0 (takes (looked stopped p s) r z (get_or left z 0))) (input_values p) ≡ a → (b : Bool) →
          leads s p marks r ≡ b → cond b (bit_or (get_or found x 0) (takes (looked stopped p s) r x (get_or left x 0))) (get_or found x 0) ≡ get_or found x 0
      same x h a e false d = refl
      same x h true e true d = absurd (false≢true (w.says ∙ rw (e, d)))
      same x h false e true d =
          let n : takes (looked stopped p s) r x (get_or left x 0) ≤ 0 = ltb-false _ _ (some_none _ (input_values p) e x h) in
          let z : takes (looked stopped p s) r x (get_or left x 0) ≡ 0 = omega arith in
          rw (z, or_zero_r)

  -- With nothing left the rules still to come find nothing.
  pub gathering_empty : {rs : List Rule} {left found : List ℕ} → Gathering rs left found → ((x : ℕ) → x < input_values p → get_or left x 0 ≡ 0) → Gathering [] left found
  unfolding gathered
  gathering_empty {rs} {left} {found} g z =
      record {
        within = λ x h. g.within x h ∙ ap (λ (l : ℕ). gathered s p marks rs x l (get_or found x 0)) (z x h) ∙ gathered_empty s p marks rs x (get_or found x 0);
        past = g.past;
      }

  -- What a rule that leads on takes is allowed.
  takes_found : {r : Rule} {rs : List Rule} {left found : List ℕ} → Gathering (r ∷ rs) left found → leads s p marks r ≡ true →
      (x : ℕ) → x < input_values p → 0 < takes (looked stopped p s) r x (get_or left x 0) → 0 < allowed p marks s x
  unfolding gathered
  takes_found {r} {rs} {left} {found} g q x h n =
      let b = has_some (takes (looked stopped p s) r x (get_or left x 0)) (λ z. omega arith) in
      let e = rw q at (g.within x h) in
      let o : has (bit_or (get_or found x 0) (takes (looked stopped p s) r x (get_or left x 0))) b.0 ≡ true =
      has_or (get_or found x 0) (takes (looked stopped p s) r x (get_or left x 0)) b.0 ∙ rw b.1 (or-true (has (get_or found x 0) b.0)) in
      let f = ap (λ (z : ℕ). has z b.0) e ∙ gathered_keeps s p marks rs x _ _ b.0 o in
      let d = has_not_empty (allowed p marks s x) b.0 f in
      omega arith

  -- A rule that takes something and leads on: some event leads to a marked place.
  pub gathering_found : WellFormed p → {r : Rule} {rs : List Rule} {left rest found : List ℕ} →
      Gathering (r ∷ rs) left found → Went r (input_values p) left rest true → some_below (may_stand p marks s) (input_values p) ≡ true
  gathering_found k {r} {left = left} g w =
      let q = (and-eq-true_iff (some_below (λ x. ltb 0 (takes (looked stopped p s) r x (get_or left x 0))) (input_values p)) _).0 (sym w.says) in
      let a = some_from _ (input_values p) q.0 in
      allowed_any p k marks s ∙ some_has _ (input_values p) a.0 a.1 (lt-ltb 0 _ (takes_found g q.1 a.0 a.1 (ltb-true _ _ a.2)))

  -- After the last rule the found sets are the allowed ones.
  pub gathering_done : {found left : List ℕ} → Gathering [] left found → (x : ℕ) → get_or found x 0 ≡ allowed p marks s x
  unfolding gathered allowed
  gathering_done {found} {left} g x = go (ltb x (input_values p)) refl
    where
      go : (t : Bool) → ltb x (input_values p) ≡ t → get_or found x 0 ≡ allowed p marks s x
      go true e = sym (g.within x (ltb-true _ _ e))
      go false e = g.past x (ltb-false _ _ e) ∙ sym (rw e (gathered_empty s p marks p.rules x 0))

  -- Nothing was found: no event leads to a marked place.
  pub gathering_nothing : WellFormed p → {left : List ℕ} → Gathering [] left (replicate 16 0) → some_below (may_stand p marks s) (input_values p) ≡ false
  gathering_nothing k g =
      allowed_any p k marks s
      ∙ some_fails _ (input_values p) (λ x h. ap (ltb 0) (sym (gathering_done g x) ∙ zeros 16 x))

-- Where the rules lead, whatever is marked.
module _ (s : Place) (p : Policy) where
  -- The rule r leads to the state with the number `to`, or nowhere; then the number is 0.
  pub record Led (r : Rule) (some : Bool) (to : ℕ) : Type 0 where
    pub mark : (marks : List ℕ) → leads s p marks r ≡ (some && is_marked marks to)
    pub below : some ≡ true → to < states p
    pub nowhere : some ≡ false → to ≡ 0

  -- One answer alone meets it.
  pub led_one : {r : Rule} {a b : Bool} {m n : ℕ} → Led r a m → Led r b n → (a ≡ b) × (m ≡ n)
  led_one {a = a} {b = b} w v = marked_one a b (λ marks. sym (w.mark marks) ∙ v.mark marks) w.nowhere v.nowhere

  -- Where the rule r leads, if its bounds hold; if they do not, nowhere.
  pub record Held (r : Rule) (some : Bool) (to : ℕ) : Type 0 where
    pub mark : (marks : List ℕ) → (holds (looked stopped p s) r && leads s p marks r) ≡ (some && is_marked marks to)
    pub below : some ≡ true → to < states p
    pub nowhere : some ≡ false → to ≡ 0

  -- One answer alone meets it.
  pub held_one : {r : Rule} {a b : Bool} {m n : ℕ} → Held r a m → Held r b n → (a ≡ b) × (m ≡ n)
  held_one {a = a} {b = b} w v = marked_one a b (λ marks. sym (w.mark marks) ∙ v.mark marks) w.nowhere v.nowhere

  -- A rule whose bounds do not hold leads nowhere.
  pub held_not : {r : Rule} → holds (looked stopped p s) r ≡ false → Held r false 0
  held_not e = record { mark = λ marks. rw e; below = λ q. absurd (false≢true q); nowhere = λ q. refl }

  -- A rule whose bounds hold leads where `Led` says.
  pub held_led : {r : Rule} {some : Bool} {to : ℕ} → holds (looked stopped p s) r ≡ true → Led r some to → Held r some to
  held_led e w = record { mark = λ marks. rw e (w.mark marks); below = w.below; nowhere = w.nowhere }

  -- What the rule r takes of the first n sets, and where it leads if it takes something; where it leads nowhere, the number is 0.
  pub record RuleTurned (r : Rule) (n : ℕ) (left rest : List ℕ) (some : Bool) (to : ℕ) : Type 0 where
    pub went : (marks : List ℕ) → Went s p marks r n left rest (some && is_marked marks to)
    pub below : some ≡ true → to < states p
    pub nowhere : some ≡ false → to ≡ 0

  -- One answer alone meets it, and one later content of the sets.
  pub turned_one : {r : Rule} {n : ℕ} {left rest also : List ℕ} {a b : Bool} {m k : ℕ} →
      RuleTurned r n left rest a m → RuleTurned r n left also b k → (rest ≡ also) × (a ≡ b) × (m ≡ k)
  turned_one {a = a} {b = b} w v =
      let e = marked_one a b (λ marks. (w.went marks).says ∙ sym (v.went marks).says) w.nowhere v.nowhere in
      (changed_one (w.went []).changed (v.went []).changed, e.0, e.1)

  -- `RuleTurned` holds for an equal number of sets too.
  pub turned_as : {r : Rule} {n m : ℕ} {left rest : List ℕ} {some : Bool} {to : ℕ} → n ≡ m → RuleTurned r n left rest some to → RuleTurned r m left rest some to
  turned_as {r} {left = left} {rest = rest} {some = some} {to = to} e w = subst (λ (k : ℕ). RuleTurned r k left rest some to) e w

  -- A rule that takes nothing leads nowhere.
  pub turned_not : {r : Rule} {n : ℕ} {left rest : List ℕ} → Took (looked stopped p s) r n left rest false → RuleTurned r n left rest false 0
  turned_not k = record { went = λ marks. went_not s p marks k; below = λ q. absurd (false≢true q); nowhere = λ q. refl }

  -- A rule that takes something leads where `Led` says.
  pub turned_took : {r : Rule} {n : ℕ} {left rest : List ℕ} {some : Bool} {to : ℕ} → Took (looked stopped p s) r n left rest true → Led r some to → RuleTurned r n left rest some to
  turned_took k w = record { went = λ marks. record { changed = k.changed; says = rw (← k.says, w.mark marks) }; below = w.below; nowhere = w.nowhere }

  -- What is known with the rules rs still to come, if the states of the kind F are found: no rule passed leads to another.
  pub record Passing (F : ℕ → Type 0) (rs : List Rule) (left : List ℕ) : Type 0 where
    pub gathering : (marks : List ℕ) → ((t : ℕ) → F t → is_marked marks t ≡ false) → Gathering s p marks rs left (replicate 16 0)

  -- Before the first rule.
  pub passing_start : WellFormed p → (F : ℕ → Type 0) (rs : List Rule) → rs ≡ own s.location p.rules → (left : List ℕ) →
      Changed (λ x. all_below (output_values p)) (input_values p) (replicate 16 0) left → Passing F rs left
  passing_start k F rs e left c = record { gathering = λ marks h. gathering_start s p marks k rs e left c }

  module _ {F : ℕ → Type 0} {r : Rule} {rs : List Rule} {left rest : List ℕ} {some : Bool} {to : ℕ} (g : Passing F (r ∷ rs) left)
      (w : RuleTurned r (input_values p) left rest some to) where
    -- One rule more: what it leads to is found now.
    pub passing_more : (E : ℕ → Type 0) → ((t : ℕ) → F t → E t) → (some ≡ true → E to) → Passing E rs rest
    passing_more E keeps found = record { gathering = λ marks h. gathering_on s p marks (g.gathering marks (λ t f. h t (keeps t f))) (on marks h some refl (w.went marks)) }
      where
        on : (marks : List ℕ) → ((t : ℕ) → E t → is_marked marks t ≡ false) → (b : Bool) → some ≡ b → Went s p marks r (input_values p) left rest (b && is_marked marks to) → Went s p marks r (input_values p) left rest false
        on marks h true e v = rw (h to (found e)) at v
        on marks h false e v = v

    -- It leads to a marked state, and no state found before is marked: some event leads to a marked place.
    pub passing_found : WellFormed p → some ≡ true → (marks : List ℕ) → ((t : ℕ) → F t → is_marked marks t ≡ false) → is_marked marks to ≡ true →
        some_below (may_stand p marks s) (input_values p) ≡ true
    passing_found k e marks h m = gathering_found s p marks k (g.gathering marks h) (rw (e, m) at (w.went marks))

  -- With nothing left the rules still to come are as if passed.
  pub passing_empty : {F : ℕ → Type 0} {rs : List Rule} {left : List ℕ} → Passing F rs left → ((x : ℕ) → x < input_values p → get_or left x 0 ≡ 0) → Passing F [] left
  passing_empty g z = record { gathering = λ marks h. gathering_empty s p marks (g.gathering marks h) z }

  -- After the last rule: where no found state is marked, no event leads to a marked place.
  pub passing_done : WellFormed p → {F : ℕ → Type 0} {left : List ℕ} → Passing F [] left → (marks : List ℕ) →
      ((t : ℕ) → F t → is_marked marks t ≡ false) → some_below (may_stand p marks s) (input_values p) ≡ false
  passing_done k g marks h = gathering_nothing s p marks k (g.gathering marks h)
