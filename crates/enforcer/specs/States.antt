-- What the refusals up to 10 and 16 make sure of: the file's layout, a mark for each state, and a state in range; and that the first of them is the answer.
-- In order: a state in range and its place; the same by the layout; the refusals as the facts that they test; what is known past the refusals up to
-- 10, and past 16; the halves by that.
use Rattle.std.specs.Prelude.{◌≡◌, refl, Bool, true, false, ◌&&◌, List, [], ◌∷◌, ◌++◌, ◌↔◌, ℕ, zero, suc, ◌+◌, ◌-◌, ◌≤◌, ◌<◌, leb, ltb, eqb, length, get_or, take, replicate}
use Rattle.std.proofs.Common.{sym, ap, ap₂, ◌∙◌, zero-le, arith, length-append}
use Rattle.std.proofs.Math.Bool.{and-eq-true_iff}
use Rattle.std.proofs.lemmas.Bool.{false≢true}
use Rattle.std.proofs.Math.Option.{Option}
use Rattle.std.proofs.Math.Dec.{leb-suc-zero, eqb-zero-suc}
use Rattle.std.proofs.lemmas.List.{length-replicate, get_or-replicate}
use borrow.Author.Tests.{leb-true, ltb-true, le-leb, lt-ltb, eqb-true}
use Rattle.streams.specs.Answer.{refused, gives, ◌or_else◌, unless, answer}
use Rattle.streams.specs.AnswerLaws.{none_refused, none_unless, given_only}
use Rattle.refusals.specs.Refused as Refused
use Rattle.refusals.specs.Laws.{number_above}
use Rattle.refusals.specs.declared.Refusal.{Refusal}
use Rattle.policy.specs.Rules.{Policy, Place}
use Rattle.policy.specs.Number.{states, number_of}
use Rattle.policy.specs.File.{ceilings_of, policy_of}
use Rattle.policy.specs.Check.{refusal_under, all_pass}
use Rattle.policy.specs.Sound.{Inside}
use Rattle.policy.specs.Numbered.{number_of_below}
use Rattle.policy.specs.Layout.{checked_under, layout_of}
use Rattle.policy.specs.LayoutLaws.{under_says, under_passed}
use Rattle.policy.specs.declared.Layout.{Layout}
use Rattle.policy.specs.Layout.{Checked}
use Rattle.stepping.specs.State.{place_in, place, state_of, clocks_good, in_range, state_good, is_marked}
use Rattle.enforcer.specs.Entries.{chosen, marks_refusal, layout_for, state_refusal, input_refusal, input_of, input_past, output_from, output_refusal, output_of, output_past}
use Rattle.stepping.specs.Ready.{Laid, Standing}
use Rattle.stepping.specs.Laid.{Numbered, state_number, laid_of, laid_well, laid_locations, laid_most, laid_place, laid_number}
use Rattle.stepping.specs.declared.state.State.{State}

-- What is refused is the refusal.
pub refused_only : {A : Type 0} (n : ℕ) (a : A) {m : ℕ} → answer n a ≡ refused m → n ≡ m
refused_only zero a e = let z : ◌≡◌ {A = ℕ} 0 1 = cc in absurd (omega arith)
refused_only (suc n) a e = cc

-- Of refusals in their order the answer is the first that is given.
pub chosen_first : {A : Type 0} (a b : ℕ) (o : Option A) {r : ℕ} → r ≡ a → (r ≡ 0 → ⊥) → chosen (a or_else b) o ≡ refused r
chosen_first zero b o e h = absurd (h e)
chosen_first (suc a) b o e h = ap refused (sym e)

below_cons : {c v : ℕ} (cs vs : List ℕ) → v ≤ c → ((i : ℕ) → get_or vs i 0 ≤ get_or cs i 0) → (i : ℕ) → get_or (v ∷ vs) i 0 ≤ get_or (c ∷ cs) i 0
below_cons cs vs h f zero = h
below_cons cs vs h f (suc i) = f i

clocks_inside :
    (cs vs : List ℕ) → clocks_good cs vs ≡ true →
    (length (take (length cs) vs) ≡ length cs) × ((i : ℕ) → get_or (take (length cs) vs) i 0 ≤ get_or cs i 0)
unfolding clocks_good
clocks_inside [] vs e = (refl, λ i. zero-le)
clocks_inside (c ∷ cs) [] e = absurd (false≢true e)
clocks_inside (c ∷ cs) (v ∷ vs) e =
    let k = (and-eq-true_iff (leb v c) _).0 e in
    let r = clocks_inside cs vs k.1 in
    (ap suc r.0, below_cons cs (take (length cs) vs) (leb-true _ _ k.0) r.1)

-- A state that is not out of range is a place of the policy.
pub good_inside : (p : Policy) (s : State) → state_good p s ≡ true → Inside p (place_in p s)
unfolding state_good
good_inside p s e =
    let k = (and-eq-true_iff (ltb s.location p.locations) _).0 e in
    let c = clocks_inside p.ceilings s.clocks k.1 in
    record { location = ltb-true _ _ k.0; clocks = c.0; stopped = c.1 }

only_zeros : (vs : List ℕ) (n : ℕ) → length vs ≡ n → all_pass (eqb 0) vs ≡ true → replicate n 0 ≡ vs
unfolding all_pass
only_zeros [] zero l e = refl
only_zeros [] (suc n) l e = absurd (omega arith)
only_zeros (v ∷ vs) zero l e = absurd (omega arith)
only_zeros (v ∷ vs) (suc n) l e =
    let k = (and-eq-true_iff (eqb 0 v) _).0 e in ap₂ {C = List ℕ} ◌∷◌ (eqb-true 0 v k.0) (only_zeros vs n (omega arith) k.1)

-- Values in range are those of the clocks, and zeros after them.
pub clocks_back : (cs vs : List ℕ) (n : ℕ) → length vs ≡ length cs + n → clocks_good cs vs ≡ true → take (length cs) vs ++ replicate n 0 ≡ vs
unfolding clocks_good
clocks_back [] vs n l e = only_zeros vs n (omega arith) e
clocks_back (c ∷ cs) [] n l e = absurd (false≢true e)
clocks_back (c ∷ cs) (v ∷ vs) n l e = ap (◌∷◌ v) (clocks_back cs vs n (omega arith) ((and-eq-true_iff (leb v c) _).0 e).1)

all_zeros : (n : ℕ) → all_pass (eqb 0) (replicate n 0) ≡ true
unfolding all_pass
all_zeros zero = refl
all_zeros (suc n) = all_zeros n

-- Clock values within their ceilings, and zeros after them, are in range.
clocks-good :
    (cs vs : List ℕ) (n : ℕ) → length vs ≡ length cs → ((i : ℕ) → get_or vs i 0 ≤ get_or cs i 0) → clocks_good cs (vs ++ replicate n 0) ≡ true
unfolding clocks_good
clocks-good [] [] n e h = all_zeros n
clocks-good [] (v ∷ vs) n e h = absurd (omega arith)
clocks-good (c ∷ cs) [] n e h = absurd (omega arith)
clocks-good (c ∷ cs) (v ∷ vs) n e h =
    (and-eq-true_iff (leb v c) _).1 (le-leb v c (h 0), clocks-good cs vs n (omega arith) (λ i. h (suc i)))

-- A place of the policy is a state that is not out of range.
pub inside_good : (p : Policy) (t : Place) → Inside p t → state_good p (state_of t) ≡ true
unfolding state_good
inside_good p t i =
    (and-eq-true_iff (ltb t.location p.locations) _).1
    (lt-ltb _ _ i.location, clocks-good p.ceilings t.clocks (4 - length t.clocks) i.clocks i.stopped)

-- A value is 0 exactly if it is at most the ceiling 0.
at_zero : (v : ℕ) → leb v 0 ≡ eqb 0 v
at_zero zero = refl
at_zero (suc v) = leb-suc-zero v ∙ sym (eqb-zero-suc v)

padded_good : (cs vs : List ℕ) (n : ℕ) → length vs ≡ length cs + n → clocks_good (cs ++ replicate n 0) vs ≡ clocks_good cs vs
unfolding clocks_good all_pass
padded_good [] [] zero e = refl
padded_good [] [] (suc n) e = absurd (omega arith)
padded_good [] (v ∷ vs) zero e = absurd (omega arith)
padded_good [] (v ∷ vs) (suc n) e = ap₂ ◌&&◌ (at_zero v) (padded_good [] vs n (omega arith))
padded_good (c ∷ cs) [] n e = refl
padded_good (c ∷ cs) (v ∷ vs) n e = ap (◌&&◌ (leb v c)) (padded_good cs vs n (omega arith))

-- The layout decides the same: in it an unused clock has the ceiling 0.
pub laid_good : {f : List ℕ} {l : Layout} → Laid f l → (s : State) → length s.clocks ≡ 4 →
    state_good (policy_of l.reading f) s ≡ (ltb s.location l.locations && clocks_good l.ceilings s.clocks)
unfolding state_good policy_of
laid_good {f} k s e =
    rw (k.locations, k.ceilings, padded_good (ceilings_of f) s.clocks (4 - length (ceilings_of f)) (omega (arith, (laid_well k).clocks)))

-- Clock values in range are in range under greater ceilings.
good_more : (cs ds vs : List ℕ) → length cs ≡ length ds → ((i : ℕ) → i < length cs → get_or cs i 0 ≤ get_or ds i 0) → clocks_good cs vs ≡ true →
    clocks_good ds vs ≡ true
unfolding clocks_good
good_more [] [] vs l h e = e
good_more [] (d ∷ ds) vs l h e = absurd (omega arith)
good_more (c ∷ cs) [] vs l h e = absurd (omega arith)
good_more (c ∷ cs) (d ∷ ds) [] l h e = absurd (false≢true e)
good_more (c ∷ cs) (d ∷ ds) (v ∷ vs) l h e =
    let k = (and-eq-true_iff (leb v c) _).0 e in
    let a = leb-true v c k.0 in
    let b : c ≤ d = h 0 (omega arith) in
    (and-eq-true_iff (leb v d) _).1 (le-leb v d (omega arith), good_more cs ds vs (omega arith) (λ i g. h (suc i) (omega arith)) k.1)

ceilings_four : {f : List ℕ} {l : Layout} → Laid f l → length l.ceilings ≡ 4
unfolding policy_of
ceilings_four {f} k = rw k.ceilings (simp (length-append, length-replicate) (omega (arith, (laid_well k).clocks)))

-- "Locations: 1 to 64", "a two-byte ceiling each, 1 to 1,001": a state that is not within these limits is in range in no policy.
pub own_limits : {f : List ℕ} {l : Layout} → Laid f l → (s : State) → length s.clocks ≡ 4 →
    in_range 64 (replicate 4 1001) s ≡ false → state_good (policy_of l.reading f) s ≡ false
own_limits {f} {l} k s vs out = go (state_good (policy_of l.reading f) s) refl
  where
    go : (t : Bool) → state_good (policy_of l.reading f) s ≡ t → t ≡ false
    go false e = refl
    go true e =
        let g = (and-eq-true_iff (ltb s.location l.locations) _).0 (sym (laid_good k s vs) ∙ e) in
        let a = ltb-true s.location l.locations g.0 in
        let b = laid_locations k in
        let c = good_more l.ceilings (replicate 4 1001) s.clocks (ceilings_four k) (λ i h. rw (get_or-replicate {A = ℕ} 4 i 1001 0 (omega (arith, ceilings_four k))) (laid_most k i)) g.1 in
        absurd (false≢true (sym out ∙ (and-eq-true_iff (ltb s.location 64) _).1 (lt-ltb s.location 64 (omega arith), c)))

-- A state that is not out of range has a number, by the layout, and its mark is the mark of the place.
pub good_numbered : {f : List ℕ} {l : Layout} → Laid f l → (marks : List ℕ) (s : State) → state_good (policy_of l.reading f) s ≡ true →
    Numbered l.reading f marks (state_number l s) (is_marked marks (number_of (policy_of l.reading f) (place_in (policy_of l.reading f) s)))
good_numbered {f} {l} k marks s g =
    let n = laid_number k s ∙ ap (number_of (policy_of l.reading f)) (laid_place k s) in
    record { number = rw n (number_of_below (policy_of l.reading f) (good_inside (policy_of l.reading f) s g)); mark = ap (is_marked marks) n }

-- No refusal up to 10, and no 16, as the facts that they test.
module _ (reading : ℕ) (file marks : List ℕ) where
  -- Neither 22 nor 1 to 10 is given exactly if the file passes under the reading and there is a mark for each state.
  pub marks_granted : (marks_refusal reading file marks ≡ 0) ↔ ((refusal_under reading file ≡ 0) × (states (policy_of reading file) ≤ length marks))
  unfolding marks_refusal
  marks_granted = (
    λ e. let k = (none_refused (refusal_under reading file) _).0 e in (k.0, leb-true _ _ ((none_unless _ 9).0 k.1)),
    λ k. (none_refused (refusal_under reading file) _).1 (k.0, (none_unless _ 9).1 (le-leb _ _ k.1)),
  )

  -- 16 is not given exactly if the state is in range and its mark is 1.
  pub state_granted :
      (s : State)
      → (state_refusal reading file marks s ≡ 0)
      ↔ ((state_good (policy_of reading file) s ≡ true) × (is_marked marks (number_of (policy_of reading file) (place_in (policy_of reading file) s)) ≡ true))
  unfolding state_refusal
  state_granted s = (
    λ e. let k = (none_refused (unless (state_good (policy_of reading file) s) 16) _).0 e in ((none_unless _ 15).0 k.0, (none_unless _ 15).0 k.1),
    λ k. (none_refused (unless (state_good (policy_of reading file) s) 16) _).1 ((none_unless _ 15).1 k.0, (none_unless _ 15).1 k.1),
  )

-- The code finds the refusals up to 10 by what the check answers.
pub marks_by : (reading : ℕ) (file marks : List ℕ) {r : Checked} → r ≡ checked_under reading file →
    (r.refusal or_else unless (leb r.layout.states (length marks)) 10) ≡ marks_refusal reading file marks
unfolding marks_refusal
marks_by reading file marks {r} e = go (refusal_under reading file) refl (ap (λ (c : Checked). c.refusal) e ∙ (under_says reading file).0)
  where
    go : (n : ℕ) → refusal_under reading file ≡ n → r.refusal ≡ n →
        (r.refusal or_else unless (leb r.layout.states (length marks)) 10) ≡ (n or_else unless (leb (states (policy_of reading file)) (length marks)) 10)
    go zero z q = let l = laid_of reading file r e q in rw (q, l.0.states, l.1)
    go (suc n) z q = rw q

-- Past the refusals up to 10 what the check answers has the layout under the reading that was named, and there is a mark for each state.
pub record Granted (reading : ℕ) (file marks : List ℕ) (l : Layout) : Type 0 where
  pub laid : Laid file l
  pub named : l.reading ≡ reading
  pub enough : states (policy_of l.reading file) ≤ length marks

-- Where nothing up to 10 is refused, the check has given such a layout.
pub granted_laid : {reading : ℕ} {file : List ℕ} (marks : List ℕ) {r : Checked} → r ≡ checked_under reading file → marks_refusal reading file marks ≡ 0 →
    Granted reading file marks r.layout
granted_laid {reading} {file} marks {r} e z =
    let k = (marks_granted reading file marks).0 z in
    let l = laid_of reading file r e (ap (λ (c : Checked). c.refusal) e ∙ (under_says reading file).0 ∙ k.0) in
    record { laid = l.0; named = l.1; enough = rw l.1 k.1 }

-- Past 16 the state is in range too.
pub granted_standing : {file marks : List ℕ} {l : Layout} {s : State} → Laid file l → states (policy_of l.reading file) ≤ length marks →
    state_refusal l.reading file marks s ≡ 0 → Standing file l marks s
granted_standing {file} {marks} {l = l} {s = s} k e z =
    record {
      laid = k;
      enough = e;
      inside = rw (laid_place k s) (good_inside (policy_of l.reading file) s ((state_granted l.reading file marks s).0 z).0);
    }

-- A half by what it finds past the refusals up to 10: first 16.
module _ (reading : ℕ) (file marks : List ℕ) {r : Checked} (e : r ≡ checked_under reading file) (none : marks_refusal reading file marks ≡ 0)
    (s : State) {n : ℕ} (q : n ≡ state_refusal r.layout.reading file marks s) where
  granted : Granted reading file marks r.layout
  granted = granted_laid marks e none

  -- A state that is refused: the input half answers with that number.
  pub input_16 : (x : ℕ) → (n ≡ 0 → ⊥) → input_of reading file marks s x ≡ refused n
  unfolding input_of input_refusal
  input_16 x h = rw (none, ← granted.named) (chosen_first _ _ _ q h)

  -- A state that is refused: the output half answers with that number, and hands the state back.
  pub output_16 : (x y : ℕ) → (n ≡ 0 → ⊥) → output_of reading file marks s x y ≡ record { answer = refused n; state = s }
  unfolding output_of output_refusal
  output_16 x y h = rw (none, ← granted.named) (ap (output_from s) (chosen_first _ _ _ q h))

module _ (reading : ℕ) (file marks : List ℕ) where
  -- Where the code has no layout, its refusal is the one up to 10.
  module _ (r : Refusal) (e : refused (Refused.number_of r) ≡ layout_for reading file marks) where
    -- It is the refusal up to 10.
    pub layout_refused : marks_refusal reading file marks ≡ Refused.number_of r
    unfolding layout_for
    layout_refused = refused_only _ _ (sym e)

    -- The input half answers with it.
    pub input_early : (s : State) (x : ℕ) → input_of reading file marks s x ≡ refused (Refused.number_of r)
    unfolding input_of input_refusal
    input_early s x = chosen_first _ _ _ (sym layout_refused) (λ z. omega (arith, number_above r))

    -- The output half answers with it, and hands the state back.
    pub output_early : (s : State) (x y : ℕ) → output_of reading file marks s x y ≡ record { answer = refused (Refused.number_of r); state = s }
    unfolding output_of output_refusal
    output_early s x y = ap (output_from s) (chosen_first _ _ _ (sym layout_refused) (λ z. omega (arith, number_above r)))

  -- Where it has one, nothing up to 10 is refused, and the layout is the one that the check gives.
  module _ {l : Layout} (e : gives l ≡ layout_for reading file marks) where
    given : (marks_refusal reading file marks ≡ 0) × (layout_of reading file ≡ l)
    unfolding layout_for
    given = given_only _ _ _ (sym e)

    -- Nothing up to 10 is refused.
    pub layout_none : marks_refusal reading file marks ≡ 0
    layout_none = given.0

    -- The layout is the file's.
    pub layout_is : layout_of reading file ≡ l
    layout_is = given.1

    -- The layout is the one that the check gives.
    pub layout_checked : record { refusal = 0; layout = l } ≡ checked_under reading file
    layout_checked =
        sym (under_passed reading file ((marks_granted reading file marks).0 given.0).0 ∙ ap (λ (k : Layout). record { refusal = 0; layout = k }) given.1)

    -- It is that of the file, and there is a mark for each state.
    pub layout_granted : Granted reading file marks l
    layout_granted = granted_laid marks layout_checked given.0

    -- A half by what it finds past the refusals up to 10: first 16, and past that only 15 and 17 are left.
    module _ (s : State) where
      -- A state that is refused.
      module _ (r : Refusal) (q : Refused.number_of r ≡ state_refusal l.reading file marks s) where
        -- The input half answers with that refusal.
        pub input_by_16 : (x : ℕ) → input_of reading file marks s x ≡ refused (Refused.number_of r)
        input_by_16 x = input_16 reading file marks layout_checked layout_none s q x (λ z. omega (arith, number_above r))

        -- The output half answers with that refusal, and hands the state back.
        pub output_by_16 : (x y : ℕ) → output_of reading file marks s x y ≡ record { answer = refused (Refused.number_of r); state = s }
        output_by_16 x y = output_16 reading file marks layout_checked layout_none s q x y (λ z. omega (arith, number_above r))

      module _ (z : 0 ≡ state_refusal l.reading file marks s) where
        -- A state that is not refused is in range, and there is a mark for each state.
        pub half_standing : Standing file l marks s
        half_standing = granted_standing layout_granted.laid layout_granted.enough (sym z)

        -- Past 16 the input half has 15, 17 and its choice left.
        pub input_left : (x : ℕ) → input_of reading file marks s x ≡ input_past l.reading file marks (place l.clocks s) x
        unfolding input_of input_refusal
        input_left x = rw (layout_none, ← layout_granted.named, ← z, laid_place layout_granted.laid s)

        -- Past 16 the output half has 15, 17 and its choice left.
        pub output_left : (x y : ℕ) → output_of reading file marks s x y ≡ output_past l.reading file marks s (place l.clocks s) x y
        unfolding output_of output_refusal
        output_left x y = rw (layout_none, ← layout_granted.named, ← z, laid_place layout_granted.laid s)
