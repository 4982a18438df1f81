-- A bay's part of the list, and the list with another state in it.
-- In order: which bays a list has; the list with another state for one bay; two lists compared bay by bay; the list with every bay at the start.
use Rattle.std.specs.Prelude.{◌≡◌, refl, Bool, true, false, cond, ◌&&◌, List, ◌++◌, ℕ, zero, suc, ◌+◌, ◌-◌, ◌*◌, ◌/◌, ◌%◌, ◌≤◌, ◌<◌, leb, ltb, eqb, length, get_or, take, drop}
use Rattle.std.proofs.Common.{sym, ap, ap₂, ◌∙◌, append_assoc, arith, length-append, length-drop, take-append-drop, length-take-le, take_at, drop_at, drop-drop, get_or-take, get_or-drop, ext_get_or, ltb-true, ltb-false, leb-true, eqb-true}
use Rattle.std.proofs.Math.Bool.{and-eq-true_iff}
use Rattle.std.proofs.lemmas.List.{take-append-le, drop-append-le}
use Rattle.std.proofs.Math.Seq.{drop-append-add}
use Rattle.stepping.specs.Code.{start_state}
use Rattle.stepping.specs.Five.{state_words, words_back, words_in}
use Rattle.bays.specs.Bays.{bays_in, numbers_of, bay_state, with_state}
use Rattle.bays.specs.Entries.{started}
use Rattle.stepping.specs.declared.state.State.{State}

-- A bay below the count has its five numbers, and the list is five for each bay.
pub fits : (n bay : ℕ) → bay < bays_in n → (bay * 5 + 5 ≤ n) × (n ≤ 40) × (n % 5 ≡ 0)
unfolding bays_in
fits n bay = go (eqb (n % 5) 0 && leb n 40) refl
  where
    go : (t : Bool) → (eqb (n % 5) 0 && leb n 40) ≡ t → bay < cond t (n / 5) 0 → (bay * 5 + 5 ≤ n) × (n ≤ 40) × (n % 5 ≡ 0)
    go true e h =
        let k = (and-eq-true_iff (eqb (n % 5) 0) (leb n 40)).0 e in
        let z = eqb-true (n % 5) 0 k.0 in
        let l = leb-true n 40 k.1 in
        (omega arith, l, z)
    go false e h = absurd (omega arith)

-- Of a list with bays, five numbers that are there are a bay's.
pub is_bay : (n bay some : ℕ) → some < bays_in n → bay * 5 + 5 ≤ n → bay < bays_in n
unfolding bays_in
is_bay n bay some = go (eqb (n % 5) 0 && leb n 40)
  where
    go : (t : Bool) → some < cond t (n / 5) 0 → bay * 5 + 5 ≤ n → bay < cond t (n / 5) 0
    go true h l = omega arith
    go false h l = absurd (omega arith)

-- A bay that is there has five numbers.
pub numbers_five : (states : List ℕ) (bay : ℕ) → bay * 5 + 5 ≤ length states → length (numbers_of states bay) ≡ 5
numbers_five states bay h = length-take-le 5 (drop (bay * 5) states) (simp length-drop (omega arith))

-- The list with the state that the bay has is the list.
pub with_same : (states : List ℕ) (bay : ℕ) → bay * 5 + 5 ≤ length states → with_state states bay (bay_state states bay) ≡ states
with_same states bay h =
    ap₂ (λ (ws rest : List ℕ). take (bay * 5) states ++ (ws ++ rest)) (words_back (numbers_of states bay) (numbers_five states bay h))
    (sym (drop-drop 5 (bay * 5) states))
    ∙ ap (λ (l : List ℕ). take (bay * 5) states ++ l) (take-append-drop 5 (drop (bay * 5) states))
    ∙ take-append-drop (bay * 5) states

-- A bay's numbers are found in the front part of a list that holds them.
front : (w r : List ℕ) (bay : ℕ) → bay * 5 + 5 ≤ length w → numbers_of (w ++ r) bay ≡ numbers_of w bay
front w r bay h =
    ap (take 5) (drop-append-le (bay * 5) w r (omega arith)) ∙ take-append-le 5 (drop (bay * 5) w) r (simp length-drop (omega arith))

module _ (states : List ℕ) (bay : ℕ) (there : bay * 5 + 5 ≤ length states) (s : State) (four : length s.clocks ≡ 4) where
  begins : length (take (bay * 5) states) ≡ bay * 5
  begins = length-take-le (bay * 5) states (omega arith)

  -- With another state for the bay the list is as long as it was.
  pub with_length : length (with_state states bay s) ≡ length states
  with_length = let b = begins in simp (length-append, length-drop) (omega arith)

  -- The bay has the numbers of that state.
  pub with_own : numbers_of (with_state states bay s) bay ≡ state_words s
  with_own =
      ap (take 5) (drop_at (take (bay * 5) states) (state_words s ++ drop (bay * 5 + 5) states) (bay * 5) begins)
      ∙ take_at (state_words s) (drop (bay * 5 + 5) states) 5 (omega arith)

  -- The bay's state, read from the list, is that one.
  pub with-state : bay_state (with_state states bay s) bay ≡ s
  with-state = rw with_own (words_in s four)

  -- Every other bay has the numbers that it had.
  pub with_other : (other : ℕ) → ¬ (other ≡ bay) → numbers_of (with_state states bay s) other ≡ numbers_of states other
  with_other other apart = go (ltb other bay) refl
    where
      w : List ℕ
      w = take (bay * 5) states

      after : bay < other → drop (other * 5) (with_state states bay s) ≡ drop (other * 5) states
      after h =
          let k : ℕ = other * 5 - (bay * 5 + 5) in
          let l : length (w ++ state_words s) ≡ bay * 5 + 5 = let b = begins in simp length-append (omega arith) in
          let here : other * 5 ≡ length (w ++ state_words s) + k = omega arith in
          let there : other * 5 ≡ bay * 5 + 5 + k = omega arith in
          ap (λ (n : ℕ). drop n (with_state states bay s)) here
          ∙ ap (drop (length (w ++ state_words s) + k)) (sym (append_assoc w (state_words s) (drop (bay * 5 + 5) states)))
          ∙ drop-append-add (w ++ state_words s) (drop (bay * 5 + 5) states) k
          ∙ drop-drop k (bay * 5 + 5) states
          ∙ ap (λ (n : ℕ). drop n states) (sym there)

      go : (t : Bool) → ltb other bay ≡ t → numbers_of (with_state states bay s) other ≡ numbers_of states other
      go true e =
          let h = ltb-true other bay e in
          let b = begins in
          let l : other * 5 + 5 ≤ length w = omega arith in
          front w (state_words s ++ drop (bay * 5 + 5) states) other l ∙ sym (front w (drop (bay * 5) states) other l)
          ∙ ap (λ (z : List ℕ). numbers_of z other) (take-append-drop (bay * 5) states)
      go false e =
          let h = ltb-false other bay e in
          ap (take 5) (after (lt_of other bay h apart))
        where
          lt_of : (a b : ℕ) → b ≤ a → ¬ (a ≡ b) → b < a
          lt_of a b h n = not_less (ltb b a) refl
            where
              not_less : (t : Bool) → ltb b a ≡ t → b < a
              not_less true e = ltb-true b a e
              not_less false e = let k = ltb-false b a e in absurd (n (omega arith))

-- Two lists of five for each bay that have the same numbers for each bay are the same.
at : (a : List ℕ) (i : ℕ) → get_or a i 0 ≡ get_or (numbers_of a (i / 5)) (i % 5) 0
at a i =
    let e : i ≡ i / 5 * 5 + i % 5 = omega arith in
    ap (λ (n : ℕ). get_or a n 0) e
    ∙ sym (get_or-take 5 (drop (i / 5 * 5) a) (i % 5) 0 (omega arith) ∙ get_or-drop (i / 5 * 5) a (i % 5) 0)

-- Two lists of five numbers a bay are the same if each bay has the same numbers in both.
pub same_list :
    (a b : List ℕ) → length a ≡ length b → length a % 5 ≡ 0 → ((bay : ℕ) → bay * 5 + 5 ≤ length a → numbers_of a bay ≡ numbers_of b bay) → a ≡ b
same_list a b l m f =
    ext_get_or 0 a b l (λ i h. at a i ∙ ap (λ (z : List ℕ). get_or z (i % 5) 0) (f (i / 5) (omega arith)) ∙ sym (at b i))

-- A list with every bay at the start: five numbers a bay, and each bay has the start's.
pub started_length : (n : ℕ) → length (started n) ≡ n * 5
unfolding started
started_length zero = refl
started_length (suc n) = length-append (started n) (state_words start_state) ∙ omega (arith, started_length n)

-- Each bay of a list at the start has the numbers of the start.
pub started_bay : (n bay : ℕ) → bay < n → numbers_of (started n) bay ≡ state_words start_state
unfolding started
started_bay zero bay h = absurd (omega arith)
started_bay (suc n) bay h = go (started_bay n bay) (ltb bay n) refl
  where
    go : (bay < n → numbers_of (started n) bay ≡ state_words start_state) → (t : Bool) → ltb bay n ≡ t →
        numbers_of (started n ++ state_words start_state) bay ≡ state_words start_state
    go f true e =
        let l = ltb-true bay n e in
        front (started n) (state_words start_state) bay (omega (arith, started_length n)) ∙ f l
    go f false e =
        let l = ltb-false bay n e in
        let here : bay ≡ n = omega arith in
        rw here (ap (take 5) (drop_at (started n) (state_words start_state) (n * 5) (started_length n)))

-- The numbers of a list that has bays are five for each of them.
pub five_each : (n : ℕ) → 0 < bays_in n → bays_in n * 5 ≡ n
unfolding bays_in
five_each n = go (eqb (n % 5) 0 && leb n 40) refl
  where
    go : (t : Bool) → (eqb (n % 5) 0 && leb n 40) ≡ t → 0 < cond t (n / 5) 0 → cond t (n / 5) 0 * 5 ≡ n
    go true e h =
        let k = (and-eq-true_iff (eqb (n % 5) 0) (leb n 40)).0 e in
        let z = eqb-true (n % 5) 0 k.0 in
        omega arith
    go false e h = absurd (omega arith)
