-- Demand 3 is shown: what specs/Demand3.antt states holds.
-- In order: what is known of a join that was made; joins of any number; files that permit the same are alike; the policy that permits all; the laws;
-- all of it (`demand_3`); why forwarding everything does not do.
use Rattle.std.specs.Prelude.{◌≡◌, refl, true, ◌&&◌, ◌⊎◌, drop, replicate}
use Rattle.std.proofs.Math.Path.{sym, ap, subst}
use Rattle.std.proofs.Common.{ap₂, ◌∙◌, inl, inr, ⊎_elim, take_at}
use mathlib.Core.List.Memᴰ
use mathlib.Core.List.{List, [], ◌∷◌, ◌++◌, map, Memᴰ}
use Prim.Native.Nat.{ℕ, ◌≤◌, ◌/◌, ◌%◌, ◌^◌}
use Rattle.std.proofs.Math.Dec.{ltb}
use Rattle.std.proofs.Math.ListN.{length, take}
use Rattle.streams.specs.Answer.{gives}
use Rattle.streams.specs.AnswerLaws.{given_only}
use Rattle.streams.specs.Stream.{Stream, Language, ◌alongside◌}
use Rattle.streams.specs.Enforced.{Enforced}
use Rattle.streams.specs.Corrections.{corrections}
use Rattle.streams.specs.Laws.{narrows_refl, narrows_trans, alongside_first, alongside_second, alongside_into, ≋-sym, ≋-trans, not_both, enforced_one}
use Rattle.streams.specs.Languages.{◌narrows◌, ◌≋◌}
use Rattle.policy.specs.Rules.{Policy, start, unlimited, Fits, Runs, Rests, Permits}
use Rattle.policy.specs.Rules as Rules
use Rattle.policy.specs.Number.{states}
use Rattle.policy.specs.File.{policy_of}
use Rattle.policy.specs.Check.{reading_refusal, refusal_under, refusal_of, all_pass}
use Rattle.policy.specs.CheckLaws.{under_none}
use Rattle.policy.specs.Checked.{checked_file}
use Rattle.enforcer.specs.Entries.{event_of, byte_of, event_good}
use Rattle.prepare.specs.Entry.{summary_of, prepare_of}
use Rattle.pairing.specs.Join.{join}
use Rattle.join.specs.Steps.{fits_same}
use Rattle.cleaning.specs.Signals.{within, fits_within, steps_within}
use Rattle.join.specs.FreeLaws.{free_read, free_permits, free_rests}
use Rattle.join.specs.Laws.{Equal, equal}
use Rattle.join.specs.Entry.{joined_file, join_refusal, join_of, joined_out}
use Rattle.join.specs.Written.{unrefused, joined_joins, joined_passes, joined_policy, joined_written, joined_both}
pub use Rattle.tender.specs.Demand2Shown.{comes_back}
use Rattle.tender.specs.Samples.{T}
use Rattle.tender.specs.Granted.{judged}
use Rattle.tender.specs.Demand3.{JoinMade, tags, JoinOf, alone, joined, SamePolicies, AllOf, SameAnswer, SameReleased, HopelessTogether, ReleaseTheSame, Alike, permits_all, PermitsAll, Demand3}
use Rattle.tender.specs.Demand2.{Run, Right, ReleasedFor}
use Rattle.tender.specs.Demand2Shown.{releases, hopeless_exactly, prepared_otherwise}
use Rattle.tender.specs.WorthlessRuns.{not_forwarding}
use Rattle.stepping.specs.declared.state.State.{State}
use Rattle.join.specs.Computing.{the_join}
use Rattle.prepare.specs.Computing.{the_file, the_check, the_bytes}

module _ {a b f : List ℕ} (j : JoinMade a b f) where
  only : (join_refusal a b j.slice ≡ 0) × (length (joined_file a b j.slice) ≡ j.size)
  unfolding join_of
  only = given_only (join_refusal a b j.slice) (length (joined_file a b j.slice)) j.size j.given

  -- Its file is the joined one, whatever the slice held before.
  pub joined_is : f ≡ joined_file a b []
  unfolding joined_file
  joined_is = j.written ∙ ap (λ (n : ℕ). take n (joined_out a b j.slice)) (sym only.1) ∙ joined_written a b j.slice only.0

  -- "Joins carry no reading of their own": the bytes read under any reading are the join of the parts read under it.
  pub joined_reads : (reading : ℕ) → policy_of reading f ≡ join (policy_of reading a) (policy_of reading b)
  unfolding joined_file
  joined_reads reading = ap (policy_of reading) joined_is ∙ joined_policy a b j.slice only.0 reading

-- What is known of a join that was made.
pub record Made (a b f : List ℕ) : Type 0 where
  pub first : refusal_of a ≡ 0
  pub second : refusal_of b ≡ 0
  pub passed : refusal_of f ≡ 0
  pub tags_first : tags f ≡ tags a
  pub tags_second : tags f ≡ tags b
  pub permits : (reading : ℕ) → Permits (policy_of reading f) ≋ Permits (policy_of reading a) alongside Permits (policy_of reading b)

-- All of that is known of every join that was made.
pub made : {a b f : List ℕ} → JoinMade a b f → Made a b f
unfolding joined_file join policy_of
made {a} {b} {f} j =
    let e = (only j).0 in
    let k = unrefused a b j.slice e in
    let i = joined_joins a b j.slice e 1 in
    let t : tags f ≡ tags a = ap (λ (z : Policy). (z.inputs, z.outputs)) (joined_reads j 1) in
    record {
      first = k.first;
      second = k.second;
      passed = ap refusal_of (joined_is j) ∙ joined_passes a b j.slice e;
      tags_first = t;
      tags_second = t ∙ ap₂ (λ (x y : List ℕ). (x, y)) i.inputs i.outputs;
      permits = λ reading. rw (joined_is j) (joined_both a b j.slice e reading);
    }

-- "demands 2 and 3 hold for each reading, used for all the policies named".
module _ (reading : ℕ) where
  -- "the join permits exactly the streams that all its parts permit", and "a joined stream rests only where all parts rest together".
  pub permits_exactly : {a b f : List ℕ} → JoinMade a b f → Permits (policy_of reading f) ≋ Permits (policy_of reading a) alongside Permits (policy_of reading b)
  permits_exactly j = (made j).permits reading

  -- The join permits no more than its first part, and rests nowhere else.
  pub to_first : {a b f : List ℕ} → JoinMade a b f → Permits (policy_of reading f) narrows Permits (policy_of reading a)
  to_first j = narrows_trans (permits_exactly j).0 (alongside_first _ _)

  -- The join permits no more than its second part, and rests nowhere else.
  pub to_second : {a b f : List ℕ} → JoinMade a b f → Permits (policy_of reading f) narrows Permits (policy_of reading b)
  to_second j = narrows_trans (permits_exactly j).0 (alongside_second _ _)

  into : {a b f : List ℕ} {L : Language} → JoinMade a b f →
      L narrows Permits (policy_of reading a) → L narrows Permits (policy_of reading b) → L narrows Permits (policy_of reading f)
  into j f g = narrows_trans (alongside_into f g) (permits_exactly j).1

  part_of : {parts : List (List ℕ)} {a : List ℕ} → Memᴰ a parts → AllOf reading parts narrows Permits (policy_of reading a)
  part_of {a} m = record { permits = λ w h. h a m; rests = λ w h. h a m }

  all_of : {L : Language} (parts : List (List ℕ)) → ((a : List ℕ) → Memᴰ a parts → L narrows Permits (policy_of reading a)) → L narrows AllOf reading parts
  all_of parts h = record { permits = λ w p a m. (h a m).permits w p; rests = λ w p a m. (h a m).rests w p }

  fewer : (these those : List (List ℕ)) → ((a : List ℕ) → Memᴰ a these → Memᴰ a those) → AllOf reading those narrows AllOf reading these
  fewer these those h = all_of these (λ a m. part_of (h a m))

  -- A join of any number permits exactly what all its parts permit, and rests where all rest.
  pub permits-all : {parts : List (List ℕ)} {f : List ℕ} → JoinOf parts f → Permits (policy_of reading f) ≋ AllOf reading parts
  permits-all (alone {a = a}) =
      (all_of (a ∷ []) (λ b m. rw (Memᴰ.eq_of_singleton m) (narrows_refl (Permits (policy_of reading a)))), part_of (Memᴰ.head refl))
  permits-all (joined {these = these} {those = those} i j k) = (
    all_of (these ++ those) (λ b m.
        ⊎_elim (λ u. narrows_trans (to_first k) (narrows_trans (permits-all i).0 (part_of u))) (λ u. narrows_trans (to_second k) (narrows_trans (permits-all j).0 (part_of u)))
        (Memᴰ.append_cases these m)),
    into k (narrows_trans (fewer these (these ++ those) (λ b m. Memᴰ.append_left those m)) (permits-all i).1)
        (narrows_trans (fewer those (these ++ those) (λ b m. Memᴰ.append_right these m)) (permits-all j).1),
  )

-- Of a join of any number: each part has its tags; and it passes the check exactly if they all do.
tags_part : {parts : List (List ℕ)} {f : List ℕ} → JoinOf parts f → (a : List ℕ) → Memᴰ a parts → tags f ≡ tags a
tags_part (alone {a = b}) a m = ap tags (sym (Memᴰ.eq_of_singleton m))
tags_part (joined {these = these} i j k) a m =
    ⊎_elim (λ u. (made k).tags_first ∙ tags_part i a u) (λ u. (made k).tags_second ∙ tags_part j a u) (Memᴰ.append_cases these m)

part_passes : {parts : List (List ℕ)} {f : List ℕ} → JoinOf parts f → refusal_of f ≡ 0 → (a : List ℕ) → Memᴰ a parts → refusal_of a ≡ 0
part_passes (alone {a = b}) e a m = ap refusal_of (Memᴰ.eq_of_singleton m) ∙ e
part_passes (joined {these = these} i j k) e a m =
    ⊎_elim (λ u. part_passes i (made k).first a u) (λ u. part_passes j (made k).second a u) (Memᴰ.append_cases these m)

whole_passes : {parts : List (List ℕ)} {f : List ℕ} → JoinOf parts f → ((a : List ℕ) → Memᴰ a parts → refusal_of a ≡ 0) → refusal_of f ≡ 0
whole_passes (alone {a = b}) h = h b (Memᴰ.head refl)
whole_passes (joined i j k) h = (made k).passed

some_part : {parts : List (List ℕ)} {f : List ℕ} → JoinOf parts f → (a : List ℕ) × Memᴰ a parts
some_part (alone {a = b}) = (b, Memᴰ.head refl)
some_part (joined {those = those} i j k) = let p = some_part i in (p.0, Memᴰ.append_left those p.1)

module _ (reading : ℕ) where
  -- Two files that pass, with the same signals and the same permitted streams.
  module _ (f g : List ℕ) (first : refusal_under reading f ≡ 0) (second : refusal_under reading g ≡ 0) (same : tags f ≡ tags g)
      (permit : Permits (policy_of reading f) ≋ Permits (policy_of reading g)) where
    equally : Equal (policy_of reading f) (policy_of reading g)
    equally = equal (policy_of reading f) (policy_of reading g) permit.0 permit.1

    good_alike : (events : List ℕ) → all_pass (event_good reading f) events ≡ all_pass (event_good reading g) events
    unfolding policy_of
    good_alike events = ap (λ (t : List ℕ × List ℕ). all_pass (λ b. ltb (b % 16) (2 ^ length t.0) && ltb (b / 16) (2 ^ length t.1)) events) same

    released_alike : (events : List ℕ) (rs : Stream) → ReleasedFor (policy_of reading f) events rs → ReleasedFor (policy_of reading g) events rs
    unfolding policy_of
    released_alike events rs h =
        subst (λ (t : List ℕ × List ℕ). Enforced corrections (Permits (policy_of reading g)) (length t.0) (length t.1) [] (map event_of events) rs) same
        ((equally.releases corrections _ _ [] (map event_of events) rs).0 h)

    -- They are alike: what is released goes by the permitted streams alone.
    pub permits_alike : Alike reading f g
    permits_alike = record { passed = (first, second); signals = same; together = together }
      where
        answers :
            (m n : List ℕ) →
            prepare_of reading f m ≡ gives (summary_of (policy_of reading f)) → prepare_of reading g n ≡ gives (summary_of (policy_of reading g)) →
            (events out : List ℕ) → all_pass (event_good reading f) events ≡ true → length events ≤ length out → SameReleased reading f m g n events out
        answers m n d e events out good long =
            let r = releases reading f m _ d events out good long in
            let q = releases reading g n _ e events out (sym (good_alike events) ∙ good) long in
            let one = enforced_one corrections _ _ (Permits (policy_of reading g)) (released_alike events r.released r.enforced) q.enforced in
            record {
              first = r;
              second = q;
              stream = one;
              answer =
                  record {
                    refusal = r.refusal ∙ sym q.refusal;
                    count = r.count ∙ sym q.count;
                    out = r.out ∙ ap (λ (w : Stream). map byte_of w ++ drop (length events) out) one ∙ sym q.out;
                  };
            }

        together :
            (m n : List ℕ) → states (policy_of reading f) ≤ length m → states (policy_of reading g) ≤ length n →
            HopelessTogether reading f m g n ⊎ ReleaseTheSame reading f m g n
        together m n k l =
            ⊎_elim (λ h. inl (h.1, (hopeless_exactly reading g n second l).1 (equally.hopeless.0 h.0)))
            (λ h.
            let e = (prepared_otherwise reading g n second l).0 (λ d. not_both (Permits (policy_of reading f)) [] h.0 (equally.hopeless.1 d)) in
            inr (h.1, e, answers m n h.1 e)) (judged reading f m first k)

-- What `PermitsAll` says of a file, of its policy.
abbrev PermitsEach : Policy → Type 0
PermitsEach p = ((w : Stream) → Fits p w → (Permits p).permits w) × ((w : Stream) → Fits p w → (Permits p).rests w)

module _ (reading : ℕ) where
  -- The file that permits all, over the signals of a, does.
  pub is_permits_all : (a : List ℕ) → refusal_of a ≡ 0 → PermitsAll reading (permits_all a)
  unfolding policy_of
  is_permits_all a e =
      let p = policy_of reading a in
      let k = subst PermitsEach (sym (free_read reading p (checked_file reading a e)))
      (free_permits reading p.inputs p.outputs, λ w f. free_rests reading p.inputs p.outputs w)
      in record { permitted = k.0; rested = k.1 }

  -- A policy that permits all rests after every stream: bits beyond the signals make no difference to where a stream leads.
  always_rested : (b : List ℕ) → refusal_of b ≡ 0 → PermitsAll reading b → (w : Stream) → (Permits (policy_of reading b)).rests w
  unfolding Rests
  always_rested b passed free w =
      let p = policy_of reading b in
      let r = free.rested (map (within p) w) (fits_within p w) in
      (r.0, sym (steps_within p (checked_file reading b passed) unlimited w (start p)) ∙ r.1, r.2)

  -- Any such policy over the signals of a permits all that a permits; a join of the two is made only over the same signals.
  permits_more : (a b : List ℕ) → refusal_of b ≡ 0 → tags a ≡ tags b → PermitsAll reading b → Permits (policy_of reading a) narrows Permits (policy_of reading b)
  unfolding Runs policy_of
  permits_more a b passed same free =
      let first = ap (λ (t : List ℕ × List ℕ). t.0) same in
      let second = ap (λ (t : List ℕ × List ℕ). t.1) same in
      record {
        permits = λ w p. free.permitted w (fits_same (policy_of reading a) (policy_of reading b) first second p.0);
        rests = λ w r. always_rested b passed free w;
      }

-- The laws, for each reading that 22 does not refuse.
module _ (reading : ℕ) (named : reading_refusal reading ≡ 0) where
  alike_by : {f g : List ℕ} → refusal_of f ≡ 0 → refusal_of g ≡ 0 → tags f ≡ tags g →
      Permits (policy_of reading f) ≋ Permits (policy_of reading g) → Alike reading f g
  alike_by {f} {g} d e = permits_alike reading f g ((under_none reading f).1 (named, d)) ((under_none reading g).1 (named, e))

  -- "Clauses bind alike in any order."
  pub any_order : {these those : List (List ℕ)} {f g : List ℕ} →
      JoinOf these f → JoinOf those g → SamePolicies these those → refusal_of f ≡ 0 → Alike reading f g
  any_order {these} {those} i j same passed =
      let p = some_part i in
      alike_by passed (whole_passes j (λ a m. part_passes i passed a ((same a).1 m)))
      (tags_part i p.0 p.1 ∙ sym (tags_part j p.0 ((same p.0).0 p.1)))
      (≋-trans (permits-all reading i)
      (≋-trans (fewer reading those these (λ a m. (same a).1 m), fewer reading these those (λ a m. (same a).0 m)) (≋-sym (permits-all reading j))))

  -- "A with B or B with A"
  pub order : {a b f g : List ℕ} → JoinMade a b f → JoinMade b a g → Alike reading f g
  order {a} {b} j k = any_order (joined alone alone j) (joined alone alone k) (λ c. (swapped c a b, swapped c b a)) (made j).passed
    where
      swapped : (c a b : List ℕ) → Memᴰ c (a ∷ b ∷ []) → Memᴰ c (b ∷ a ∷ [])
      swapped c a b m = ⊎_elim (Memᴰ.append_right (b ∷ [])) (Memᴰ.append_left (a ∷ [])) (Memᴰ.append_cases (a ∷ []) m)

  -- "grouped either way with C"
  pub grouping : {a b c f g h k : List ℕ} → JoinMade a b f → JoinMade f c h → JoinMade b c g → JoinMade a g k → Alike reading h k
  grouping i j m n =
      any_order (joined (joined alone alone i) alone j) (joined alone (joined alone alone m) n) (λ a. (λ u. u, λ u. u)) (made j).passed

  -- "A with itself"
  pub repetition : {a f : List ℕ} → JoinMade a a f → Alike reading f a
  repetition {a} j =
      any_order (joined alone alone j) alone (λ c. (λ m. ⊎_elim (λ u. u) (λ u. u) (Memᴰ.append_cases (a ∷ []) m), Memᴰ.append_left (a ∷ [])))
      (made j).passed

  -- "A with the policy that permits all": with any policy that permits all that A permits and rests wherever A rests, on either side.
  module _ {a b f : List ℕ} (more : Permits (policy_of reading a) narrows Permits (policy_of reading b)) where
    -- A with such a policy is like A.
    pub unit_any : JoinMade a b f → Alike reading f a
    unit_any j =
        let s = made j in alike_by s.passed s.first s.tags_first (to_first reading j, into reading j (narrows_refl _) more)

    -- Such a policy, with A, is like A.
    pub unit_any_first : JoinMade b a f → Alike reading f a
    unit_any_first j =
        let s = made j in alike_by s.passed s.second s.tags_second (to_second reading j, into reading j more (narrows_refl _))

  -- A with any policy that permits all is like A.
  pub unit : {a b f : List ℕ} → PermitsAll reading b → JoinMade a b f → Alike reading f a
  unit {a} {b} free j =
      let s = made j in unit_any (permits_more reading a b s.second (sym s.tags_first ∙ s.tags_second) free) j

  -- Any policy that permits all, with A, is like A.
  pub unit_first : {a b f : List ℕ} → PermitsAll reading b → JoinMade b a f → Alike reading f a
  unit_first {a} {b} free j =
      let s = made j in unit_any_first (permits_more reading a b s.first (sym s.tags_second ∙ s.tags_first) free) j

  -- A with the file that permits all, over its signals, is like A.
  pub unit_law : {a f : List ℕ} → JoinMade a (permits_all a) f → Alike reading f a
  unit_law {a} j = unit (is_permits_all reading a (made j).first) j

  -- The file that permits all, with A, is like A.
  pub unit_law_first : {a f : List ℕ} → JoinMade (permits_all a) a f → Alike reading f a
  unit_law_first {a} j = unit_first (is_permits_all reading a (made j).second) j

-- All of demand 3 holds.
pub demand_3 : Demand3
demand_3 =
    record {
      joined_reads = joined_reads;
      permits_exactly = permits_exactly;
      permits-all = permits-all;
      any_order = any_order;
      order = order;
      grouping = grouping;
      repetition = repetition;
      unit = unit;
      unit_first = unit_first;
      is_permits_all = is_permits_all;
      comes_back = comes_back;
    }

-- "Forwarding everything would meet demand 3's repeat and order laws, so demand 3 is stated over demand 2's streams."
abbrev pub forward : Run
forward reading file marks s events out = record { refusal = 0; count = length events; state = s; out = events ++ drop (length events) out }

-- Whatever the reading and the two files are, it answers the same.
pub forward_alike :
    (reading : ℕ) (f m g n events out : List ℕ) (s t : State) → SameAnswer (forward reading f m s events out) (forward reading g n t events out)
forward_alike reading f m g n events out s t = record { refusal = refl; count = refl; out = refl }

-- What it released comes back unchanged.
pub forward_back :
    (reading : ℕ) (file marks events out again : List ℕ) (s : State) →
    let released = take (length events) (forward reading file marks s events out).out in
    (forward reading file marks s released again).out ≡ released ++ drop (length events) again
forward_back reading file marks events out again s = rw (take_at events _ _ refl)

-- But it is not right: it does not release the streams of demand 2, as `SameReleased` asks.
pub forward_wrong : ¬ Right forward
forward_wrong right = not_forwarding forward right refl

-- Joins are made: sample T with itself.
pub T-joined : JoinMade T T (take 40 (joined_out T T (replicate 40 0)))
unfolding the_file the_check the_bytes the_join Rules.rests
T-joined = record { slice = replicate 40 0; size = 40; given = refl; written = refl }
