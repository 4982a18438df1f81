-- "Adding a clause never loosens one. .. Wherever A joined with B is made and is not hopeless, A alone is not hopeless either, and every stream the join
-- releases passes A's enforcer from the start without an edit, and B's too. This holds for both readings and with locations that must be left, and for
-- any number of policies joined one after another. It is proved over demand 2's definition, not by two enforcers in a row." For a lawyer:
-- docs/ANNEX.md. What two enforcers in a row do is in specs/InARow.antt.
-- In order: what a join keeps of a policy that went into it, by the definition, of the code and in C; that it does; of two parts; of any number.
use Rattle.std.specs.Prelude.{◌≡◌, refl, true, length, take, drop}
use Rattle.std.proofs.Common.{sym, ap, ◌∙◌, ⊎_elim, le_refl, le_trans, mul_comm, le-mul_of_pos_right}
use Rattle.std.proofs.Math.Path.{subst}
use mathlib.Core.List.Memᴰ
use mathlib.Core.List.{List, [], ◌∷◌, ◌++◌, map, Memᴰ}
use Prim.Native.Nat.{ℕ, ◌*◌, ◌/◌, ◌%◌, ◌^◌, ◌≤◌, ◌<◌}
use Rattle.streams.specs.Answer.{Answer, gives}
use Rattle.streams.specs.AnswerLaws.{given_only}
use Rattle.streams.specs.Stream.{Stream, Hopeless}
use Rattle.streams.specs.Enforced.{Enforced}
use Rattle.streams.specs.Corrections.{corrections}
use Rattle.streams.specs.Laws.{narrows_refl, narrows_trans, goes_on, ends, not_both, passes, enforced_one}
use Rattle.streams.specs.Languages.{◌narrows◌}
use Rattle.policy.specs.Rules.{Policy, Fits, Permits}
use Rattle.policy.specs.Number.{states}
use Rattle.policy.specs.File.{policy_of}
use Rattle.policy.specs.Check.{refusal_under, refusal_of, all_pass}
use Rattle.policy.specs.CheckLaws.{under_none}
use Rattle.policy.specs.Sound.{WellFormed}
use Rattle.policy.specs.Numbered.{states_positive}
use Rattle.policy.specs.Checked.{checked_file}
use Rattle.enforcer.specs.Entries.{event_of, byte_of, event_good, RunAnswer}
use Rattle.enforcer.specs.Refusals.{events_back, fits_good}
use Rattle.stepping.specs.Code.{start_state}
use Rattle.enforcer.specs.Promises.{RunPromise, ran_said}
use Rattle.stepping.specs.declared.state.State.{State}
use Rattle.enforcer.specs.Promises.{Ran}
use Rattle.prepare.specs.Entry.{summary_of, prepare_of}
use Rattle.prepare.specs.Promise.{PreparePromise}
use Rattle.prepare.specs.Enforcing.{EnforcedBy}
use Rattle.prepare.specs.declared.Summary.{Summary}
use Rattle.join.specs.Steps.{fits_same}
use Rattle.join.specs.Limits.{states_join}
use Rattle.join.specs.Promise.{JoinPromise}
use Rattle.groovepawn.specs.Calls.{PrepareCall, RunCall, JoinCall}
use Rattle.groovepawn.specs.Fields.{summary_in, prepare_fields}
use Rattle.tender.specs.Granted.{well_formed, given_passed, given_goes_on}
use Rattle.tender.specs.Demand2.{Released}
use Rattle.tender.specs.Demand2Shown.{released_length, released_bytes, prepared_otherwise}
use Rattle.tender.specs.Demand3.{JoinMade, tags, JoinOf, alone, joined}
use Rattle.tender.specs.Demand3Shown.{joined_reads, made, to_first, to_second}
use Rattle.tender.specs.TickByTick.{TickByTick, ticks_release}
use Rattle.tender.specs.Code.{code_releases, c_start, run_read, prepare_read, c_releases, CTicks, c_ticks_release, code_joined, c_joined}

-- "any number of policies joined one after another": a went into f, as a part or as a join made on the way, first or second in each join that followed.
pub data WentInto (a : List ℕ) : List ℕ → Type 0 where
  itself : WentInto a a
  as_first : {f b h : List ℕ} → WentInto a f → JoinMade f b h → WentInto a h
  as_second : {f b h : List ℕ} → WentInto a f → JoinMade b f h → WentInto a h

-- Of the join f and of a, which went into it, by demand 2's definition: it speaks of the permitted streams, and `Enforced` is what is released.
pub record Keeps (reading : ℕ) (f a : List ℕ) : Type 0 where
  -- Where the join "is not hopeless, A alone is not hopeless either".
  pub hopeful : ¬ Hopeless (Permits (policy_of reading f)) → ¬ Hopeless (Permits (policy_of reading a))
  -- "every stream the join releases passes A's enforcer from the start without an edit": read, it is what is released.
  pub unedited : (es rs : Stream) → EnforcedBy (policy_of reading f) [] es rs → EnforcedBy (policy_of reading a) [] rs rs

-- "without an edit", of a run over the bytes `events`: it answers as demand 2 says, so it refuses none of them and counts them all; and it writes them
-- as they were read. Past them the slice is as it was before.
pub record Unedited (p : Policy) (events before : List ℕ) (r : RunAnswer) : Type 0 where
  pub answered : Released p events before r
  pub out : r.out ≡ events ++ drop (length events) before

-- The same over the promises of the code, where prepare's code gave a summary of the join.
pub record CodeKeeps (reading : ℕ) (f a : List ℕ) : Type 0 where
  -- It gives one of A, into every slice for the marks that is long enough.
  pub given :
      {x m y n : List ℕ} {s : Summary} {q : Answer Summary} → PreparePromise reading f x (gives s) m → PreparePromise reading a y q n →
      states (policy_of reading a) ≤ length y → (t : Summary) × (q ≡ gives t)
  -- The bytes that run's code released for the join are released unedited by run's code for A, each from `State::start()` with the marks of prepare.
  pub runs :
      {x m y n events out after again also : List ℕ} {s t : Summary} {r q : Ran} →
      PreparePromise reading f x (gives s) m → PreparePromise reading a y (gives t) n →
      all_pass (event_good reading f) events ≡ true → length events ≤ length out → length events ≤ length again →
      RunPromise reading f m start_state events out r after → RunPromise reading a n start_state (take (length events) after) again q also →
      Unedited (policy_of reading a) (take (length events) after) again (ran_said q also)
  -- And so by the two halves, tick after tick. They never stop: `ticks_go_on` in specs/TickByTick.antt.
  pub ticks :
      {x m y n : List ℕ} {s t : Summary} {u v : State} {es rs qs : Stream} →
      PreparePromise reading f x (gives s) m → PreparePromise reading a y (gives t) n →
      TickByTick reading f m start_state es rs u → TickByTick reading a n start_state rs qs v → qs ≡ rs

-- The same in C, where groovepawn_prepare refused nothing of the join; over fewer than 2^56 events.
pub record CKeeps (reading : ℕ) (f a : List ℕ) : Type 0 where
  pub given :
      {x m y n : List ℕ} {v w : ℕ} → PrepareCall reading f x v m → v % 256 ≡ 0 → PrepareCall reading a y w n →
      states (policy_of reading a) ≤ length y → w % 256 ≡ 0
  pub runs :
      {x m y n events out state written again next also : List ℕ} {v w r q : ℕ} →
      PrepareCall reading f x v m → v % 256 ≡ 0 → PrepareCall reading a y w n → w % 256 ≡ 0 →
      all_pass (event_good reading f) events ≡ true → length events ≤ length out → length events ≤ length again → length events < 2 ^ 56 →
      RunCall reading f m c_start events out r state written → RunCall reading a n c_start (take (length events) written) again q next also →
      Unedited (policy_of reading a) (take (length events) written) again (run_read q next also)
  pub ticks :
      {x m y n u t : List ℕ} {v w : ℕ} {es rs qs : Stream} → PrepareCall reading f x v m → v % 256 ≡ 0 → PrepareCall reading a y w n → w % 256 ≡ 0 →
      CTicks reading f m c_start es rs u → CTicks reading a n c_start rs qs t → qs ≡ rs

-- The policies on the way to a join of any number: the parts, each join that was made of them, and the last.
unfoldable pub on_the_way : {parts : List (List ℕ)} {f : List ℕ} → JoinOf parts f → List (List ℕ)
on_the_way (alone {a = a}) = a ∷ []
on_the_way (joined {h = h} i j k) = h ∷ (on_the_way i ++ on_the_way j)

-- What the joins along the way leave of a: f permits no more than a does and rests nowhere else, over the same signals; a passes the check if f does,
-- and has no more states.
record WithinPart (reading : ℕ) (f a : List ℕ) : Type 0 where
  permits : Permits (policy_of reading f) narrows Permits (policy_of reading a)
  signals : tags f ≡ tags a
  passed : refusal_under reading f ≡ 0 → refusal_under reading a ≡ 0
  fewer : states (policy_of reading a) ≤ states (policy_of reading f)

some_states : (reading : ℕ) (file : List ℕ) → refusal_of file ≡ 0 → 0 < states (policy_of reading file)
some_states reading file e = states_positive (policy_of reading file) (checked_file reading file e).start

module _ (reading : ℕ) {a b f : List ℕ} (j : JoinMade a b f) where
  multiplied : states (policy_of reading f) ≡ states (policy_of reading a) * states (policy_of reading b)
  multiplied = ap states (joined_reads j reading) ∙ states_join (policy_of reading a) (policy_of reading b)

  fewer_first : states (policy_of reading a) ≤ states (policy_of reading f)
  fewer_first = rw multiplied (le-mul_of_pos_right (states (policy_of reading a)) (some_states reading b (made j).second))

  fewer_second : states (policy_of reading b) ≤ states (policy_of reading f)
  fewer_second = rw (multiplied, mul_comm (states (policy_of reading a)) (states (policy_of reading b)))
      (le-mul_of_pos_right (states (policy_of reading b)) (some_states reading a (made j).first))

module _ (reading : ℕ) where
  within : {a f : List ℕ} → WentInto a f → WithinPart reading f a
  within {a} itself = record { permits = narrows_refl (Permits (policy_of reading a)); signals = refl; passed = λ e. e; fewer = le_refl (states (policy_of reading a)) }
  within (as_first {f = f} {h = h} w j) =
      let i = within w in
      record {
        permits = narrows_trans (to_first reading j) i.permits;
        signals = (made j).tags_first ∙ i.signals;
        passed = λ e. i.passed ((under_none reading f).1 (((under_none reading h).0 e).0, (made j).first));
        fewer = le_trans i.fewer (fewer_first reading j);
      }
  within (as_second {f = f} {h = h} w j) =
      let i = within w in
      record {
        permits = narrows_trans (to_second reading j) i.permits;
        signals = (made j).tags_second ∙ i.signals;
        passed = λ e. i.passed ((under_none reading f).1 (((under_none reading h).0 e).0, (made j).second));
        fewer = le_trans i.fewer (fewer_second reading j);
      }

  module _ {a f : List ℕ} (w : WentInto a f) where
    abbrev whole : Policy
    whole = policy_of reading f

    abbrev part : Policy
    part = policy_of reading a

    unedited : (es rs : Stream) → EnforcedBy whole [] es rs → EnforcedBy part [] rs rs
    unfolding policy_of
    unedited es rs h =
        let i = within w in
        subst (λ (t : List ℕ × List ℕ). Enforced corrections (Permits part) (length t.0) (length t.1) [] rs rs) i.signals
        (passes corrections _ _ (Permits whole) (Permits part) i.permits h)

    -- By the definition: where f is not hopeless a is not either, and what f releases passes a's enforcer unedited.
    pub never_loosens : Keeps reading f a
    never_loosens = record { hopeful = λ n d. n (ends (Permits whole) (Permits part) (within w).permits [] d); unedited = unedited }

    -- So A needs no more marks than the join: a slice that was long enough for the join's is for A's.
    pub no_more_marks : states part ≤ states whole
    no_more_marks = (within w).fewer

    fits : {rs : Stream} → Fits whole rs → Fits part rs
    unfolding policy_of
    fits =
        let t = (within w).signals in
        fits_same whole part (ap (λ (t : List ℕ × List ℕ). t.0) t) (ap (λ (t : List ℕ × List ℕ). t.1) t)

    -- Prepare gives a summary of A where it gives one of the join.
    given : (x y : List ℕ) (s : Summary) → prepare_of reading f x ≡ gives s → states part ≤ length y → prepare_of reading a y ≡ gives (summary_of part)
    given x y s e long =
        let i = within w in
        let g = goes_on (Permits whole) (Permits part) i.permits [] (given_goes_on reading f x s e) in
        (prepared_otherwise reading a y (i.passed (given_passed reading f x s e)) long).0 (not_both (Permits part) [] g)

    -- What was released for the join, as bytes: A's run refuses none of them and writes them as they are.
    module _ (ok : WellFormed part) {events out : List ℕ} {r : RunAnswer} (h : Released whole events out r) where
      abbrev bytes : List ℕ
      bytes = take (length events) r.out

      all_good : all_pass (event_good reading a) bytes ≡ true
      all_good = rw (released_bytes h) (fits_good reading a ok (fits h.leads.fits))

      as_many_bytes : length bytes ≡ length events
      as_many_bytes = ap length (released_bytes h) ∙ released_length h

      forwarded : {again : List ℕ} {q : RunAnswer} → Released part bytes again q → Unedited part bytes again q
      forwarded {again} k =
          let back : map event_of bytes ≡ h.released = ap (map event_of) (released_bytes h) ∙ events_back part ok (fits h.leads.fits) in
          let same : k.released ≡ h.released =
          enforced_one corrections _ _ (Permits part) (subst (λ (es : Stream). EnforcedBy part [] es k.released) back k.enforced)
          (unedited (map event_of events) h.released h.enforced)
          in
          record {
            answered = k;
            out = k.out ∙ ap (λ (l : List ℕ). l ++ drop (length bytes) again) (ap (map byte_of) same ∙ sym (released_bytes h));
          }

    -- The same of the code: of prepare, of the run and of the two halves.
    pub code_keeps : CodeKeeps reading f a
    code_keeps =
        record {
          given =
              λ {x = x} {y = y} {s = s} {q = q} h k long.
              let t = summary_of part in
              let d : Summary = record { verdict = t.verdict; states = t.states; live = t.live } in
              (d, k.said ∙ given x y s (sym h.said) long);
          runs =
              λ {y = y} {t = t} h k good long room i j.
              let ok = well_formed reading a (given_passed reading a y t (sym k.said)) in
              let r = code_releases h i good long in
              forwarded ok r (code_releases k j (all_good ok r) (rw (as_many_bytes ok r) room));
          ticks =
              λ {es = es} {rs = rs} h k i j.
              enforced_one corrections _ _ (Permits part) (ticks_release k j).enforced (unedited es rs (ticks_release h i).enforced);
        }

    -- The same of the functions in C.
    pub c_keeps : CKeeps reading f a
    c_keeps =
        record {
          given =
              λ {x = x} {y = y} {w = u} h z k long.
              let s = prepare_read h z in
              (given_only (u % 256) _ (summary_of part) (ap summary_in k.said ∙ prepare_fields reading a y ∙ given x y s.0 s.1 long)).0;
          runs =
              λ {y = y} h z k o good long room few i j.
              let t = prepare_read k o in
              let ok = well_formed reading a (given_passed reading a y t.0 t.1) in
              let r = c_releases h z i good long few in
              let n = as_many_bytes ok r in
              forwarded ok r (c_releases k o j (all_good ok r) (rw n room) (rw n few));
          ticks =
              λ {es = es} {rs = rs} h z k o i j.
              enforced_one corrections _ _ (Permits part) (c_ticks_release k o j).enforced (unedited es rs (c_ticks_release h z i).enforced);
        }

  -- "A joined with B": the join keeps both of its parts.
  pub of_two : {a b f : List ℕ} → JoinMade a b f → Keeps reading f a × Keeps reading f b
  of_two j = (never_loosens (as_first itself j), never_loosens (as_second itself j))

  -- What join's code wrote keeps both of its parts.
  pub code_of_two :
      {a b before after : List ℕ} {n : ℕ} → JoinPromise a b before (gives n) after →
      CodeKeeps reading (take n after) a × CodeKeeps reading (take n after) b
  code_of_two h = let j = code_joined h in (code_keeps (as_first itself j), code_keeps (as_second itself j))

  -- What groovepawn_join wrote keeps both of its parts.
  pub c_of_two :
      {a b before after : List ℕ} {r : ℕ} → JoinCall a b before r after → r % 256 ≡ 0 →
      CKeeps reading (take (r / 256) after) a × CKeeps reading (take (r / 256) after) b
  c_of_two h z = let j = c_joined h z in (c_keeps (as_first itself j), c_keeps (as_second itself j))

-- "any number of policies joined one after another": each of them went into their join.
pub part_went : {parts : List (List ℕ)} {f : List ℕ} → JoinOf parts f → (a : List ℕ) → Memᴰ a parts → WentInto a f
part_went (alone {a = b}) a m = subst (λ (c : List ℕ). WentInto c b) (sym (Memᴰ.eq_of_singleton m)) itself
part_went (joined {these = these} i j k) a m =
    ⊎_elim (λ u. as_first (part_went i a u) k) (λ u. as_second (part_went j a u) k) (Memᴰ.append_cases these m)

-- So did each join made on the way.
pub way_went : {parts : List (List ℕ)} {f : List ℕ} (i : JoinOf parts f) (a : List ℕ) → Memᴰ a (on_the_way i) → WentInto a f
unfolding on_the_way
way_went (alone {a = b}) a m = subst (λ (c : List ℕ). WentInto c b) (sym (Memᴰ.eq_of_singleton m)) itself
way_went (joined {h = h} i j k) a m =
    ⊎_elim (λ u. subst (λ (c : List ℕ). WentInto c h) (sym (Memᴰ.eq_of_singleton u)) itself)
    (λ n. ⊎_elim (λ u. as_first (way_went i a u) k) (λ u. as_second (way_went j a u) k) (Memᴰ.append_cases (on_the_way i) n))
    (Memᴰ.append_cases (h ∷ []) m)

module _ (reading : ℕ) {parts : List (List ℕ)} {f : List ℕ} (i : JoinOf parts f) (a : List ℕ) where
  -- A join of any number keeps each of its parts: by the definition, of the code and in C.
  pub of_parts : Memᴰ a parts → Keeps reading f a × CodeKeeps reading f a × CKeeps reading f a
  of_parts m = let w = part_went i a m in (never_loosens reading w, code_keeps reading w, c_keeps reading w)

  -- It keeps each join made on the way, in the same three ways.
  pub of_way : Memᴰ a (on_the_way i) → Keeps reading f a × CodeKeeps reading f a × CKeeps reading f a
  of_way m = let w = way_went i a m in (never_loosens reading w, code_keeps reading w, c_keeps reading w)

-- A went into itself: "A released stream enforced again from the start comes back unchanged", of run's code and the code's halves, and of the functions in C.
pub code_back : (reading : ℕ) (a : List ℕ) → CodeKeeps reading a a × CKeeps reading a a
code_back reading a = (code_keeps reading itself, c_keeps reading itself)
