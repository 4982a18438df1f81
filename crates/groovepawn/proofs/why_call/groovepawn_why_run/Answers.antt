-- The answer, the state and the words for five numbers, and a refusal for any other state.
use Rattle.std.specs.Prelude.{Ok, Err}
use Rattle.std.proofs.Common.{◌≡◌, ℕ, length, refl, ap, sym, subst, ◌∙◌, arith, eq-eqb, eqb-true}
use borrow.Author.Tests.{eqb-false}
use Rattle.enforcer.specs.Promises.{ran_said}
use Rattle.stepping.specs.declared.state.State.{State}
use Rattle.stepping.specs.Five.{state_words, words_back}
use Rattle.reasons.specs.Runs.{Room, shortest_of, early_refusal, walked}
use Rattle.groovepawn.specs.Why.{odd_why_run}
use Rattle.groovepawn.proofs.why_call.groovepawn_why_run.Goals as goal

pub returns-then-state-ne-STATE_NUMBERS : goal.returns-then-state-ne-STATE_NUMBERS
returns-then-state-ne-STATE_NUMBERS c =
    let a = c.args in
    record {
      odd =
          λ e. (
            c.from.ensures
                ∙ c.refusal_word.ensures
                ∙ c.odd_why_run-odd.ensures
                ∙ ap (λ (n : ℕ). odd_why_run a.reading a.file.now a.marks.now n (length a.events.now) (length a.words.now)) c.shortest-work.ensures,
            refl,
            refl,
          );
      said = λ e. absurd (c.if-state-ne-STATE_NUMBERS.true (eqb-true _ 5 e));
      scratch = λ n. refl;
    }

pub returns-in-Ok : goal.returns-in-Ok
returns-in-Ok c =
    let a = c.args in
    let w = c.in-Ok.ensures in
    let room : Room =
    record {
      ticks = a.ticks.now;
      rests = a.rests.now;
      prepared = a.prepared.now;
      work = record { stack = a.stack.now; from = a.from.now; ways = a.ways.now; bound = a.bound.now; place = a.place.now };
    }
    in
    record {
      odd = λ q. absurd (eqb-false _ 5 q c.if-state-ne-STATE_NUMBERS.false);
      said =
          λ q. (
            ran_said (walked c.state_of-given.result (length a.events.now) (Ok c.in-Ok.after)) c.why_run.new.words,
            rw (← c.state_of-given.ensures) w.answers,
            record { said = omega arith; next = c.put_state.ensures; words = refl },
          );
      scratch =
          λ n.
          w.scratch
          (λ z.
          n (eq-eqb _ 5 c.if-state-ne-STATE_NUMBERS.false)
          (subst (λ (u : State). early_refusal a.reading a.file.now a.marks.now u a.events.now a.words.now (shortest_of room) ≡ 0) c.state_of-given.ensures z));
    }

pub returns-in-Err : goal.returns-in-Err
returns-in-Err c =
    let a = c.args in
    let w = c.in-Err.ensures in
    let room : Room =
    record {
      ticks = a.ticks.now;
      rests = a.rests.now;
      prepared = a.prepared.now;
      work = record { stack = a.stack.now; from = a.from.now; ways = a.ways.now; bound = a.bound.now; place = a.place.now };
    }
    in
    let five : length a.state.now ≡ 5 = omega arith in
    record {
      odd = λ q. absurd (eqb-false _ 5 q c.if-state-ne-STATE_NUMBERS.false);
      said =
          λ q. (
            ran_said (walked c.state_of-given.result (length a.events.now) (Err c.in-Err.refusal)) c.why_run.new.words,
            rw (← c.state_of-given.ensures) w.answers,
            record { said = omega (arith, c.from-in-Err.ensures, c.refusal_word-in-Err.ensures); next = sym (words_back a.state.now five) ∙ ap state_words (sym c.state_of-given.ensures); words = refl },
          );
      scratch =
          λ n.
          w.scratch
          (λ z.
          n (eq-eqb _ 5 c.if-state-ne-STATE_NUMBERS.false)
          (subst (λ (u : State). early_refusal a.reading a.file.now a.marks.now u a.events.now a.words.now (shortest_of room) ≡ 0) c.state_of-given.ensures z));
    }
