-- The line of the first refusal, or the lines of the run with the reasons.
use Rattle.std.proofs.Common.{◌≤◌, ◌++◌, List, ℕ, length, sym, refl, subst, ◌∙◌, arith, zero-le, length-take-le}
use Rattle.refusals.specs.Refused.{number_of}
use Rattle.texts.specs.WroteLaws.{wrote_then}
use Rattle.frames.specs.Framed.{events_few}
use Rattle.printing.specs.Reply.{replied}
use Rattle.printing.specs.Text.{refused_line, verdict_line}
use Rattle.telling.specs.Prints.{refuses, enforced_startable, enforced_tells}
use Rattle.telling.proofs.reply.reply.Goals as goal

pub returns-in-Err : goal.returns-in-Err
returns-in-Err c =
    record {
      text = refused_line (number_of c.in-Err.refusal);
      said = refuses (sym c.in-Err.ensures.said);
      replied = replied (rw c.from.ensures at c.put_refused.ensures) c.put_refused.auto.text;
    }

pub policy_in-file-requires : goal.policy_in-file-requires
policy_in-file-requires c = (c.in-Ok.ensures.enforces _ refl).passes.policy

pub events_in-events-requires : goal.events_in-events-requires
events_in-events-requires c = (c.in-Ok.ensures.enforces _ refl).passes.events

pub slice_bounds-tell_all-end : goal.slice_bounds-tell_all-end
slice_bounds-tell_all-end c = (c.in-Ok.ensures.enforces _ refl).enough

pub slice_bounds-tell_all-end-in-Ok : goal.slice_bounds-tell_all-end-in-Ok
slice_bounds-tell_all-end-in-Ok c = sym (length-take-le _ _ (c.in-Ok.ensures.enforces _ refl).enough)

pub tell_all-requires : goal.tell_all-requires
tell_all-requires c =
    let k = c.in-Ok.ensures.enforces _ refl in
    let n = subst (λ (events : List ℕ). length events ≤ 16384) (sym c.events_in-events.ensures) (events_few c.args.input.now k.passes.events) in
    record {
      startable = enforced_startable k c.policy_in-file.ensures c.events_in-events.ensures;
      ticks_len = (c.requires.2, c.requires.3, n, omega (arith, n, c.requires.4, c.put_verdict-next.auto.text, c.put_verdict-next.ensures.1));
    }

pub returns-in-Ok : goal.returns-in-Ok
returns-in-Ok c =
    let s = c.in-Ok.summary in
    let w = c.tell_all.ensures in
    record {
      text = verdict_line s.verdict s.states s.live ++ w.bytes;
      said = enforced_tells (c.in-Ok.ensures.enforces _ refl) c.policy_in-file.ensures c.events_in-events.ensures w.told;
      replied = replied (wrote_then zero-le c.put_verdict-next.ensures.0 w.wrote) (c.tell_all.auto.text ∙ c.put_verdict-next.auto.text);
    }
