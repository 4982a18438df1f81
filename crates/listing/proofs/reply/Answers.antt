-- Clean refuses, and the line of its refusal is printed; or the policy is written, and what goes is printed.
use Rattle.std.proofs.Common.{◌+◌, ◌*◌, ◌≤◌, [], length, take, sym, subst, ◌∙◌, arith, zero-le, length-take-le}
use Rattle.texts.specs.Wrote.{Wrote}
use Rattle.texts.specs.WroteLaws.{wrote_none, wrote_then}
use Rattle.printing.specs.Reply.{replied}
use Rattle.listing.specs.Ways.{refused_way, given_way}
use Rattle.listing.proofs.reply.Goals as goal

pub returns-in-Err : goal.returns-in-Err
returns-in-Err c =
    let a = c.args in
    let w = refused_way a.reading a.file.now a.cleaned.now a.list.now c.requires.0 c.requires.1 c.in-Err.ensures in
    record {
      replied = rw w.1 (replied (subst (Wrote a.cleaned.now 0 [] 0) (sym w.2) (wrote_none a.cleaned.now 0)) c.clean.auto.out);
      replied_2 = rw w.0 (replied (rw c.from.ensures at c.put_refused.ensures) c.put_refused.auto.text);
    }

pub slice_bounds-put_list-end : goal.slice_bounds-put_list-end
slice_bounds-put_list-end c =
    let a = c.args in (given_way a.reading a.file.now a.cleaned.now a.list.now c.requires.0 c.requires.1 c.in-Ok.ensures).within

pub slice_bounds-put_list-end-in-Ok : goal.slice_bounds-put_list-end-in-Ok
slice_bounds-put_list-end-in-Ok c =
    let a = c.args in sym (length-take-le _ _ (given_way a.reading a.file.now a.cleaned.now a.list.now c.requires.0 c.requires.1 c.in-Ok.ensures).within)

pub put_list-next-requires : goal.put_list-next-requires
put_list-next-requires c =
    let a = c.args in
    let g = given_way a.reading a.file.now a.cleaned.now a.list.now c.requires.0 c.requires.1 c.in-Ok.ensures in
    let listed : length (take c.in-Ok.lengths.struck c.clean.new.list) ≤ 957 = rw (length-take-le _ _ g.within) g.few in
    omega (arith, listed, c.requires.2)

pub put_left-requires : goal.put_left-requires
put_left-requires c =
    let a = c.args in
    let g = given_way a.reading a.file.now a.cleaned.now a.list.now c.requires.0 c.requires.1 c.in-Ok.ensures in
    let listed : length (take c.in-Ok.lengths.struck c.clean.new.list) ≤ 957 = rw (length-take-le _ _ g.within) g.few in
    omega (arith, c.put_list-next.ensures.1, c.put_list-next.auto.text, listed, c.requires.2)

pub returns-in-Ok : goal.returns-in-Ok
returns-in-Ok c =
    let a = c.args in
    let g = given_way a.reading a.file.now a.cleaned.now a.list.now c.requires.0 c.requires.1 c.in-Ok.ensures in
    record {
      replied = replied g.left c.clean.auto.out;
      replied_2 = rw g.says (replied (wrote_then zero-le c.put_list-next.ensures.0 c.put_left.ensures) (c.put_left.auto.text ∙ c.put_list-next.auto.text));
    }
