-- `explaining::halves::tell` meets its contract: with the marks of prepare both halves release something, an edited one reached no live state, and the state after it is the output half's.
use Rattle.std.proofs.Common.{sym, ap, ◌∙◌, ℕ}
use Rattle.stepping.specs.Laid.{laid_well}
use Rattle.stepping.specs.declared.state.State.{State}
use Rattle.explaining.specs.Halves.{moved_tick, moves_on, input_dead, output_dead, both_told}
use Rattle.explaining.proofs.TickLaws.{is_passed, is_released}
use Rattle.explaining.proofs.halves.tell.Goals as goal

pub for_input-requires-clause-counts_of : goal.for_input-requires-clause-counts_of
for_input-requires-clause-counts_of c =
    let k = c.requires.standing in
    let n = c.requires.counts_of in
    let h = k.0 in
    let passed = c.unwrap_or-passed.ensures ∙ is_passed h k.1 k.2 c.args.x c.args.y n.1 n.2 _ c.input_by.ensures in (
      n.0,
      λ edited. rw c.here_by-here.ensures.1
          (input_dead _ (laid_well h.laid) _ k.1 _ h.inside k.2 c.args.x c.args.y n.1 (λ q. edited (q ∙ sym passed))),
    )

pub for_output-requires-clause-counts_of : goal.for_output-requires-clause-counts_of
for_output-requires-clause-counts_of c =
    let k = c.requires.standing in
    let n = c.requires.counts_of in
    let h = k.0 in
    let passed = c.unwrap_or-passed.ensures ∙ is_passed h k.1 k.2 c.args.x c.args.y n.1 n.2 _ c.input_by.ensures in
    let both = c.unwrap_or-released.ensures ∙ is_released h k.1 k.2 c.args.x c.args.y n.1 n.2 _ (rw passed at c.output_by-output.ensures) in (
      n.0,
      λ edited. rw (c.here_by-here.ensures.1, passed)
          (output_dead _ (laid_well h.laid) _ k.1 _ h.inside k.2 c.args.x c.args.y n.2 (λ q. edited (q ∙ sym (ap (λ (z : ℕ × State). z.0) both)))),
    )

pub returns : goal.returns
returns c =
    let k = c.requires.standing in
    let n = c.requires.counts_of in
    let h = k.0 in
    let e = c.here_by-here.ensures.1 in
    let passed = c.unwrap_or-passed.ensures ∙ is_passed h k.1 k.2 c.args.x c.args.y n.1 n.2 _ c.input_by.ensures in
    let both = c.unwrap_or-released.ensures ∙ is_released h k.1 k.2 c.args.x c.args.y n.1 n.2 _ (rw passed at c.output_by-output.ensures) in
    let released = ap (λ (z : ℕ × State). z.0) both in (
      both_told _ (laid_well h.laid) _ k.1 _ h.inside k.2 c.args.x c.args.y (rw (e, passed) at c.for_input.ensures) (rw (e, passed, released) at c.for_output.ensures),
      record {
        done = moved_tick _ (laid_well h.laid) _ k.1 _ h.inside k.2 c.args.x c.args.y;
        is = moves_on _ (laid_well h.laid) _ k.1 _ h.inside k.2 c.args.x c.args.y;
        is_x = passed;
        is_y = released;
        state = ap (λ (z : ℕ × State). z.1) both;
      },
    )
