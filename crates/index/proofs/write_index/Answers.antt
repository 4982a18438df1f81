use Rattle.std.proofs.Common.{◌<◌, refl, arith}
use Rattle.refusals.specs.Refused.{number_of}
use Rattle.refusals.specs.Laws.{number_above, handed_on}
use Rattle.index.proofs.Laws.{sections_of, build_refused, build_short, build_done}
use Rattle.index.proofs.write_index.Goals as goal

pub returns-in_err-layout : goal.returns-in_err-layout
returns-in_err-layout c =
    let above : 0 < number_of c.in_err-layout.field-0.0 = number_above _ in
    rw (handed_on _ _ c.from_residual.ensures.1) (build_refused (record { said = c.in_err-layout.ensures }) (λ z. omega arith))

pub returns-then-index-lt-NUMBERS : goal.returns-then-index-lt-NUMBERS
returns-then-index-lt-NUMBERS c = build_short (sections_of (record { said = c.in_ok-layout.ensures }) refl).passes c.if-index-lt-NUMBERS.true

pub fill-requires : goal.fill-requires
fill-requires c = (sections_of (record { said = c.in_ok-layout.ensures }) refl, c.if-index-lt-NUMBERS.false)

pub returns : goal.returns
returns c =
    build_done (sections_of (record { said = c.in_ok-layout.ensures }) refl).passes c.if-index-lt-NUMBERS.false c.fill.ensures
