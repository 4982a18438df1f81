-- The part that the line is of, and the line.
use Rattle.std.proofs.Common.{ap, arith, refl, ◌*◌, ◌+◌, ◌-◌, ◌∙◌, ◌≡◌}
use Rattle.policy.specs.File.{byte_at, pair_at, input_count, output_count, clock_count, location_count}
use Rattle.texts.specs.Text.{ascii}
use Rattle.showing.specs.Declarations.{tag_piece, clock_piece, place_piece}
use Rattle.showing.specs.Lines.{framed, rule_line, input-line, output-line, clock-line, place_line, rule-line}
use Rattle.showing.proofs.lines.put_line.Goals as goal

pub bounds-file-i : goal.bounds-file-i
bounds-file-i c =
    omega (arith, c.requires, framed c.requires.0, c.if-i-layout.true)

pub returns-then-i-layout : goal.returns-then-i-layout
returns-then-i-layout c =
    let f = c.args.file.now in
    let i = c.args.i in
    let x = c.args.layout in
    let k = framed c.requires.0 in
    (record { line = tag_piece (ascii "input") (byte_at f (1 + i)); turn = input-line f k i refl (omega (arith, c.requires.0, c.if-i-layout.true)); wrote = c.put_tag.ensures.0 }, omega (arith, c.put_tag.ensures.1))

pub overflow_add-i-then-output-layout : goal.overflow_add-i-then-output-layout
overflow_add-i-then-output-layout c =
    omega (arith, c.requires, framed c.requires.0, c.if-output-layout.true, c.if-i-layout.false)

pub bounds-file-i-then-output-layout : goal.bounds-file-i-then-output-layout
bounds-file-i-then-output-layout c =
    omega (arith, c.requires, framed c.requires.0, c.if-output-layout.true, c.if-i-layout.false)

pub returns-then-output-layout : goal.returns-then-output-layout
returns-then-output-layout c =
    let f = c.args.file.now in
    let i = c.args.i in
    let x = c.args.layout in
    let k = framed c.requires.0 in
    let j = i - x.inputs in
    let past : input_count f + j ≡ i = omega (arith, c.requires.0, c.if-i-layout.false) in
    (record { line = tag_piece (ascii "output") (byte_at f (2 + i)); turn = output-line f k i j past {p = 2 + i} (omega (arith, past, k)) (omega (arith, c.requires.0, c.if-output-layout.true)); wrote = c.put_tag-then-output-layout.ensures.0 }, omega (arith, c.put_tag-then-output-layout.ensures.1))

pub overflow_add-ceilings : goal.overflow_add-ceilings
overflow_add-ceilings c =
    omega (arith, c.requires, framed c.requires.0)

pub overflow_add-ceilings-2 : goal.overflow_add-ceilings-2
overflow_add-ceilings-2 c =
    omega (arith, c.requires, framed c.requires.0)

pub overflow_mul-clock : goal.overflow_mul-clock
overflow_mul-clock c =
    omega (arith, c.requires, framed c.requires.0, c.if-clock-layout.true)

pub overflow_add-ceilings-then-clock-layout : goal.overflow_add-ceilings-then-clock-layout
overflow_add-ceilings-then-clock-layout c =
    omega (arith, c.requires, framed c.requires.0, c.if-clock-layout.true)

pub pair_within-ceiling-requires : goal.pair_within-ceiling-requires
pair_within-ceiling-requires c =
    omega (arith, c.requires, framed c.requires.0, c.if-clock-layout.true)

pub put_clock-requires : goal.put_clock-requires
put_clock-requires c =
    omega (arith, c.requires, framed c.requires.0, c.if-clock-layout.true, c.pair_within-ceiling.ensures.1)

pub returns-then-clock-layout : goal.returns-then-clock-layout
returns-then-clock-layout c =
    let f = c.args.file.now in
    let i = c.args.i in
    let x = c.args.layout in
    let k = framed c.requires.0 in
    let j = i - x.inputs in
    let m = j - x.outputs in
    let past : input_count f + j ≡ i = omega (arith, c.requires.0, c.if-i-layout.false) in
    let further : output_count f + m ≡ j = omega (arith, c.requires.0, c.if-output-layout.false) in
    let ceiling = c.pair_within-ceiling in
    (record { line = clock_piece m ceiling.result; turn = clock-line f k i j past m further (ceiling.ensures.0 ∙ ap (pair_at f) (omega (arith, c.requires.0, k))) (omega (arith, c.requires.0, c.if-clock-layout.true)); wrote = c.put_clock.ensures.0 }, omega (arith, c.put_clock.ensures.1))

pub overflow_mul-byte : goal.overflow_mul-byte
overflow_mul-byte c =
    omega (arith, c.requires, framed c.requires.0)

pub overflow_add-byte : goal.overflow_add-byte
overflow_add-byte c =
    omega (arith, c.requires, framed c.requires.0)

pub overflow_add-byte-then-location-layout : goal.overflow_add-byte-then-location-layout
overflow_add-byte-then-location-layout c =
    omega (arith, c.requires, framed c.requires.0)

pub overflow_add-byte-then-location-layout-2 : goal.overflow_add-byte-then-location-layout-2
overflow_add-byte-then-location-layout-2 c =
    omega (arith, c.requires, framed c.requires.0, c.if-location-layout.true)

pub bounds-file-ceilings : goal.bounds-file-ceilings
bounds-file-ceilings c =
    omega (arith, c.requires, framed c.requires.0, c.if-location-layout.true)

pub put_place-requires : goal.put_place-requires
put_place-requires c =
    omega (arith, c.requires, framed c.requires.0, c.if-location-layout.true)

pub returns-then-location-layout : goal.returns-then-location-layout
returns-then-location-layout c =
    let f = c.args.file.now in
    let i = c.args.i in
    let x = c.args.layout in
    let k = framed c.requires.0 in
    let j = i - x.inputs in
    let m = j - x.outputs in
    let n = m - x.clocks in
    let past : input_count f + j ≡ i = omega (arith, c.requires.0, c.if-i-layout.false) in
    let further : output_count f + m ≡ j = omega (arith, c.requires.0, c.if-output-layout.false) in
    let on : clock_count f + n ≡ m = omega (arith, c.requires.0, c.if-clock-layout.false) in
    let at = 3 + x.inputs + x.outputs + 2 * x.clocks + 1 + n in
    (record { line = place_piece n (byte_at f at); turn = place_line f k i j past m further n on {p = at} (omega (arith, c.requires.0, k)) (omega (arith, c.requires.0, c.if-location-layout.true)); wrote = c.put_place.ensures.0 }, omega (arith, c.put_place.ensures.1))

pub put_ruled-requires : goal.put_ruled-requires
put_ruled-requires c =
    (c.requires.0, omega (arith, c.requires, c.if-i-layout.false, c.if-output-layout.false, c.if-clock-layout.false, c.if-location-layout.false), c.requires.2)

pub returns : goal.returns
returns c =
    let f = c.args.file.now in
    let i = c.args.i in
    let x = c.args.layout in
    let k = framed c.requires.0 in
    let j = i - x.inputs in
    let m = j - x.outputs in
    let n = m - x.clocks in
    let o = n - x.locations in
    let past : input_count f + j ≡ i = omega (arith, c.requires.0, c.if-i-layout.false) in
    let further : output_count f + m ≡ j = omega (arith, c.requires.0, c.if-output-layout.false) in
    let on : clock_count f + n ≡ m = omega (arith, c.requires.0, c.if-clock-layout.false) in
    let last : location_count f + o ≡ n = omega (arith, c.requires.0, c.if-location-layout.false) in
    (record { line = rule_line f o; turn = rule-line f k i j past m further n on o last (omega (arith, c.requires.1, past, further, on, last)); wrote = c.put_ruled.ensures.0 }, c.put_ruled.ensures.1)
