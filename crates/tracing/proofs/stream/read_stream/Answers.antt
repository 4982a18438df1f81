-- The opening, then nothing or the rest.
use Rattle.std.proofs.Common.{◌≡◌, sym, ap, subst, ◌∙◌, [], ◌++◌, ℕ, zero-le, length, drop, length-append, length-drop, arith}
use Rattle.std.proofs.lemmas.Bool.{false≢true}
use Rattle.std.proofs.lemmas.Bool.Decides.{Decides-eqb}
use Rattle.std.proofs.lemmas.Slice.Eq.{starts_is}
use Rattle.texts.specs.WroteLaws.{wrote_front}
use Rattle.drawing.specs.Streams.{opening}
use Rattle.drawing.specs.Lengths.{opening_long}
use Rattle.tracing.specs.Found.{found_none, found_empty, found_body, opening_only}
use Rattle.tracing.proofs.stream.read_stream.Goals as goal

pub put_opening-end-requires : goal.put_opening-end-requires
put_opening-end-requires c = omega (arith, opening_long c.args.inputs.now c.args.outputs.now)

pub returns-then-not-starts_with : goal.returns-then-not-starts_with
returns-then-not-starts_with c =
    let t = c.args.text.now in
    let w = wrote_front zero-le c.put_opening-end.ensures in
    let s = rw w at (starts_is Decides-eqb t _ _ c.starts_with.ensures.value) in
    found_none c.args.inputs.now c.args.outputs.now c.requires t [] [] (λ rest q. false≢true (sym c.if-not-starts_with.true ∙ s.1 rest q))

pub returns-then-end-text : goal.returns-then-end-text
returns-then-end-text c =
    let x = c.args.inputs.now in
    let y = c.args.outputs.now in
    let t = c.args.text.now in
    let w = wrote_front zero-le c.put_opening-end.ensures in
    let s = rw w at (starts_is Decides-eqb t _ _ c.starts_with.ensures.value) in
    let b = s.0 c.if-not-starts_with.false in
    found_empty x y c.requires t c.args.events.now (opening_only t (opening x y) (length (opening x y)) b (omega arith))

pub returns : goal.returns
returns c =
    let x = c.args.inputs.now in
    let y = c.args.outputs.now in
    let t = c.args.text.now in
    let w = wrote_front zero-le c.put_opening-end.ensures in
    let s = rw w at (starts_is Decides-eqb t _ _ c.starts_with.ensures.value) in
    let b = s.0 c.if-not-starts_with.false in
    let r = c.put_opening-end.result in
    let n : length (opening x y) ≡ r = omega arith in
    let f = c.read_body in
    found_body x y c.requires t (drop r t) c.args.events.now f.new.events f.result
    (subst (λ (k : ℕ). t ≡ opening x y ++ drop k t) n b)
    (λ e. omega (arith, ap length e, length-drop r t, ap length b, length-append (opening x y) (drop (length (opening x y)) t), n))
    f.ensures
