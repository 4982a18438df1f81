-- By its words, one after another.
use Rattle.std.proofs.Common.{◌≡◌, ◌-◌, true, false, sym, ◌∙◌}
use Rattle.policy.specs.File.{part}
use Rattle.wording.specs.Names.{is}
use Rattle.declarations.specs.PlaceLine.{word_unlike, none_left, left_test}
use Rattle.declarations.proofs.placeline.must_be_left.Goals as goal

pub returns-then-ne : goal.returns-then-ne
returns-then-ne c =
    let must : is "must" (part c.args.text.now c.word_in-first.result.start (c.word_in-first.result.end - c.word_in-first.result.start)) ≡ false = word_unlike _ _ _ c.as_slice.ensures c.if-ne.ensures in
    sym (left_test c.word_in-first.ensures c.word_in-second.ensures c.word_in-third.ensures c.word_in-fourth.ensures ∙ rw must)

pub returns-then-ne-2 : goal.returns-then-ne-2
returns-then-ne-2 c =
    let must : is "must" (part c.args.text.now c.word_in-first.result.start (c.word_in-first.result.end - c.word_in-first.result.start)) ≡ true = word_unlike _ _ _ c.as_slice.ensures c.if-ne.ensures in
    let be : is "be" (part c.args.text.now c.word_in-second.result.start (c.word_in-second.result.end - c.word_in-second.result.start)) ≡ false = word_unlike _ _ _ c.as_slice-2.ensures c.if-ne-2.ensures in
    sym (left_test c.word_in-first.ensures c.word_in-second.ensures c.word_in-third.ensures c.word_in-fourth.ensures ∙ rw (must, be))

pub returns-then-ne-3 : goal.returns-then-ne-3
returns-then-ne-3 c =
    let must : is "must" (part c.args.text.now c.word_in-first.result.start (c.word_in-first.result.end - c.word_in-first.result.start)) ≡ true = word_unlike _ _ _ c.as_slice.ensures c.if-ne.ensures in
    let be : is "be" (part c.args.text.now c.word_in-second.result.start (c.word_in-second.result.end - c.word_in-second.result.start)) ≡ true = word_unlike _ _ _ c.as_slice-2.ensures c.if-ne-2.ensures in
    let left : is "left" (part c.args.text.now c.word_in-third.result.start (c.word_in-third.result.end - c.word_in-third.result.start)) ≡ false = word_unlike _ _ _ c.as_slice-3.ensures c.if-ne-3.ensures in
    sym (left_test c.word_in-first.ensures c.word_in-second.ensures c.word_in-third.ensures c.word_in-fourth.ensures ∙ rw (must, be, left))

pub returns : goal.returns
returns c =
    let must : is "must" (part c.args.text.now c.word_in-first.result.start (c.word_in-first.result.end - c.word_in-first.result.start)) ≡ true = word_unlike _ _ _ c.as_slice.ensures c.if-ne.ensures in
    let be : is "be" (part c.args.text.now c.word_in-second.result.start (c.word_in-second.result.end - c.word_in-second.result.start)) ≡ true = word_unlike _ _ _ c.as_slice-2.ensures c.if-ne-2.ensures in
    let left : is "left" (part c.args.text.now c.word_in-third.result.start (c.word_in-third.result.end - c.word_in-third.result.start)) ≡ true = word_unlike _ _ _ c.as_slice-3.ensures c.if-ne-3.ensures in
    none_left c.word_in-fourth.result.start c.word_in-fourth.result.end ∙ sym (left_test c.word_in-first.ensures c.word_in-second.ensures c.word_in-third.ensures c.word_in-fourth.ensures ∙ rw (must, be, left))
