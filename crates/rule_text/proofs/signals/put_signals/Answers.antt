use Rattle.std.proofs.Common.{◌≡◌, ◌+◌, ◌≤◌, ◌<◌, ◌++◌, ◌/◌, List, ℕ, [], refl, arith, length, get_or, drop, drop-cons, add-one}
use Rattle.std.proofs.lemmas.List.{drop_all}
use Rattle.texts.specs.Under.{under_start, under_on, under_all}
use Rattle.wording.specs.Writer.{signal_words}
use Rattle.rule_text.specs.Trail.{trailing, trailing_both, one_signal, trail_short}
use Rattle.rule_text.proofs.signals.put_signals.Goals as goal

-- One signal more.
signals_turn :
    (i : ℕ) (tags : List ℕ) (care value : ℕ) → i < length tags →
    trailing (signal_words (drop i tags) care value)
    ≡ trailing (one_signal (get_or tags i 0) care value) ++ trailing (signal_words (drop (i + 1) tags) (care / 2) (value / 2))
unfolding signal_words
signals_turn i tags care value h = rw (add-one, drop-cons tags i 0) (trailing_both _ _)

-- After the last signal nothing is left.
signals_end : (i : ℕ) (tags : List ℕ) (care value : ℕ) → i ≡ length tags → trailing (signal_words (drop i tags) care value) ≡ []
unfolding signal_words trailing
signals_end i tags care value h = let all : length tags ≤ i = omega arith in rw drop_all refl

pub loop-tag-init : goal.loop-tag-init
loop-tag-init c = record { short = omega arith; under = under_start _ _ _ }

pub loop-tag-preserved : goal.loop-tag-preserved
loop-tag-preserved c =
    let l = c.loop-tag in
    let tags = c.args.tags.now in
    let short = trail_short (get_or tags l.tag-index 0) l.c l.v in
    let turn = signals_turn l.tag-index tags l.c l.v (omega arith) in
    let put = c.put_signal-next in
    record {
      short = omega (arith, put.ensures.next);
      under = under_on (omega arith) l.invariant.under turn put.ensures put.auto.text;
    }

pub returns : goal.returns
returns c =
    let l = c.loop-tag in (under_all l.invariant.under (signals_end l.tag-index c.args.tags.now l.c l.v (omega arith)), omega arith)
