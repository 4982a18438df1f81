-- `cleaning::find` meets its contract, by those of the four that it calls.
use mathlib.Core.Path.{◌∙◌}
use native.Mathlib.Omega.{arith}
use Rattle.policy.specs.File.{policy_of}
use Rattle.stepping.specs.Laid.{laid_well}
use Rattle.trimming.specs.Located.{laid_start}
use Rattle.usage.proofs.FlagLaws.{laid_sized, sized_all, enters_entered}
use Rattle.cleaning.proofs.find.Statement.{statement}
use Rattle.cleaning.proofs.find.Tie as tie

-- Earlier places in the code.
abbrev start : tie.After-plan → tie.Start
start c = c.before.before.before.before.before.before

abbrev planned : tie.After-reached → tie.After-plan
planned c = c.before.before.before.before

abbrev reached : tie.After-use_rules → tie.After-reached
reached c = c.before.before.before.before

div-size : tie.Need-nonzero_div-size
div-size c = laid_start c.requires.0

plan-requires : tie.Need-plan-requires
plan-requires c κs = (c.requires.0, c.requires.2)

reached-requires : tie.Need-reached-requires
reached-requires c κs =
    let s = start c.before.before.before in
    let w = c.plan.ensures in
    (s.requires.0, s.requires.1, w.1)

use-rules-requires : tie.Need-use_rules-requires
use-rules-requires c κs =
    let s = start (planned c.before.before.before) in
    let w = (planned c.before.before.before).plan.ensures in
    let r = c.reached.ensures in
    ((s.requires.0, r.0 ∙ s.requires.1, r.1.reaches, laid_sized s.requires.0), (w.0 ∙ s.requires.2, w.1))

enter-requires : tie.Need-enter-requires
enter-requires c κs =
    let r = reached c.before.before.before in
    let s = start (planned r) in
    let z = laid_sized s.requires.0 in
    let e = r.reached.ensures.0 in
    (z.some, omega (arith, sized_all s.requires.0 z, e, s.requires.1), omega (arith, (laid_well s.requires.0).states, e, s.requires.1))

same_length : tie.Need-shape_of-marks
same_length c = c.enter.ensures.same ∙ (reached c.before.before.before.before.before.before).reached.ensures.0

same-length-2 : tie.Need-shape_of-rules
same-length-2 c = c.use_rules.ensures.0 ∙ (planned (reached c.before.before.before.before.before.before)).plan.ensures.0

returns : tie.Need-returns
returns c =
    let s = start (planned (reached c.before.before.before.before.before.before)) in
    let r = (reached c.before.before.before.before.before.before).reached.ensures in (
      (same_length c, enters_entered (policy_of s.args.layout.reading s.args.file.now) (laid_well s.requires.0) r.1.reaches (laid_sized s.requires.0) c.enter.ensures),
      (same-length-2 c, c.use_rules.ensures.1),
    )

pub find_spec : {M : Type 1} → statement M
find_spec = tie.close (tie.spec div-size plan-requires reached-requires use-rules-requires enter-requires same_length same-length-2 returns)
