-- `sentences::asked::put_asked` meets its contract: the tags and the rule's bytes are taken out of the file.
use mathlib.Core.Path.{sym, subst, ap}
use mathlib.Core.List.{List}
use Prim.Native.Nat.{ℕ, ◌+◌, ◌*◌, ◌≤◌}
use native.Mathlib.Omega.{arith}
use lib.ListN.{length}
use borrow.Author.Rules.{rules}
use Rattle.policy.specs.File.{byte_at}
use Rattle.stepping.specs.Laid.{laid_limits}
use Rattle.sentences.specs.Named.{tags_fit, rule_fits, rule_cares, rule_taken, rule_long, asks_taken}
use Rattle.sentences.proofs.asked.put_asked.Statement.{statement}
use Rattle.sentences.proofs.asked.put_asked.Tie as tie

-- Earlier places in the code.
abbrev start : tie.After-struct_known-4-1 → tie.Start
start c = c.before.before.before.before.before.before

add-inputs-end : tie.Need-overflow_add-inputs_end
add-inputs-end c = omega (arith, laid_limits c.requires.0.0)

add-outputs-start : tie.Need-overflow_add-outputs_start
add-outputs-start c = omega (arith, laid_limits c.requires.0.0)

add-outputs-end : tie.Need-overflow_add-outputs_end
add-outputs-end c = omega (arith, laid_limits c.requires.0.0)

mul-size : tie.Need-overflow_mul-size
mul-size c = omega (arith, laid_limits c.requires.0.0)

add-size : tie.Need-overflow_add-size
add-size c = omega (arith, laid_limits c.requires.0.0)

mul-rule-start : tie.Need-overflow_mul-rule_start
mul-rule-start c = omega (arith, laid_limits c.requires.0.0, rule_fits c.requires.0.0 c.args.i c.requires.0.1)

add-rule-start : tie.Need-overflow_add-rule_start
add-rule-start c = let s = start c in omega (arith, laid_limits s.requires.0.0, rule_fits s.requires.0.0 s.args.i s.requires.0.1)

add-rule-end : tie.Need-overflow_add-rule_end
add-rule-end c = let s = start c in omega (arith, laid_limits s.requires.0.0, rule_fits s.requires.0.0 s.args.i s.requires.0.1)

part-put-asks-end : tie.Need-slice_bounds-put_asks-end
part-put-asks-end c = let s = start c.before in omega (arith, tags_fit s.requires.0.0)

part-put-asks-end-2 : tie.Need-slice_bounds-put_asks-end-2
part-put-asks-end-2 c = let s = start c.before.before in omega (arith, tags_fit s.requires.0.0)

part-put-asks-end-3 : tie.Need-slice_bounds-put_asks-end-3
part-put-asks-end-3 c = let s = start c.before.before.before in omega (arith, rule_fits s.requires.0.0 s.args.i s.requires.0.1)

put-asks-requires : tie.Need-put_asks-requires
put-asks-requires c κs =
    let s = start c.before.before.before.before in
    let k = s.requires.0.0 in
    let i = s.args.i in
    let h = s.requires.0.1 in
    let r = sym (rule_taken k i h) in (
      (
        omega (arith, laid_limits k),
        subst (λ (z : List ℕ). 7 + 4 * s.args.layout.clocks ≤ length z) r (omega (arith, rule_long k i h)),
        subst (λ (z : List ℕ). byte_at z 2 ≤ byte_at z 1) r (rule_cares k i h).0,
        subst (λ (z : List ℕ). byte_at z 4 ≤ byte_at z 3) r (rule_cares k i h).1,
      ),
      omega (arith, ap length (asks_taken k i h)),
    )

returns : tie.Need-returns
returns c =
    let s = start c.before.before.before.before.before.before.before in
    rw (← asks_taken s.requires.0.0 s.args.i s.requires.0.1) c.put_asks.ensures

pub put_asked_spec : {M : Type 1} → statement M
put_asked_spec = tie.close (tie.spec add-inputs-end add-outputs-start add-outputs-end mul-size add-size mul-rule-start add-rule-start add-rule-end (λ c. search rules) (λ c. search rules) part-put-asks-end (λ c. search rules) (λ c. search rules) part-put-asks-end-2 (λ c. search rules) (λ c. search rules) part-put-asks-end-3 put-asks-requires (λ c. search rules) returns)
