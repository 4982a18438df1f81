-- `cleaning::write` meets its contract: neither slice is touched before both lengths are known.
use mathlib.Core.Path.{ap, ◌∙◌}
use mathlib.Core.List.{List}
use Prim.Native.Nat.{ℕ}
use native.Mathlib.Omega.{arith}
use lib.ListN.{length}
use Rattle.laying.specs.Laying.{laid_length}
use Rattle.usage.specs.Code.{cleaned_by, struck_by}
use Rattle.cleaning.proofs.PromiseLaws.{writes_first, writes_second, writes_both}
use Rattle.cleaning.proofs.write.Statement.{statement}
use Rattle.cleaning.proofs.write.Tie as tie

-- Earlier places in the code.
abbrev start : tie.After-policy_length-cleaned → tie.Start
start c = c.before.before.before.before.before.before.before

abbrev sized : tie.After-list_length-struck → tie.After-policy_length-cleaned
sized c = c.before.before.before.before

abbrev measured : tie.After-lay_policy → tie.After-list_length-struck
measured c = c.before.before.before.before.before.before

abbrev laid : tie.After-lay_list → tie.After-lay_policy
laid c = c.before.before.before.before

-- What is to be written.
module _ (s : tie.Start) where
  abbrev bytes : List ℕ
  bytes = cleaned_by s.args.file.now s.args.layout s.args.entered.now s.args.used.now

  abbrev entries : List ℕ
  entries = struck_by s.args.file.now s.args.layout s.args.entered.now s.args.used.now

policy-length-requires : tie.Need-policy_length-cleaned-requires
policy-length-requires c κs = c.requires

list-length-requires : tie.Need-list_length-struck-requires
list-length-requires c κs = (start c.before.before.before).requires

same_length : tie.Need-shape_of-out-then-out-cleaned
same_length c = ap length (sized c.before.before.before).policy_length-cleaned.ensures.1

same-length-2 : tie.Need-shape_of-list-then-out-cleaned
same-length-2 c = ap length c.list_length-struck.ensures.1

returns : tie.Need-returns-then-out-cleaned
returns c =
    let p = c.policy_length-cleaned.ensures in
    let q = c.list_length-struck.ensures in
    rw (p.1, q.1) (writes_first (bytes c.before.before.before.before.before.before.before.before.before.before.before.before.before.before) (entries c.before.before.before.before.before.before.before.before.before.before.before.before.before.before) c.args.out.now c.args.list.now (omega (arith, c.if-out-cleaned.true, ap length p.1, p.0)))

lay-policy-requires : tie.Need-lay_policy-requires
lay-policy-requires c κs = (start (sized c.before.before.before.before.before)).requires

lay-list-requires : tie.Need-lay_list-requires
lay-list-requires c κs = (start (sized (measured c.before.before.before))).requires

same-length-5 : tie.Need-shape_of-out
same-length-5 c = laid_length (laid c.before.before).lay_policy.ensures ∙ ap length (sized (measured (laid c.before.before))).policy_length-cleaned.ensures.1

same-length-6 : tie.Need-shape_of-list
same-length-6 c = laid_length c.lay_list.ensures ∙ ap length (measured (laid c.before.before)).list_length-struck.ensures.1

returns-3 : tie.Need-returns
returns-3 c =
    let p = c.policy_length-cleaned.ensures in
    let q = c.list_length-struck.ensures in
    writes_both (bytes c.before.before.before.before.before.before.before.before.before.before.before.before.before.before.before.before.before.before.before.before.before.before.before) (entries c.before.before.before.before.before.before.before.before.before.before.before.before.before.before.before.before.before.before.before.before.before.before.before) c.args.out.now c.args.list.now (omega (arith, c.if-out-cleaned.false, ap length p.1, p.0)) (omega (arith, ap length q.1, q.0))
    p.0 q.0 (rw p.1 at c.lay_policy.ensures) (rw q.1 at c.lay_list.ensures)

pub write_spec : {M : Type 1} → statement M
write_spec = tie.close (tie.spec policy-length-requires list-length-requires same_length same-length-2 returns (λ c. ap length (sized c.before.before.before.before).policy_length-cleaned.ensures.1) (λ c. ap length c.list_length-struck.ensures.1) (λ c. let p = c.policy_length-cleaned.ensures in let q = c.list_length-struck.ensures in rw (p.1, q.1) (writes_second (bytes c.before.before.before.before.before.before.before.before.before.before.before.before.before.before.before) (entries c.before.before.before.before.before.before.before.before.before.before.before.before.before.before.before) c.args.out.now c.args.list.now (omega (arith, c.if-out-cleaned.false, ap length p.1, p.0)) (omega (arith, ap length q.1, q.0)))) lay-policy-requires lay-list-requires same-length-5 same-length-6 returns-3)
