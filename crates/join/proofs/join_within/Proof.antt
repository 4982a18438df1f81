-- `join::join_within` meets its contract: 13 and 14 leave the slice as it was, and otherwise the joined file is written.
use mathlib.Core.Path.{ap}
use Prim.Native.Nat.{ℕ, ◌<◌}
use native.Mathlib.Omega.{arith}
use lib.ListN.{length}
use Rattle.policy.specs.File.{byte_at}
use Rattle.join.proofs.SizeLaws.{sizes}
use Rattle.join.proofs.FileLaws.{few}
use Rattle.join.proofs.JoinLaws.{rules_counted, file_length, too_many, too_short, written}
use borrow.Author.Rules.{rules}
use Rattle.join.proofs.join_within.Statement.{statement}
use Rattle.join.proofs.join_within.Tie as tie

-- Earlier places in the code.
abbrev start : tie.After-rules_length-laid → tie.Start
start c = c.before.before.before.before.before

abbrev sized : tie.After-struct_known-2-1 → tie.After-rules_length-laid
sized c = c.before.before.before.before

add-rules : tie.Need-overflow_add-rules
add-rules c = omega (arith, few (start (sized c)).requires)

mul-rules : tie.Need-overflow_mul-rules
mul-rules c = omega (arith, few (start (sized c)).requires)

add-rules-2 : tie.Need-overflow_add-rules-2
add-rules-2 c = omega (arith, few (start (sized c)).requires)

returns : tie.Need-returns-then-rules-gt-RULES
returns c =
    let s = start (sized c.before) in
    let e = (sized c.before).rules_length-laid.ensures in
    rw e.2 (too_many s.requires s.args.out.now (rw (rules_counted s.requires e.0) at c.if-rules-gt-RULES.true))

counts-length-requires : tie.Need-counts_length-requires
counts-length-requires c κs = let p = (start (sized c.before)).requires in omega (arith, few p, sizes p.first)

add-if2 : tie.Need-overflow_add-counts_length
add-if2 c =
    let p = (start (sized c.before.before)).requires in
    omega (arith, few p, sizes p.first, c.counts_length.ensures, (sized c.before.before).rules_length-laid.ensures.1)

returns-2 : tie.Need-returns-then-out-counts_length
returns-2 c =
    let w = sized c.before.before.before in
    let s = start w in
    let out = s.args.out.now in
    let e = w.rules_length-laid.ensures in
    let a : (i : ℕ) → byte_at s.args.a.now i < 256 = λ i. omega (arith, w.shared_slice_known-1.given i) in
    let b : (i : ℕ) → byte_at s.args.b.now i < 256 = λ i. omega (arith, w.shared_slice_known-2-1.given i) in
    let h = rw (rules_counted s.requires e.0) at c.if-rules-gt-RULES.false in
    rw e.2 (too_short s.requires out h (omega (arith, ap length e.2, e.0, file_length s.requires a b out, c.counts_length.ensures, c.if-out-counts_length.true)))

write-joined-requires : tie.Need-write_joined-requires
write-joined-requires c κs =
    let w = sized c.before.before.before.before in
    let s = start w in
    let e = w.rules_length-laid.ensures in
    (s.requires, (rules_counted s.requires e.0, c.if-rules-gt-RULES.false, omega (arith, e.0, c.counts_length.ensures, c.if-out-counts_length.false)))

returns-3 : tie.Need-returns
returns-3 c =
    let o = sized c.before.before.before.before.before.before.before in
    let s = start o in
    let out = s.args.out.now in
    let e = o.rules_length-laid.ensures in
    let a : (i : ℕ) → byte_at s.args.a.now i < 256 = λ i. omega (arith, o.shared_slice_known-1.given i) in
    let b : (i : ℕ) → byte_at s.args.b.now i < 256 = λ i. omega (arith, o.shared_slice_known-2-1.given i) in
    let h = rw (rules_counted s.requires e.0) at c.if-rules-gt-RULES.false in
    let w = c.write_joined.ensures in
    written s.requires out h
    (omega (arith, ap length e.2, e.0, file_length s.requires a b out, c.counts_length.ensures, c.if-out-counts_length.false)) (rw e.2 at w.0)
    (rw e.2 at w.1)

pub join_within_spec : {M : Type 1} → statement M
join_within_spec = tie.close (tie.spec (λ c κs. search rules) add-rules mul-rules add-rules-2 (λ c. omega arith) (λ c. search rules) returns counts-length-requires add-if2 (λ c. search rules) returns-2 write-joined-requires (λ c. search rules) returns-3)
