-- `join::counts::lay_clocks` meets its contract: the parts are laid one after the other.
use Prim.Native.Nat.{◌+◌, ◌*◌}
use native.Mathlib.Omega.{arith}
use borrow.Author.Rules.{rules}
use Rattle.laying.specs.Laying.{laid_more, bytes_length}
use Rattle.join.proofs.counts.lay_clocks.Statement.{statement}
use Rattle.join.proofs.counts.lay_clocks.Tie as tie

-- Earlier places in the code.
abbrev start : tie.After-put-ceilings → tie.Start
start c = c.before.before.before.before.before

abbrev put_count : tie.After-copy-others → tie.After-put-ceilings
put_count c = c.before.before.before.before

copy-requires-2 : tie.Need-copy-requires
copy-requires-2 c κs =
    let a = (start (put_count c.before.before.before)).args in
    (omega arith, omega arith, omega (arith, c.copy-others.ensures.ends, bytes_length a.a.now (a.p + 1) (2 * a.firsts)))

returns : tie.Need-returns
returns c =
    let s = start (put_count c.before.before.before.before.before.before) in
    let a = s.args in
    let h = (put_count c.before.before.before.before.before.before).put-ceilings.ensures in
    let f = c.copy-others.ensures in
    let g = c.copy.ensures in (
      laid_more (laid_more h f) g,
      omega (
        arith,
        s.requires,
        h.ends,
        f.ends,
        g.ends,
        bytes_length a.a.now (a.p + 1) (2 * a.firsts),
        bytes_length a.b.now (a.q + 1) (2 * a.seconds),
      ),
    )

pub lay_clocks_spec : {M : Type 1} → statement M
lay_clocks_spec = tie.close (tie.spec (λ c. search rules) (λ c κs. search rules) (λ c. search rules) (λ c. search rules) (λ c κs. search rules) (λ c. search rules) (λ c. search rules) copy-requires-2 (λ c. search rules) returns)
