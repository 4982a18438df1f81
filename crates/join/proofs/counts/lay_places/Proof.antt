-- `join::counts::lay_places` meets its contract: the parts are laid one after the other.
use Prim.Native.Nat.{◌*◌}
use native.Mathlib.Omega.{arith}
use borrow.Author.Rules.{rules}
use Rattle.join.specs.Entry.{said}
use Rattle.join.specs.Left.{left_length}
use Rattle.laying.specs.Laying.{laid_more}
use Rattle.join.proofs.FileLaws.{few}
use Rattle.join.proofs.counts.lay_places.Statement.{statement}
use Rattle.join.proofs.counts.lay_places.Tie as tie

-- Earlier places in the code.
abbrev start : tie.After-put-left → tie.Start
start c = c.before.before.before.before.before.before.before

abbrev put_count : tie.After-lay_left-count → tie.After-put-left
put_count c = c.before.before.before.before

mul-put : tie.Need-overflow_mul-first
mul-put c = omega (arith, few c.requires.0)

put-requires : tie.Need-put-left-requires
put-requires c κs = omega (arith, few c.requires.0, c.requires.2)

lay-left-requires : tie.Need-lay_left-count-requires
lay-left-requires c κs =
    let s = start c.before.before.before in
    (s.requires.0, omega (arith, s.requires.2, c.put-left.ensures.ends))

put-pair-requires : tie.Need-put_pair-requires
put-pair-requires c κs =
    let s = start (put_count c.before.before.before) in
    let a = s.args in (
      omega (arith, s.requires.1),
      omega (
        arith,
        few s.requires.0,
        s.requires.2,
        (put_count c.before.before.before).put-left.ensures.ends,
        c.lay_left-count.ensures.ends,
        left_length (said a.a.now) (said a.b.now) (a.first.locations * a.second.locations),
      ),
    )

returns : tie.Need-returns
returns c =
    laid_more
    (laid_more (put_count c.before.before.before.before.before.before).put-left.ensures c.lay_left-count.ensures)
    c.put_pair.ensures

pub lay_places_spec : {M : Type 1} → statement M
lay_places_spec = tie.close (tie.spec mul-put put-requires lay-left-requires put-pair-requires (λ c. search rules) returns)
