-- `join::counts::lay_counts` meets its contract: the parts are laid one after the other.
use native.Mathlib.Omega.{arith}
use borrow.Author.Rules.{rules}
use Rattle.join.specs.JoinBytes.{clocks_for}
use Rattle.laying.specs.Laying.{laid_more, bytes_length}
use Rattle.join.proofs.SizeLaws.{sizes}
use Rattle.join.proofs.FileLaws.{few}
use Rattle.join.proofs.counts.lay_counts.Statement.{statement}
use Rattle.join.proofs.counts.lay_counts.Tie as tie

-- Earlier places in the code.
abbrev start : tie.After-copy-clocks → tie.Start
start c = c.before.before.before.before.before.before.before.before.before

abbrev copied : tie.After-lay_clocks-places → tie.After-copy-clocks
copied c = c.before.before.before.before

add-p : tie.Need-overflow_add-p
add-p c = omega (arith, sizes c.requires.0.first)

add-p-2 : tie.Need-overflow_add-p-2
add-p-2 c = omega (arith, sizes c.requires.0.first)

add-q : tie.Need-overflow_add-q
add-q c = omega (arith, sizes c.requires.0.second)

add-q-2 : tie.Need-overflow_add-q-2
add-q-2 c = omega (arith, sizes c.requires.0.second)

copy-requires : tie.Need-copy-clocks-requires
copy-requires c κs = omega (arith, sizes c.requires.0.first)

lay-clocks-requires : tie.Need-lay_clocks-places-requires
lay-clocks-requires c κs =
    let s = start c.before.before.before in
    let r = s.requires.0 in
    omega (
      arith,
      sizes r.first,
      sizes r.second,
      few r,
      c.copy-clocks.ensures.ends,
      bytes_length s.args.a.now 0 (clocks_for s.args.first),
    )

lay-places-requires : tie.Need-lay_places-requires
lay-places-requires c κs =
    let s = start (copied c.before.before.before) in (
      s.requires.0,
      s.requires.1,
      omega (
        arith,
        sizes s.requires.0.first,
        c.lay_clocks-places.ensures.1,
        (copied c.before.before.before).copy-clocks.ensures.ends,
        bytes_length s.args.a.now 0 (clocks_for s.args.first),
      ),
    )

returns : tie.Need-returns
returns c =
    laid_more (copied c.before.before.before.before.before.before).copy-clocks.ensures
    (laid_more c.lay_clocks-places.ensures.0 c.lay_places.ensures)

pub lay_counts_spec : {M : Type 1} → statement M
lay_counts_spec = tie.close (tie.spec add-p add-p-2 add-q add-q-2 copy-requires lay-clocks-requires lay-places-requires (λ c. search rules) returns)
