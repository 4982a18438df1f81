-- `cleaning::rules::lay_policy` meets its contract: the parts are laid one after the other.
use Prim.Native.Nat.{ℕ, ◌-◌, ◌≤◌, ◌<◌}
use native.Mathlib.Omega.{arith}
use borrow.Author.Rules.{rules}
use Rattle.policy.specs.File.{byte_at}
use Rattle.stepping.specs.Laid.{laid_limits}
use Rattle.laying.specs.Laying.{laid_more, laid_as, bytes_length}
use Rattle.cleaning.proofs.LayLaws.{flags_few, places_at, head_few, file_laid}
use Rattle.cleaning.proofs.rules.lay_policy.Statement.{statement}
use Rattle.cleaning.proofs.rules.lay_policy.Tie as tie

-- Earlier places in the code.
abbrev start : tie.After-rank-rules → tie.Start
start c = c.before.before.before.before.before.before.before.before

abbrev ranked : tie.After-copy-count → tie.After-rank-rules
ranked c = c.before.before

abbrev copied : tie.After-put-left → tie.After-copy-count
copied c = c.before.before.before.before

abbrev put_count : tie.After-lay_left-counted → tie.After-put-left
put_count c = c.before.before.before.before

abbrev laid-left : tie.After-put_pair-first → tie.After-lay_left-counted
laid-left c = c.before.before.before.before

sub-locations : tie.Need-overflow_sub-locations
sub-locations c = omega (arith, (places_at c.requires).1)

sub-locations-2 : tie.Need-overflow_sub-locations-2
sub-locations-2 c = omega (arith, (places_at c.requires).1)

rank-requires : tie.Need-rank-places-requires
rank-requires c κs = (omega arith, omega (arith, (flags_few c.requires).0))

rank-requires-2 : tie.Need-rank-rules-requires
rank-requires-2 c κs = (omega arith, (flags_few c.requires).1)

copy-requires : tie.Need-copy-count-requires
copy-requires c κs =
    let k = (start c.before).requires in
    (omega (arith, laid_limits k.laid), omega (arith, head_few k), omega arith)

-- Where the locations' count stands.
begins : (c : tie.After-copy-count) → c.copy-count.result ≤ 19
begins c =
    let s = start (ranked c) in
    omega (arith, c.copy-count.ensures.ends, bytes_length s.args.file.now 0 (s.args.layout.rules_start - 3 - s.args.layout.locations), head_few s.requires)

put-requires : tie.Need-put-left-requires
put-requires c κs =
    let s = start (ranked c.before.before.before) in
    (omega (arith, (ranked c.before.before.before).rank-places.ensures.1, (flags_few s.requires).0), omega (arith, begins c.before.before.before))

add-lay-left : tie.Need-overflow_add-locations
add-lay-left c = omega (arith, head_few (start (ranked (copied c.before.before))).requires)

lay-left-requires : tie.Need-lay_left-counted-requires
lay-left-requires c κs =
    let k = (start (ranked (copied c.before.before.before))).requires in (
      omega (arith, (places_at k).1, laid_limits k.laid, k.locations),
      (flags_few k).0,
      omega (arith, head_few k),
      omega (arith, begins (copied c.before.before.before), c.put-left.ensures.ends),
    )

put-pair-requires : tie.Need-put_pair-first-requires
put-pair-requires c κs =
    let p = put_count c.before.before.before in
    let k = (start (ranked (copied p))).requires in (
      omega (arith, (ranked (copied p)).rank-rules.ensures.1, (flags_few k).1),
      omega (arith, c.lay_left-counted.ensures.1, begins (copied p), p.put-left.ensures.ends),
    )

lay-rules-requires : tie.Need-lay_rules-requires
lay-rules-requires c κs = let w = laid-left c.before.before.before in (
  (start (ranked (copied (put_count w)))).requires,
  omega (arith, c.put_pair-first.ensures.ends, w.lay_left-counted.ensures.1, begins (copied (put_count w)), (put_count w).put-left.ensures.ends),
)

returns : tie.Need-returns
returns c =
    let p = put_count (laid-left c.before.before.before.before.before.before) in
    let s = start (ranked (copied p)) in
    let bytes : (i : ℕ) → byte_at s.args.file.now i < 256 = λ i. omega (arith, (ranked (copied p)).shared_slice_known-1.given i) in
    laid_as (file_laid s.requires bytes (places_at s.requires).0 (ranked (copied p)).rank-places.ensures.0 (ranked (copied p)).rank-rules.ensures.0)
    (laid_more (laid_more (laid_more (laid_more (copied p).copy-count.ensures p.put-left.ensures) (laid-left c.before.before.before.before.before.before).lay_left-counted.ensures.0) c.put_pair-first.ensures) c.lay_rules.ensures)

pub lay_policy_spec : {M : Type 1} → statement M
lay_policy_spec = tie.close (tie.spec sub-locations sub-locations-2 rank-requires rank-requires-2 copy-requires put-requires add-lay-left lay-left-requires put-pair-requires lay-rules-requires (λ c. search rules) returns)
