-- `join::write_joined` meets its contract: what is laid is the joined file.
use mathlib.Core.Path.{◌≡◌, ◌∙◌}
use Prim.Native.Nat.{ℕ, ◌-◌, ◌<◌}
use native.Mathlib.Omega.{arith}
use lib.ListN.{length}
use borrow.Rule.Slice.PartMut.{same_len_mid}
use Rattle.policy.specs.File.{byte_at}
use Rattle.join.specs.JoinBytes.{counts_length}
use Rattle.laying.specs.Laying.{laid_length}
use Rattle.join.proofs.SizeLaws.{sizes}
use Rattle.join.proofs.FileLaws.{few, counts_long}
use Rattle.join.proofs.JoinLaws.{file_length, file_laid}
use Rattle.join.proofs.write_joined.Statement.{statement}
use Rattle.join.proofs.write_joined.Tie as tie

-- Earlier places in the code.
abbrev start : tie.After-lay_counts-start → tie.Start
start c = c.before.before.before.before.before

abbrev counted : tie.After-lay_joined → tie.After-lay_counts-start
counted c = c.before.before.before.before

-- the counts end within the slice
begins : (c : tie.After-lay_counts-start) →
    let s = start c in
    (c.lay_counts-start.result ≡ counts_length s.args.first s.args.second) × (length c.lay_counts-start.new.out ≡ length s.args.out.now)
begins c =
    let s = start c in
    let e = c.lay_counts-start.ensures in (omega (arith, e.ends, counts_long s.requires.0 s.args.rules), laid_length e)

lay-counts-requires : tie.Need-lay_counts-start-requires
lay-counts-requires c κs = let p = c.requires in (p.0, p.1.1)

sub-lay-joined : tie.Need-slice_bounds-lay_joined-count
sub-lay-joined c = omega (arith, begins c.before.before)

part-lay-joined-start : tie.Need-slice_bounds-lay_joined-start
part-lay-joined-start c = omega (arith, begins c.before.before)

part-lay-joined-end : tie.Need-slice_bounds-lay_joined-end
part-lay-joined-end c = omega (arith, begins c.before.before)

lay-joined-requires : tie.Need-lay_joined-requires
lay-joined-requires c κs = (start c.before.before.before).requires.0

add-result : tie.Need-overflow_add-result
add-result c =
    let d = counted c.before.before in
    let s = start d in
    omega (arith, begins d, c.lay_joined.ensures.1, few s.requires.0, sizes s.requires.0.first)

same_length : tie.Need-shape_of-out
same_length c =
    let d = counted c.before.before in
    let m = d.lay_counts-start.new.out in
    let n = d.lay_counts-start.result in
    let w = c.lay_joined in same_len_mid {X = ℕ} n (length m - n) m w.new.out w.auto.out ∙ (begins d).1

returns : tie.Need-returns
returns c =
    let d = counted c.before.before in
    let s = start d in
    let out = s.args.out.now in
    let a : (i : ℕ) → byte_at s.args.a.now i < 256 = λ i. omega (arith, d.shared_slice_known-1.given i) in
    let b : (i : ℕ) → byte_at s.args.b.now i < 256 = λ i. omega (arith, d.shared_slice_known-2-1.given i) in (
      omega (arith, (begins d).0, c.lay_joined.ensures.0.ends, file_length s.requires.0 a b out),
      file_laid s.requires.0 a b out s.requires.1.2 s.requires.1.0 d.lay_counts-start.ensures c.lay_joined.ensures.0,
    )

pub write_joined_spec : {M : Type 1} → statement M
write_joined_spec = tie.close (tie.spec lay-counts-requires sub-lay-joined part-lay-joined-start part-lay-joined-end lay-joined-requires add-result same_length returns)
