-- The location is stored, and the clock values behind it.
use Rattle.std.proofs.Common.{◌≡◌, List, [], ◌∷◌, ℕ, suc, ◌-◌, set, drop, length, arith}
use Rattle.std.proofs.Math.ListN.{drop_of_length-le}
use mathlib.Core.List.{append-nil}
use borrow.Rule.Slice.PartMut.{put_mid}
use Rattle.stepping.proofs.five.put_state.Goals as goal

put : (s cs : List ℕ) (location : ℕ) → length s ≡ 5 → put_mid 1 (length (set s 0 location) - 1) (set s 0 location) cs ≡ location ∷ cs
put [] cs location e = absurd (omega arith)
put (x ∷ s) cs location e =
    let size : suc (length s) - 1 ≡ length s = omega arith in
    let none : drop (length s) s ≡ [] = drop_of_length-le s (omega arith) in
    rw size (rw (none, append-nil))

pub returns : goal.returns
returns c = rw c.copy_from_slice.ensures.after (put c.args.state.now c.args.next.clocks c.args.next.location c.requires)
