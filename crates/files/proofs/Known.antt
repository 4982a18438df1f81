-- What a reader gave in two reads, and where it stands.
use Rattle.std.proofs.Common.{◌≡◌, ℕ, ◌+◌, ◌≤◌, List, ◌++◌, None, Some, sym, ap, refl, ◌∙◌, arith, append_assoc, length, take, length-take-le, take-take}
use Rattle.std.proofs.Math.Seq.{take-append-add}
use Rattle.std.proofs.lemmas.Slice.{take-put_mid}
use Rattle.std.specs.Io.KnownBytes.{Consumes}
use Rattle.std.specs.Prelude.{Option}
use borrow.Rule.Slice.PartMut.{put_mid}

pub consumes_both : (a b c : Option (List ℕ)) (bs cs : List ℕ) → Consumes a b bs → Consumes b c cs → Consumes a c (bs ++ cs)
consumes_both None b c bs cs p q = tt
consumes_both (Some x) None c bs cs p q = absurd p
consumes_both (Some x) (Some y) None bs cs p q = absurd q
consumes_both (Some x) (Some y) (Some z) bs cs p q = p ∙ ap (λ l. bs ++ l) q ∙ sym (append_assoc bs cs z)

-- Behind the first a bytes stand the first m that were read into the rest.
pub front_and_read : (a k m : ℕ) (xs ys : List ℕ) → a ≤ length xs → m ≤ length ys → take a xs ++ take m ys ≡ take (a + m) (put_mid a k xs ys)
front_and_read a k m xs ys within fits =
    let long : a + m ≤ a + length ys = omega arith in
    let front = ap (λ n. take (n + m) (take a xs ++ ys)) (length-take-le a xs within) in
    sym (sym (take-take (a + m) (a + length ys) (put_mid a k xs ys) long) ∙ ap (take (a + m)) (take-put_mid a k xs ys (a + length ys) refl within) ∙ sym front ∙ take-append-add (take a xs) ys m)
