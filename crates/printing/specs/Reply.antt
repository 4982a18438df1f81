-- What a program promises that writes a text: the whole text, its length, and what stands past it. One answer alone meets it.
use Rattle.std.specs.Prelude.{◌≡◌, List, ℕ, ◌≤◌, length, take}
use Rattle.std.proofs.Common.{sym, zero-le, arith, length-take-le}
use Rattle.texts.specs.Wrote.{Wrote, wrote_one}
use Rattle.texts.specs.WroteLaws.{wrote_front, wrote_within}

-- The bytes stand at the front of the text, and r is their number. What stood after them stays. The last two follow: they are what the loan of the
-- first r bytes asks.
pub record Replied (before bytes : List ℕ) (r : ℕ) (after : List ℕ) : Type 0 where
  pub wrote : Wrote before 0 bytes r after
  pub within : r ≤ length after
  pub counted : r ≡ length (take r after)

-- Bytes that were written from the front of a text that keeps its length are a reply.
pub replied : {before bytes after : List ℕ} {r : ℕ} → Wrote before 0 bytes r after → length after ≡ length before → Replied before bytes r after
replied {after = after} {r = r} w e =
    let h : r ≤ length after = omega (arith, wrote_within zero-le w e) in record { wrote = w; within = h; counted = sym (length-take-le r after h) }

-- The first r bytes are those, and one r and one text alone are the reply.
pub replied_front : {before bytes after : List ℕ} {r : ℕ} → Replied before bytes r after → take r after ≡ bytes
replied_front k = wrote_front zero-le k.wrote

-- One number and one later text alone are the reply.
pub replied_one : {before bytes after also : List ℕ} {r q : ℕ} → Replied before bytes r after → Replied before bytes q also → (r ≡ q) × (after ≡ also)
replied_one k l = wrote_one k.wrote l.wrote
