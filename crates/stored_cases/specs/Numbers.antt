-- Numbers as they are read from a cursor on, the high byte first. Past the end stands 0, and the cursor is lost.
use Rattle.std.specs.Prelude.{true, cond, List, ℕ, ◌+◌, ◌*◌, ltb, length, get_or}
use Rattle.stored_cases.specs.declared.numbers.Cursor.{Cursor}
use Rattle.stored_cases.specs.declared.numbers.Byte.{Byte}
use Rattle.stored_cases.specs.declared.numbers.Pair.{Pair}
use Rattle.stored_cases.specs.declared.numbers.Word.{Word}
use Rattle.stored_cases.specs.declared.numbers.Long.{Long}

-- The cursor at the same position, lost.
abbrev pub lost : Cursor → Cursor
lost c = record { at = c.at; lost = true }

module _ (f : List ℕ) where
  -- The byte at the cursor, and the cursor after it.
  unfoldable pub byte_from : Cursor → Byte
  byte_from c =
      cond (ltb c.at (length f))
      (record { value = get_or f c.at 0; next = record { at = c.at + 1; lost = c.lost } })
      (record { value = 0; next = lost c })

  -- The number in the next two bytes, and the cursor after them.
  unfoldable pub pair_from : Cursor → Pair
  pair_from c = let h = byte_from c in let l = byte_from h.next in record { value = h.value * 256 + l.value; next = l.next }

  -- The number in the next four bytes, and the cursor after them.
  unfoldable pub word_from : Cursor → Word
  word_from c = let h = pair_from c in let l = pair_from h.next in record { value = h.value * 65536 + l.value; next = l.next }

  -- The number in the next eight bytes, and the cursor after them.
  unfoldable pub long_from : Cursor → Long
  long_from c = let h = word_from c in let l = word_from h.next in record { value = h.value * 4294967296 + l.value; next = l.next }
