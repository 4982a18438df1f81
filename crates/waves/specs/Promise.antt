-- The whole promise of the writer and of the reader. That one answer alone meets each, and that each undoes the other, is in specs/Laws.antt.
use Rattle.std.specs.Prelude.{◌≡◌, List, ℕ}
use Rattle.streams.specs.Answer.{Answer}
use Rattle.drawing.specs.Entry.{write_of, written_out, Reads}

-- What the writer promises: its answer, and what the slice for the text holds then.
pub record WritePromise (file events before : List ℕ) (r : Answer ℕ) (after : List ℕ) : Type 0 where
  pub answers : r ≡ write_of file events before
  pub writes : after ≡ written_out file events before

-- What the reader promises: its answer, and what the slice for the events holds then.
pub record TakePromise (file text before : List ℕ) (r : Answer ℕ) (after : List ℕ) : Type 0 where
  pub reads : Reads file text before r after
