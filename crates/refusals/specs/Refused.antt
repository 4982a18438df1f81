-- The numbers of document 01's refusals, and what a result says in them.
use Rattle.std.specs.Prelude.{ℕ, Result, Ok, Err}
use Rattle.streams.specs.Answer.{Answer, refused, gives}
use Rattle.refusals.specs.declared.Refusal.{Refusal}

-- Document 01's number of a refusal.
abbrev pub number_of : Refusal → ℕ
number_of Refusal.CutShort = 1
number_of Refusal.BadCount = 2
number_of Refusal.BadTag = 3
number_of Refusal.BadCeiling = 4
number_of Refusal.BadLocation = 5
number_of Refusal.BadHead = 6
number_of Refusal.BadBounds = 7
number_of Refusal.LeftOver = 8
number_of Refusal.ManyStates = 9
number_of Refusal.FewMarks = 10
number_of Refusal.Hopeless = 11
number_of Refusal.OtherTags = 12
number_of Refusal.LargeJoin = 13
number_of Refusal.NoRoom = 14
number_of Refusal.BadEvent = 15
number_of Refusal.BadState = 16
number_of Refusal.NothingStands = 17
number_of Refusal.NoTick = 18
number_of Refusal.LongTime = 19
number_of Refusal.OtherMarks = 20
number_of Refusal.NoWave = 21
number_of Refusal.BadReading = 22
number_of Refusal.LittleWork = 23
number_of Refusal.NoBay = 24
number_of Refusal.BadBays = 25
number_of Refusal.NoMeter = 26
number_of Refusal.FullTotal = 27
number_of Refusal.OtherIndex = 28
number_of Refusal.ManyEvents = 29
number_of Refusal.BadForm = 30
number_of Refusal.BadName = 31
number_of Refusal.LargeNumber = 32
number_of Refusal.NoPlace = 33
number_of Refusal.BadOrder = 34
number_of Refusal.NoneSuch = 35

-- The number of the refusal that is given, or 0 for none.
abbrev pub refusal_in : {A : Type 0} → Result A Refusal → ℕ
refusal_in (Ok a) = 0
refusal_in (Err r) = number_of r

-- The answer of an entry.
abbrev pub told : {A : Type 0} → Result A Refusal → Answer A
told (Ok a) = gives a
told (Err r) = refused (number_of r)
