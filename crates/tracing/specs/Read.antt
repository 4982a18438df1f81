-- What the functions that read a text say, by positions.
-- In order: the answers for a number, a time line, lines of values and an event; one digit or one line more, or none; the tests of a digit and of a
-- line, in the order of the code; a time line, test by test; the answers for lines, put together line by line.
use Rattle.std.specs.Prelude.{◌≡◌, Bool, true, false, cond, ◌&&◌, List, [], ◌∷◌, ℕ, zero, suc, ◌+◌, ◌-◌, ◌*◌, ◌≤◌, ◌<◌, leb, eqb, length, get_or, drop, Option, Some, None}
use Rattle.std.proofs.Common.{sym, ap, ◌∙◌, add-one, add-zero, arith, drop_of_length-le, length-drop, leb-true, le-leb, eq-eqb, ne_eqb}
use Rattle.std.proofs.Math.Bool.{and-false, and-eq-true_iff}
use Rattle.std.proofs.lemmas.Bool.{lt-leb}
use Rattle.std.proofs.Math.ListN.{get_or-eq_default}
use Rattle.std.proofs.Math.Seq.{drop-cons, drop-drop, get_or-drop}
use Rattle.drawing.specs.Times.{is_digit, goes_on, read_digits, Timed, untimed, timed_by, read_time}
use Rattle.drawing.specs.Values.{line_of, with_line, without_line, read_lines, lines_bound, line_there}
use Rattle.drawing.specs.Events.{read_event, few_values}
use Rattle.tracing.specs.declared.read.Number.{Number}
use Rattle.tracing.specs.declared.read.Time.{Time}
use Rattle.tracing.specs.declared.read.Lines.{Lines}

-- The position after what was read is within the text.
pub record Between (text : List ℕ) (at next : ℕ) : Type 0 where
  pub after : at ≤ next
  pub within : next ≤ length text

-- The answer for a number of which v is known and whose further digits stand from `at` on.
pub record NumberRead (text : List ℕ) (at v : ℕ) (r : Number) : Type 0 where
  pub value : r.value ≡ (read_digits v (drop at text)).value
  pub rest : drop r.next text ≡ (read_digits v (drop at text)).rest
  pub between : Between text at r.next

-- The time line that stands at the position `at`.
pub record TimeThere (text : List ℕ) (at : ℕ) (t : Time) : Type 0 where
  pub good : (read_time (drop at text)).good ≡ true
  pub time : t.time ≡ (read_time (drop at text)).time
  pub rest : drop t.next text ≡ (read_time (drop at text)).rest
  pub between : Between text (at + 1) t.next

-- The answer for a time line at the position `at`.
abbrev pub TimeRead : List ℕ → ℕ → Option Time → Type 0
TimeRead text at None = (read_time (drop at text)).good ≡ false
TimeRead text at (Some t) = TimeThere text at t

-- The answer for lines of the signals with these tags, from `at` on.
pub record LinesRead (text : List ℕ) (at : ℕ) (tags : List ℕ) (r : Lines) : Type 0 where
  pub shown : r.shown ≡ (read_lines tags (drop at text)).shown
  pub values : r.values ≡ (read_lines tags (drop at text)).values
  pub rest : drop r.next text ≡ (read_lines tags (drop at text)).rest
  pub between : Between text at r.next

-- The answer for the lines of an event, from `at` on.
pub record EventRead (inputs outputs text : List ℕ) (at : ℕ) (r : Lines) : Type 0 where
  pub shown : r.shown ≡ (read_event inputs outputs (drop at text)).shown
  pub values : r.values ≡ (read_event inputs outputs (drop at text)).values
  pub rest : drop r.next text ≡ (read_event inputs outputs (drop at text)).rest
  pub between : Between text at r.next

-- One digit more, or none.
module _ (text : List ℕ) (at v : ℕ) where
  -- A digit that belongs to the number is taken into it.
  pub digits_on : at < length text → goes_on v (get_or text at 0) ≡ true →
      read_digits v (drop at text) ≡ read_digits (v * 10 + (get_or text at 0 - 48)) (drop (at + 1) text)
  unfolding read_digits
  digits_on h e = rw (add-one, drop-cons text at 0 h, e)

  -- A byte that does not belong to the number ends it.
  pub digits_stop : at < length text → goes_on v (get_or text at 0) ≡ false → read_digits v (drop at text) ≡ record { value = v; rest = drop at text }
  unfolding read_digits
  digits_stop h e = rw (drop-cons text at 0 h, e)

  -- The end of the text ends the number.
  pub digits_end : length text ≤ at → read_digits v (drop at text) ≡ record { value = v; rest = drop at text }
  unfolding read_digits
  digits_end h = rw (drop_of_length-le text h)

-- The bytes from a position on.
pub byte_from : (text : List ℕ) (at n : ℕ) → get_or (drop at text) n 0 ≡ get_or text (at + n) 0
byte_from text at n = get_or-drop at text n 0

-- One line more, or none.
module _ (text : List ℕ) (at : ℕ) (tags : List ℕ) (i : ℕ) (h : i < length tags) where
  -- The signal has a line: the next one is looked for after it.
  pub lines_on : line_of (get_or tags i 0) (drop at text) ≡ true →
      read_lines (drop i tags) (drop at text) ≡ with_line (get_or text at 0 - 48) (read_lines (drop (i + 1) tags) (drop (at + 3) text))
  unfolding read_lines
  lines_on e = rw (add-one, drop-cons tags i 0 h, e, drop-drop 3 at text, get_or-drop at text 0 0, add-zero)

  -- The signal has no line: that of the next one is looked for at the same position.
  pub lines_over : line_of (get_or tags i 0) (drop at text) ≡ false →
      read_lines (drop i tags) (drop at text) ≡ without_line (read_lines (drop (i + 1) tags) (drop at text))
  unfolding read_lines
  lines_over e = rw (add-one, drop-cons tags i 0 h, e)

-- After the last signal no line is read.
pub lines_end : (text : List ℕ) (at : ℕ) (tags : List ℕ) (i : ℕ) → length tags ≤ i →
    read_lines (drop i tags) (drop at text) ≡ record { shown = 0; values = 0; rest = drop at text }
unfolding read_lines
lines_end text at tags i h = rw (drop_of_length-le tags h)

-- The tests, in the order of the code.
module _ (v d : ℕ) where
  -- After a leading zero no digit belongs to the number.
  pub goes_low : v < 1 → goes_on v d ≡ false
  goes_low h = rw (lt-leb 1 v h)

  -- After a number above 16,384 no digit belongs to it.
  pub goes_high : 16384 < v → goes_on v d ≡ false
  goes_high h = rw (lt-leb v 16384 h, and-false (leb 1 v))

  -- A byte below `0` does not belong to a number.
  pub goes_below : d < 48 → goes_on v d ≡ false
  goes_below h = rw (lt-leb 48 d h, and-false (leb v 16384), and-false (leb 1 v))

  -- Else a byte belongs to the number if it is not above `9`.
  pub goes_last : 1 ≤ v → v ≤ 16384 → 48 ≤ d → goes_on v d ≡ leb d 57
  goes_last h l k = rw (le-leb 1 v h, le-leb v 16384 l, le-leb 48 d k)

module _ (text : List ℕ) (at tag : ℕ) where
  abbrev test_at : Bool
  test_at = leb 48 (get_or text at 0) && (leb (get_or text at 0) 49 && (eqb (get_or text (at + 1) 0) tag && eqb (get_or text (at + 2) 0) 10))

  line_by : line_of tag (drop at text) ≡ test_at
  line_by = rw (byte_from text at 0, byte_from text at 1, byte_from text at 2, add-zero)

  -- No line begins with a byte below `0`.
  pub line_low : get_or text at 0 < 48 → line_of tag (drop at text) ≡ false
  line_low h = line_by ∙ rw (lt-leb 48 (get_or text at 0) h)

  -- No line begins with a byte above `1`.
  pub line_high : 49 < get_or text at 0 → line_of tag (drop at text) ≡ false
  line_high h = line_by ∙ rw (lt-leb (get_or text at 0) 49 h, and-false (leb 48 (get_or text at 0)))

  -- A line with another tag is not the signal's.
  pub line_other : (get_or text (at + 1) 0 ≡ tag → ⊥) → line_of tag (drop at text) ≡ false
  line_other h = line_by ∙ rw (ne_eqb (get_or text (at + 1) 0) tag h, and-false (leb (get_or text at 0) 49), and-false (leb 48 (get_or text at 0)))

  -- Else it is the signal's line if a line feed ends it.
  pub line_last : 48 ≤ get_or text at 0 → get_or text at 0 ≤ 49 → get_or text (at + 1) 0 ≡ tag → line_of tag (drop at text) ≡ eqb (get_or text (at + 2) 0) 10
  line_last h l e = line_by ∙ rw (le-leb 48 (get_or text at 0) h, le-leb (get_or text at 0) 49 l, eq-eqb (get_or text (at + 1) 0) tag e)

-- Where a digit belongs to the number, the number is from 1 to 16,384 and the byte from `0` to `9`.
pub goes_true : (v d : ℕ) → goes_on v d ≡ true → (1 ≤ v) × (v ≤ 16384) × (48 ≤ d) × (d ≤ 57)
goes_true v d e =
    let a = (and-eq-true_iff (leb 1 v) _).0 e in
    let b = (and-eq-true_iff (leb v 16384) _).0 a.1 in
    let c = (and-eq-true_iff (leb 48 d) _).0 b.1 in
    (leb-true _ _ a.0, leb-true _ _ b.0, leb-true _ _ c.0, leb-true _ _ c.1)

inside : (text : List ℕ) (k : ℕ) → 0 < get_or text k 0 → k < length text
inside [] k h = absurd (omega arith)
inside (a ∷ text) zero h = omega arith
inside (a ∷ text) (suc k) h = omega (arith, inside text k h)

-- A time line, test by test.
module _ (text : List ℕ) (at : ℕ) where
  time_by : read_time (drop at text)
      ≡ cond (eqb (get_or text at 0) 35 && is_digit (get_or text (at + 1) 0)) (timed_by (read_digits (get_or text (at + 1) 0 - 48) (drop (at + 2) text))) untimed
  unfolding read_time
  time_by = rw (byte_from text at 0, byte_from text at 1, drop-drop 2 at text, add-zero)

  -- No time line begins with another byte than `#`.
  pub time_hash : (get_or text at 0 ≡ 35 → ⊥) → read_time (drop at text) ≡ untimed
  time_hash h = time_by ∙ rw (ne_eqb (get_or text at 0) 35 h)

  -- No time line has a byte below `0` after the `#`.
  pub time_low : get_or text (at + 1) 0 < 48 → read_time (drop at text) ≡ untimed
  time_low h = time_by ∙ rw (lt-leb 48 (get_or text (at + 1) 0) h, and-false (eqb (get_or text at 0) 35))

  -- No time line has a byte above `9` after the `#`.
  pub time_high : 57 < get_or text (at + 1) 0 → read_time (drop at text) ≡ untimed
  time_high h =
      time_by ∙ rw (lt-leb (get_or text (at + 1) 0) 57 h, and-false (leb 48 (get_or text (at + 1) 0)), and-false (eqb (get_or text at 0) 35))

  -- No time line stands where the text ends before the number.
  pub time_short : length text ≤ at + 1 → read_time (drop at text) ≡ untimed
  time_short h = time_low (rw (get_or-eq_default text 0 h) (omega arith))

  -- After `#` and a digit, the number from that digit on decides.
  pub time_number : get_or text at 0 ≡ 35 → 48 ≤ get_or text (at + 1) 0 → get_or text (at + 1) 0 ≤ 57 →
      read_time (drop at text) ≡ timed_by (read_digits (get_or text (at + 1) 0 - 48) (drop (at + 2) text))
  time_number e h l =
      time_by ∙ rw (eq-eqb (get_or text at 0) 35 e, le-leb 48 (get_or text (at + 1) 0) h, le-leb (get_or text (at + 1) 0) 57 l)

  -- Where no time line stands, the answer is that there is none.
  pub untimed_read : read_time (drop at text) ≡ untimed → TimeRead text at None
  untimed_read e = ap (λ (t : Timed). t.good) e

  -- From the number on.
  module _ (e : read_time (drop at text) ≡ timed_by (read_digits (get_or text (at + 1) 0 - 48) (drop (at + 2) text)))
      {n : Number} (r : NumberRead text (at + 2) (get_or text (at + 1) 0 - 48) n) where
    -- A number above 16,384 is not that of a time line.
    pub number_high : 16384 < n.value → read_time (drop at text) ≡ untimed
    number_high h = e ∙ rw (← r.value, lt-leb n.value 16384 h)

    -- A number that no line feed follows is not that of a time line.
    pub number_open : (get_or text n.next 0 ≡ 10 → ⊥) → read_time (drop at text) ≡ untimed
    number_open h =
        let q = byte_from text n.next 0 in
        e ∙ rw (← r.rest, q, add-zero, ne_eqb (get_or text n.next 0) 10 h, and-false (leb (read_digits (get_or text (at + 1) 0 - 48) (drop (at + 2) text)).value 16384))

    -- A number up to 16,384 that a line feed follows is the time.
    pub number_timed : n.value ≤ 16384 → get_or text n.next 0 ≡ 10 → TimeRead text at (Some (record { time = n.value; next = n.next + 1 }))
    number_timed h l =
        let q = byte_from text n.next 0 in
        let w : read_time (drop at text) ≡ record { good = true; time = n.value; rest = drop (n.next + 1) text } =
        e ∙ rw (← r.value, ← r.rest, q, add-zero, le-leb n.value 16384 h, eq-eqb (get_or text n.next 0) 10 l, drop-drop 1 n.next text) in
        let s = r.between in
        record {
          good = ap (λ (t : Timed). t.good) w;
          time = ap (λ (t : Timed). t.time) (sym w);
          rest = ap (λ (t : Timed). t.rest) (sym w);
          between = record { after = omega arith; within = omega (arith, inside text n.next (omega arith)) };
        }

-- A line that stands there ends within the text.
pub line_room : (text : List ℕ) (at tag : ℕ) → line_of tag (drop at text) ≡ true → (at + 3 ≤ length text) × (48 ≤ get_or text at 0) × (get_or text at 0 ≤ 49)
line_room text at tag e =
    let k = line_there tag (drop at text) e in
    let b = byte_from text at 0 in
    let z : get_or (drop at text) 0 0 ≡ get_or text at 0 = b ∙ rw add-zero in
    (omega (arith, ap length k.stands, length-drop at text), omega (arith, k.low), omega (arith, k.high))

-- A few lines are small numbers.
pub lines_small : (text : List ℕ) (at : ℕ) (tags : List ℕ) (i : ℕ) → length tags ≤ 4 → {m : Lines} → LinesRead text at (drop i tags) m →
    (m.shown < 16) × (m.values < 16)
lines_small text at tags i h {m} r =
    let b = lines_bound (drop i tags) (drop at text) in
    let f = few_values (drop i tags) (simp length-drop (omega arith)) in
    (omega (arith, r.shown), omega (arith, r.values))

-- One line more, or none, as it is read.
module _ (text : List ℕ) (at : ℕ) (tags : List ℕ) (i : ℕ) (h : i < length tags) where
  -- The signal has a line: its value goes before what is read of the later signals, from behind it.
  pub read_on : line_of (get_or tags i 0) (drop at text) ≡ true → {m r : Lines} → LinesRead text (at + 3) (drop (i + 1) tags) m →
      r ≡ record { shown = 1 + 2 * m.shown; values = get_or text at 0 - 48 + 2 * m.values; next = m.next } → LinesRead text at (drop i tags) r
  read_on e {m} k q =
      let l = lines_on text at tags i h e in
      record {
        shown = ap (λ (z : Lines). z.shown) q ∙ rw (l, k.shown);
        values = ap (λ (z : Lines). z.values) q ∙ rw (l, k.values);
        rest = ap (λ (z : Lines). drop z.next text) q ∙ rw l k.rest;
        between =
            let n = ap (λ (z : Lines). z.next) q in
            record { after = omega (arith, k.between.after); within = omega (arith, k.between.within) };
      }

  -- The signal has no line: what is read of the later signals begins at the same position.
  pub read_over : line_of (get_or tags i 0) (drop at text) ≡ false → {m r : Lines} → LinesRead text at (drop (i + 1) tags) m →
      r ≡ record { shown = 2 * m.shown; values = 2 * m.values; next = m.next } → LinesRead text at (drop i tags) r
  read_over e {m} k q =
      let l = lines_over text at tags i h e in
      record {
        shown = ap (λ (z : Lines). z.shown) q ∙ rw (l, k.shown);
        values = ap (λ (z : Lines). z.values) q ∙ rw (l, k.values);
        rest = ap (λ (z : Lines). drop z.next text) q ∙ rw l k.rest;
        between =
            let n = ap (λ (z : Lines). z.next) q in
            record { after = omega (arith, k.between.after); within = omega (arith, k.between.within) };
      }

-- After the last signal no line is read, and the position stays.
pub read_none : (text : List ℕ) (at : ℕ) (tags : List ℕ) (i : ℕ) → length tags ≤ i → at ≤ length text → {r : Lines} →
    r ≡ record { shown = 0; values = 0; next = at } → LinesRead text at (drop i tags) r
read_none text at tags i h w q =
    let l = lines_end text at tags i h in
    let n = ap (λ (z : Lines). z.next) q in
    record {
      shown = ap (λ (z : Lines). z.shown) q ∙ rw l;
      values = ap (λ (z : Lines). z.values) q ∙ rw l;
      rest = ap (λ (z : Lines). drop z.next text) q ∙ rw l;
      between = record { after = omega arith; within = omega arith };
    }

-- Inputs, then outputs.
pub read_both : {inputs outputs text : List ℕ} {at : ℕ} {x y r : Lines} → LinesRead text at inputs x → LinesRead text x.next outputs y →
    r ≡ record { shown = x.shown + 16 * y.shown; values = x.values + 16 * y.values; next = y.next } → EventRead inputs outputs text at r
unfolding read_event
read_both {inputs} {outputs} {text} {at} {x} {y} {r} a b q =
    let n = ap (λ (z : Lines). z.next) q in
    record {
      shown = ap (λ (z : Lines). z.shown) q ∙ rw (a.shown, b.shown, a.rest);
      values = ap (λ (z : Lines). z.values) q ∙ rw (a.values, b.values, a.rest);
      rest = ap (λ (z : Lines). drop z.next text) q ∙ rw (← a.rest) b.rest;
      between = record { after = omega (arith, a.between.after, b.between.after); within = omega (arith, b.between.within) };
    }
