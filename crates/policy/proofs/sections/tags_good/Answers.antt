use Rattle.policy.proofs.Laws.{tags_turn, tags_end}
use Rattle.policy.proofs.sections.tags_good.Goals as goal
use Rattle.policy.proofs.sections.tags_good.Goals.{then-not-is_ascii_uppercase-via-then-not-is_ascii_uppercase, then-not-is_ascii_uppercase-via-else-not-is_ascii_uppercase+then-is_among, then-not-is_ascii_uppercase-via-else-not-is_ascii_uppercase+else-is_among+then-is_among-2}

pub returns-then-not-is_ascii_uppercase : goal.returns-then-not-is_ascii_uppercase
returns-then-not-is_ascii_uppercase c =
    rw (← c.loop-i.invariant, tags_turn _ _ _ c.loop-i-test.true)
    (elim c.then-not-is_ascii_uppercase.branch [
      | then-not-is_ascii_uppercase-via-then-not-is_ascii_uppercase w ↦ rw (← w.if-not-is_ascii_uppercase.ensures.value)
      | then-not-is_ascii_uppercase-via-else-not-is_ascii_uppercase+then-is_among w ↦
          simp (← w.if-not-is_ascii_uppercase.ensures.value, ← w.if-is_among.ensures)
      | then-not-is_ascii_uppercase-via-else-not-is_ascii_uppercase+else-is_among+then-is_among-2 w ↦
          simp (← w.if-not-is_ascii_uppercase.ensures.value, ← w.if-is_among.ensures, ← w.if-is_among-2.ensures)
    ])

pub loop-i-preserved : goal.loop-i-preserved
loop-i-preserved c =
    rw (← c.loop-i.invariant, tags_turn _ _ _ c.loop-i-test.true)
    (rw (← c.if-not-is_ascii_uppercase.ensures.value, ← c.if-is_among.ensures, ← c.if-is_among-2.ensures))

pub returns : goal.returns
returns c = rw (← c.loop-i.invariant, tags_end _ _ _ c.loop-i-test.false)
