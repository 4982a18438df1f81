-- The best is the reason for the input by the outputs below y.
use Rattle.stepping.specs.State.{place}
use Rattle.policy.specs.File.{policy_of}
use Rattle.explaining.specs.Said.{ToldIn}
use Rattle.explaining.specs.CodeReasons.{reason_said}
use Rattle.explaining.proofs.tell.reason_for_input.Given as goal

abbrev pub invariant-loop-y : goal.invariant-loop-y
invariant-loop-y l = ToldIn (policy_of l.layout.reading l.file) (place l.layout.clocks l.here.state) l.y l.x (reason_said l.best)
