use Rattle.compiling.specs.Promise.{judged_good}
use Rattle.pointing.specs.NameAt.{name-given}
use Rattle.pointing.specs.Said.{kind_number}
use Rattle.pointing.proofs.nameat.name_of.Goals as goal

pub returns : goal.returns
returns c =
    record {
      said = name-given (kind_number c.args.kind) c.args.text.now c.args.i (judged_good _ c.in_ok-judge.ensures).1 c.find_named.ensures.said;
      there = c.find_named.ensures.there;
    }
