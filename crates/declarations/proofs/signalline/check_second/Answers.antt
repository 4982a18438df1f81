use Rattle.declarations.specs.SignalLine.{wanted_more}
use Rattle.declarations.proofs.signalline.check_second.Goals as goal

pub returns-in-More-clause-said : goal.returns-in-More-clause-said
returns-in-More-clause-said c = let a = c.args in wanted_more a.text.now a.starts.now a.lengths.now a.table a.few _ _ c.in-More.is
