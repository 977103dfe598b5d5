use Rattle.card_log.proofs.Lines.{together}
use Rattle.card_log.proofs.replay.replay.Goals as goal

pub returns-clause-alone : goal.returns-clause-alone
returns-clause-alone g c n = together g.P.Panel.make _ _ _
