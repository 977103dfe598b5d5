use Rattle.card_log.proofs.Joins as joins
use Rattle.card_log.proofs.laws.join_laws.Goals as goal

pub returns : goal.returns
returns g c = joins.laws g.P.Panel.make
