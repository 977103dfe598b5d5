use Rattle.card_laws.proofs.Running as running
use Rattle.card_laws.proofs.run_laws.Goals as goal

pub returns : goal.returns
returns g c = running.laws g.P.Panel.make
