use Rattle.card_laws.proofs.Times as times
use Rattle.card_laws.proofs.step_time.Goals as goal

pub returns : goal.returns
returns g c = times.step_time g.P.Panel.make
