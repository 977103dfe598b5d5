-- Assumes nothing.
use Rattle.opened.proofs.Calls as calls
use Rattle.opened.proofs.laws.opened_laws.Goals as goal

pub returns : goal.returns
returns g c = calls.laws g.P.Panel.make
