use Rattle.card_laws.proofs.Trapping as trapping
use Rattle.card_laws.proofs.trap_frame.Goals as goal

pub returns : goal.returns
returns g c = trapping.frame g.P.Panel.make
