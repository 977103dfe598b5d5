use Rattle.invariants.proofs.Steps.{refresh}
use Rattle.invariants.proofs.refresh_kept.Goals as goal

pub returns : goal.returns
returns g c = refresh g.P.Panel.make
