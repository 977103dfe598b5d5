use Rattle.invariants.proofs.Steps.{spare}
use Rattle.invariants.proofs.spare_kept.Goals as goal

pub returns : goal.returns
returns g c = spare g.P.Panel.make
