use Rattle.invariants.proofs.Steps.{room}
use Rattle.invariants.proofs.output_room.Goals as goal

pub returns : goal.returns
returns g c = room g.P.Panel.make
