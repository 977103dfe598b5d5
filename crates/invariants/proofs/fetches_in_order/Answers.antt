use Rattle.invariants.proofs.Steps.{fetches}
use Rattle.invariants.proofs.fetches_in_order.Goals as goal

pub returns : goal.returns
returns g c = fetches g.P.Panel.make
