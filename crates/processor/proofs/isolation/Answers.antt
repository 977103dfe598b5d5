-- Tried: by using(..) on the function the check does not find it. Assumes nothing.
use Rattle.processor.proofs.Logs as logs
use Rattle.processor.proofs.isolation.Goals as goal

pub returns : goal.returns
returns g c = logs.isolation g.P.Panel.make
