-- Tried: by using(..) on the function the check does not find it. Assumes nothing.
use Rattle.processor.proofs.Logs as logs
use Rattle.processor.proofs.isolation_from.Goals as goal

pub returns : goal.returns
returns g c = logs.isolation_from g.P.Panel.make
