use Rattle.std.proofs.Common.{refl}
use Rattle.plotting.specs.Plotting.{run_for}
use Rattle.plotting.proofs.laws.of_the_log.Goals as goal

pub returns : goal.returns
unfolding run_for
returns c image = (refl, refl)
