use Rattle.script.proofs.Fit.{puts_fit}
use Rattle.script.proofs.laws.puts_fit.Goals as goal

pub returns : goal.returns
returns c text s accepted = puts_fit text s accepted
