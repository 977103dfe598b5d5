use Rattle.command.proofs.Writing.{read_as_written}
use Rattle.command.proofs.laws.read_as_written.Goals as goal

pub returns : goal.returns
returns c = read_as_written
