use Rattle.instructions_laws.proofs.Found.{within, stands}
use Rattle.instructions_laws.proofs.beginnings.Goals as goal

pub returns : goal.returns
returns c = record { within = within; stands = stands }
