use Rattle.std.proofs.Common.{refl}
use Rattle.instructions_laws.proofs.opcodes.Goals as goal

pub returns : goal.returns
returns c = record { main = refl; cb = refl; ed = refl; indexed = λ i. refl; displaced = λ i. refl }
