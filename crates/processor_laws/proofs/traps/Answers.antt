use Rattle.std.proofs.Common.{refl}
use Rattle.processor_laws.proofs.traps.Goals as goal

pub returns : goal.returns
returns c = record { cb = refl; ed = refl; dd = refl; fd = refl; dd_cb = refl; fd_cb = refl }
