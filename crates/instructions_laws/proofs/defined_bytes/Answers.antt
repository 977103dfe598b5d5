use Rattle.std.proofs.Common.{refl}
use Rattle.instructions_laws.proofs.defined_bytes.Goals as goal

pub returns : goal.returns
returns c =
    record { main = (refl, refl, refl, refl, refl); cb = refl; ed = refl; indexed = λ i. (refl, refl); displaced = λ i. refl; all = refl }
