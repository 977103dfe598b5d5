use Rattle.std.proofs.Common.{refl}
use Rattle.card_laws.proofs.asleep.Goals as goal

pub returns : goal.returns
returns c = record { time = refl; acknowledged = refl; told = refl; pc_after = refl; mode_after = refl; r_after = refl }
