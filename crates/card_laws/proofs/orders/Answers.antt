use Rattle.std.proofs.Common.{refl}
use Rattle.card_laws.proofs.orders.Goals as goal

pub returns : goal.returns
returns c = record { push = refl; pop = refl; exchange = refl; call = refl; to_address = refl; from_address = refl; to_indexed = refl; modified = refl; block = refl; not_called = refl; trap = refl; vectored = refl; halted = refl; asleep = refl }
