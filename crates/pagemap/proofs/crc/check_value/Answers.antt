use Rattle.std.proofs.Common.{refl}
use Rattle.pagemap.specs.Crc.{crc_bits}
use Rattle.pagemap.proofs.crc.check_value.Goals as goal

pub returns : goal.returns
unfolding crc_bits
returns c = refl
