use Rattle.std.proofs.Common.{◌≡◌}
use lib.Bits.{bit_xor}
use Rattle.pagemap.specs.Crc.{crc_bits}
use Rattle.pagemap.proofs.crc.after_byte.Given as goal

abbrev pub invariant-loop-bit : goal.invariant-loop-bit
invariant-loop-bit l = l.after ≡ crc_bits l._bit (bit_xor l.crc l.byte)
