use Rattle.std.proofs.Common.{◌≡◌, drop}
use Rattle.pagemap.specs.Crc.{crc_after, crc_begun}
use Rattle.pagemap.proofs.crc.crc32.Given as goal

abbrev pub invariant-loop-byte : goal.invariant-loop-byte
invariant-loop-byte l = crc_after l.sum.0 (drop l.byte-index l.bytes) ≡ crc_after crc_begun l.bytes
