use Rattle.std.proofs.Common.{◌≡◌}
use Rattle.pagemap.specs.Crc.{crc_after, crc_begun}
use Rattle.transcript.specs.Memory.{bytes_below}
use Rattle.transcript.proofs.memory_line.crc.Given as goal

abbrev pub invariant-loop-at : goal.invariant-loop-at
invariant-loop-at g l = l.sum.0 ≡ crc_after crc_begun (bytes_below (g.M.Memory.memory l.card.machine.memory) l.at)
