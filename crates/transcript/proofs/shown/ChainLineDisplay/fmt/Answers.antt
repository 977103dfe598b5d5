use Rattle.std.proofs.Common.{arith}
use Rattle.text.proofs.Written.{byte_hole}
use Rattle.transcript.specs.Panels.{chain_text}
use Rattle.transcript.proofs.shown.ChainLineDisplay.fmt.Goals as goal

pub returns-clause-writes : goal.returns-clause-writes
unfolding chain_text
returns-clause-writes g c =
    let key = byte_hole c.in_radix.result c.laid_out.result c.key-key.result c.in_radix.ensures c.laid_out.ensures (omega arith) in
    simp (key, c.used-used.ensures, c.usable-usable.ensures, c.key-key.ensures, c.latch.ensures) at c.write.ensures.writes
