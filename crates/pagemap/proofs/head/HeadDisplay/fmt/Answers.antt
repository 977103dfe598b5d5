use Rattle.std.proofs.Common.{arith}
use Rattle.text.proofs.Written.{byte_hole}
use Rattle.pagemap.specs.Lines.{head_text}
use Rattle.pagemap.proofs.head.HeadDisplay.fmt.Goals as goal

-- Tried: no file, with `printed` and `head_text` named on the function, as the lines of a plot have it. It closes only where the
-- decimal number is left out.
pub returns-clause-writes : goal.returns-clause-writes
unfolding head_text
returns-clause-writes g c =
    let w = c.args.self.now.window in
    let cbar = byte_hole c.in_radix.result c.laid_out.result w.cbar c.in_radix.ensures c.laid_out.ensures (omega arith) in
    let cbr = byte_hole c.in_radix-2.result c.laid_out-2.result w.cbr c.in_radix-2.ensures c.laid_out-2.ensures (omega arith) in
    let bbr = byte_hole c.in_radix-3.result c.laid_out-3.result w.bbr c.in_radix-3.ensures c.laid_out-3.ensures (omega arith) in
    simp (cbar, cbr, bbr) at c.write.ensures.writes
