use Rattle.std.proofs.Common.{arith, ◌/◌}
use Rattle.registers.proofs.window.Window.physical.Goals as goal

pub returns-clause-opened : goal.returns-clause-opened
returns-clause-opened c =
    (c.args.at / 4096, omega (arith, c.ranges.at.fits), omega (arith, c.ranges.at.fits, c.from.ensures, c.from-2.ensures, c.base_under-base.ensures))
