use Rattle.std.proofs.Common.{sym, arith}
use Rattle.text.proofs.Numbers.{fits}
use Rattle.text.proofs.hex.byte.Goals as goal

pub overflow_cast-result : goal.overflow_cast-result
overflow_cast-result c = omega (arith, fits 2 c.in_ok-n.n c.args.word.now (sym c.in_ok-n.ensures))
