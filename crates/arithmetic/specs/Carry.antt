-- Setting and complementing C: H and N become 0, the rest stays. Assumes nothing.
use Rattle.std.specs.Prelude.{true, false, not, ℕ}
use Rattle.arithmetic.specs.Flags.{row}
use Rattle.arithmetic.specs.declared.flags.Flags.{Flags}

abbrev pub set : ℕ → Flags → ℕ × Flags
set a f = (a, row f f.s f.z false f.pv false true)

abbrev pub complement : ℕ → Flags → ℕ × Flags
complement a f = (a, row f f.s f.z false f.pv false (not f.c))
