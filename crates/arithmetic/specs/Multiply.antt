-- Multiplication: all flags stay. Assumes nothing.
use Rattle.std.specs.Prelude.{ℕ, ◌*◌}
use Rattle.arithmetic.specs.declared.flags.Flags.{Flags}

abbrev pub multiply : ℕ → ℕ → Flags → ℕ × Flags
multiply a b f = (a * b, f)
