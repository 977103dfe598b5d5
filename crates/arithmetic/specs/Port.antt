-- The flags of an input, of a test, and of a load from I or R. Assumes nothing.
use Rattle.std.specs.Prelude.{Bool, false, ℕ}
use Rattle.arithmetic.specs.Flags.{negative, row, showing, zero}
use Rattle.arithmetic.specs.Logic.{and}
use Rattle.arithmetic.specs.declared.flags.Flags.{Flags}

abbrev pub input : ℕ → Flags → ℕ × Flags
input v f = (v, showing f v false f.c)

-- A test has an and's flags, and the first operand stays.
abbrev pub test : ℕ → ℕ → Flags → ℕ × Flags
test a b f = (a, (and a b f).1)

-- P/V shows IEF2; C stays.
abbrev pub load : ℕ → Bool → Flags → ℕ × Flags
load v ief2 f = (v, row f (negative 256 v) (zero v) false ief2 false f.c)
