-- The 16-bit operations. Assumes nothing.
use Rattle.std.specs.Prelude.{true, false, ℕ}
use Rattle.arithmetic.specs.Add.{sum, difference, carries, borrows, sum_overflows, difference_overflows}
use Rattle.arithmetic.specs.Flags.{negative, row, zero}
use Rattle.arithmetic.specs.declared.flags.Flags.{Flags}

-- Plain addition changes N and C only.
abbrev pub add : ℕ → ℕ → Flags → ℕ × Flags
add a b f = (sum 65536 a b false, row f f.s f.z f.h f.pv false (carries 65536 a b false))

-- With carry, all change but H: S is bit 15 of the result v, and Z speaks of all sixteen bits.
abbrev pub sum_row : ℕ → ℕ → ℕ → Flags → Flags
sum_row a b v f =
    row f (negative 65536 v) (zero v) f.h (sum_overflows 65536 a b v) false (carries 65536 a b f.c)

abbrev pub add_with_carry : ℕ → ℕ → Flags → ℕ × Flags
add_with_carry a b f = (sum 65536 a b f.c, sum_row a b (sum 65536 a b f.c) f)

abbrev pub difference_row : ℕ → ℕ → ℕ → Flags → Flags
difference_row a b v f =
    row f (negative 65536 v) (zero v) f.h (difference_overflows 65536 a b v) true (borrows a b f.c)

abbrev pub subtract_with_carry : ℕ → ℕ → Flags → ℕ × Flags
subtract_with_carry a b f = (difference 65536 a b f.c, difference_row a b (difference 65536 a b f.c) f)
