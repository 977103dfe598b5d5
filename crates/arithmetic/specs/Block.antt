-- The flags of the block instructions. Assumes nothing.
use Rattle.std.specs.Prelude.{true, false, not, ℕ, ◌%◌}
use Rattle.arithmetic.specs.Add.{borrows, difference}
use Rattle.arithmetic.specs.Flags.{even_parity, negative, row, zero}
use Rattle.arithmetic.specs.declared.flags.Flags.{Flags}

-- S, Z and H of the difference v of A and the byte; P/V is 1 while the lowered BC is not 0; C stays.
abbrev pub compare_row : ℕ → ℕ → ℕ → ℕ → Flags → Flags
compare_row a m left v f =
    row f (negative 256 v) (zero v) (borrows (a % 16) (m % 16) false) (not (zero left)) true f.c

abbrev pub compare : ℕ → ℕ → ℕ → Flags → ℕ × Flags
compare a m left f = (a, compare_row a m left (difference 256 a m false) f)

-- S, Z and C stay.
abbrev pub transfer : ℕ → ℕ → Flags → ℕ × Flags
transfer m left f = (m, row f f.s f.z false (not (zero left)) false f.c)

-- B, lowered by one.
abbrev pub lowered : ℕ → ℕ
lowered b = difference 256 b 1 false

-- Only Z, which is 1 if B became 0, and N, which is bit 7 of the byte, change.
abbrev pub port : ℕ → ℕ → Flags → ℕ × Flags
port b m f = (lowered b, row f f.s (zero (lowered b)) f.h f.pv (negative 256 m) f.c)

-- S, Z, H, even parity and borrow of the lowering of B to v; N is bit 7 of the byte.
abbrev pub port_zero_row : ℕ → ℕ → ℕ → Flags → Flags
port_zero_row b m v f =
    row f (negative 256 v) (zero v) (borrows (b % 16) 1 false) (even_parity v) (negative 256 m) (borrows b 1 false)

abbrev pub port_zero : ℕ → ℕ → Flags → ℕ × Flags
port_zero b m f = (lowered b, port_zero_row b m (lowered b) f)
