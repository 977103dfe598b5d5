-- Test, set and reset of one bit. Assumes nothing.
use Rattle.std.specs.Prelude.{true, false, ℕ, ◌-◌, ◌/◌, ◌%◌, ◌^◌, eqb}
use Rattle.std.specs.Int.Bits.{bit_and, bit_or}
use Rattle.arithmetic.specs.Flags.{row}
use Rattle.arithmetic.specs.declared.flags.Flags.{Flags}

-- The weight of the bit of a number.
abbrev pub weight : ℕ → ℕ
weight b = 2 ^ (b % 8)

-- Z is the bit's complement; H 1, N 0, the rest stays.
abbrev pub test : ℕ → ℕ → Flags → ℕ × Flags
test b v f = (v, row f f.s (eqb (v / weight b % 2) 0) true f.pv false f.c)

-- Set and reset leave the flags alone.
abbrev pub set : ℕ → ℕ → Flags → ℕ × Flags
set b v f = (bit_or v (weight b), f)

abbrev pub reset : ℕ → ℕ → Flags → ℕ × Flags
reset b v f = (bit_and v (255 - weight b), f)
