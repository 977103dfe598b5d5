-- Rotates and shifts. Assumes nothing.
use Rattle.std.specs.Prelude.{Bool, false, ℕ, ◌+◌, ◌*◌, ◌/◌, ◌%◌}
use Rattle.arithmetic.specs.Flags.{bit, negative, odd, row, showing}
use Rattle.arithmetic.specs.declared.flags.Flags.{Flags}
use Rattle.arithmetic.specs.declared.rotate.Rotate.{Rotate}
use Rattle.arithmetic.specs.declared.rotate.Rotate.TheVariants.{Rlc, Rrc, Rl, Rr, Sla, Sra, Srl}

-- One place to the left: a bit comes in below, and bit 7 goes to C.
abbrev pub left : ℕ → Bool → Flags → ℕ × Flags
left v low f = (v * 2 % 256 + bit low, showing f (v * 2 % 256 + bit low) false (negative 256 v))

-- One place to the right: a bit comes in above, and bit 0 goes to C.
abbrev pub right : ℕ → Bool → Flags → ℕ × Flags
right v high f = (v / 2 + bit high * 128, showing f (v / 2 + bit high * 128) false (odd v))

abbrev pub apply : Rotate → ℕ → Flags → ℕ × Flags
apply Rlc v f = left v (negative 256 v) f
apply Rrc v f = right v (odd v) f
apply Rl v f = left v f.c f
apply Rr v f = right v f.c f
apply Sla v f = left v false f
apply Sra v f = right v (negative 256 v) f
apply Srl v f = right v false f

-- The accumulator's own rotates keep S, Z and P/V.
abbrev pub keeping : ℕ × Flags → Flags → ℕ × Flags
keeping r f = (r.0, row f f.s f.z false f.pv false r.1.c)

abbrev pub accumulator : Rotate → ℕ → Flags → ℕ × Flags
accumulator kind a f = keeping (apply kind a f) f

-- The low digit of A and the two digits of a byte of memory rotate as three. A's high digit stays, and so does C.
abbrev pub digits : ℕ → ℕ → ℕ
digits high low = high * 16 + low

abbrev pub rld : ℕ → ℕ → Flags → (ℕ × ℕ) × Flags
rld a m f = ((digits (a / 16) (m / 16), digits (m % 16) (a % 16)), showing f (digits (a / 16) (m / 16)) false f.c)

abbrev pub rrd : ℕ → ℕ → Flags → (ℕ × ℕ) × Flags
rrd a m f = ((digits (a / 16) (m % 16), digits (a % 16) (m / 16)), showing f (digits (a / 16) (m % 16)) false f.c)
