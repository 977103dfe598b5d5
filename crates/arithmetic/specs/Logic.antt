-- The bitwise operations. Assumes nothing.
use Rattle.std.specs.Prelude.{true, false, ℕ, ◌-◌}
use Rattle.std.specs.Int.Bits.{bit_and, bit_or, bit_xor}
use Rattle.arithmetic.specs.Flags.{row, showing}
use Rattle.arithmetic.specs.declared.flags.Flags.{Flags}

-- H is 1 after an and, 0 after the others; C is 0 after all three.
abbrev pub and : ℕ → ℕ → Flags → ℕ × Flags
and a b f = (bit_and a b, showing f (bit_and a b) true false)

abbrev pub or : ℕ → ℕ → Flags → ℕ × Flags
or a b f = (bit_or a b, showing f (bit_or a b) false false)

abbrev pub xor : ℕ → ℕ → Flags → ℕ × Flags
xor a b f = (bit_xor a b, showing f (bit_xor a b) false false)

-- Each bit turned; H and N become 1, the rest stays.
abbrev pub complement : ℕ → Flags → ℕ × Flags
complement a f = (255 - a, row f f.s f.z true f.pv true f.c)
