-- Decimal adjust. Assumes nothing.
use Rattle.std.specs.Prelude.{Bool, cond, not, ◌||◌, ℕ, ◌+◌, ◌-◌, ◌%◌, ltb}
use Rattle.arithmetic.specs.Flags.{alike, even_parity, has, negative, row, zero}
use Rattle.arithmetic.specs.declared.flags.Flags.{Flags}

-- 06H is used if H is 1 or the low digit exceeds 9, and 60H if C is 1 or the byte exceeds 99H.
abbrev pub low : ℕ → Flags → Bool
low a f = f.h || ltb 9 (a % 16)

abbrev pub high : ℕ → Flags → Bool
high a f = f.c || ltb 153 a

abbrev pub correction : ℕ → Flags → ℕ
correction a f = cond (low a f) 6 0 + cond (high a f) 96 0

-- It is added, or behind a subtraction (N = 1) subtracted.
abbrev pub adjusted : ℕ → Flags → ℕ
adjusted a f = cond f.n (a + 256 - correction a f) (a + correction a f) % 256

-- S, Z and even parity of the result v; H is 1 if bit 4 turned; N stays; C is 1 if 60H was used.
abbrev pub adjust_row : ℕ → ℕ → Flags → Flags
adjust_row a v f =
    row f (negative 256 v) (zero v) (not (alike (has 16 a) (has 16 v))) (even_parity v) f.n (high a f)

abbrev pub adjust : ℕ → Flags → ℕ × Flags
adjust a f = (adjusted a f, adjust_row a (adjusted a f) f)
