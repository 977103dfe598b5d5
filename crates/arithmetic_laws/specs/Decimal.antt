-- Decimal adjust makes decimal arithmetic of binary. Assumes nothing.
use Rattle.std.specs.Prelude.{◌≡◌, ℕ, ◌+◌, ◌-◌, ◌*◌, ◌/◌, ◌%◌, ◌<◌, Bool, nat_le, nat_lt}
use Rattle.arithmetic.specs.Add.{plus, minus}
use Rattle.arithmetic.specs.Decimal.{adjust}
use Rattle.arithmetic.specs.Flags.{bit}
use Rattle.arithmetic.specs.declared.flags.Flags.{Flags}

-- A number below 100 in packed decimal: its tens in the high digit, its ones in the low one.
abbrev pub packed : ℕ → ℕ
packed x = x / 10 * 16 + x % 10

abbrev pub adjusted : ℕ × Flags → ℕ × Flags
adjusted r = adjust r.0 r.1

-- The packed number x, with this C.
abbrev pub Reads : ℕ → Bool → ℕ × Flags → Type 0
Reads x c r = (r.0 ≡ packed x) × (r.1.c ≡ c)

-- Behind the sum of two packed numbers it gives the decimal sum, and C if that passes 99.
abbrev pub Sum : Type 0
Sum =
    (x y : ℕ) (k : Bool) (f : Flags) → x < 100 → y < 100 →
    Reads ((x + y + bit k) % 100) (nat_le 100 (x + y + bit k)) (adjusted (plus (packed x) (packed y) k f))

-- Behind the difference it gives the decimal difference, and C if that falls below 0.
abbrev pub Difference : Type 0
Difference =
    (x y : ℕ) (k : Bool) (f : Flags) → x < 100 → y < 100 →
    Reads ((x + 100 - (y + bit k)) % 100) (nat_lt x (y + bit k)) (adjusted (minus (packed x) (packed y) k f))
