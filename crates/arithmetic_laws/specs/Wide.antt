-- What sums and differences of words, and products, obey. Assumes nothing.
use Rattle.std.specs.Prelude.{◌≡◌, ℕ, ◌+◌, ◌*◌, ◌<◌, pos, ◌+ℤ◌, ◌-ℤ◌}
use Rattle.arithmetic.specs.Flags.{bit}
use Rattle.arithmetic.specs.Multiply.{multiply}
use Rattle.arithmetic.specs.Wide.{add, add_with_carry, subtract_with_carry}
use Rattle.arithmetic.specs.declared.flags.Flags.{Flags}
use Rattle.arithmetic_laws.specs.Results.{HoldsSum, HoldsDifference, Overflows, Shows, signed}

-- C is what the word does not hold of a sum, and what it lacks for a difference.
abbrev pub Carried : Type 0
Carried =
    (a b : ℕ) (f : Flags) → a < 65536 → b < 65536 →
    HoldsSum 65536 (a + b) (add a b f)
    × HoldsSum 65536 (a + b + bit f.c) (add_with_carry a b f)
    × HoldsDifference 65536 a (b + bit f.c) (subtract_with_carry a b f)

-- Overflow is exactly a true signed result outside −32,768..32,767.
abbrev pub Overflowed : Type 0
Overflowed =
    (a b : ℕ) (f : Flags) → a < 65536 → b < 65536 →
    Overflows 32768 (signed 32768 a +ℤ signed 32768 b +ℤ pos (bit f.c)) (add_with_carry a b f)
    × Overflows 32768 (signed 32768 a -ℤ signed 32768 b -ℤ pos (bit f.c)) (subtract_with_carry a b f)

-- S is bit 15, and Z speaks of all sixteen bits.
abbrev pub Shown : Type 0
Shown = (a b : ℕ) (f : Flags) → Shows 32768 (add_with_carry a b f) × Shows 32768 (subtract_with_carry a b f)

-- Multiplication is the product, which a word holds; no flag changes.
abbrev pub Product : Type 0
Product = (a b : ℕ) (f : Flags) → a < 256 → b < 256 → (multiply a b f ≡ (a * b, f)) × (a * b < 65536)
