-- What sums and differences of bytes obey, with the carry k or without. Assumes nothing.
use Rattle.std.specs.Prelude.{◌≡◌, ℕ, ◌+◌, ◌*◌, ◌%◌, ◌<◌, Bool, pos, ◌+ℤ◌, ◌-ℤ◌, Decides}
use Rattle.arithmetic.specs.Add.{plus, minus, subtract, compare}
use Rattle.arithmetic.specs.Flags.{bit}
use Rattle.arithmetic.specs.declared.flags.Flags.{Flags}
use Rattle.arithmetic_laws.specs.Results.{HoldsSum, HoldsDifference, Overflows, signed}

-- Subtraction undoes addition, and addition undoes subtraction.
abbrev pub Undone : Type 0
Undone =
    (a b : ℕ) (k : Bool) (f g : Flags) → a < 256 → b < 256 →
    ((minus (plus a b k f).0 b k g).0 ≡ a) × ((plus (minus a b k f).0 b k g).0 ≡ a)

-- Comparison is subtraction that keeps the accumulator: Z is exactly equal, C exactly less.
abbrev pub Compared : Type 0
Compared =
    (a b : ℕ) (f : Flags) → a < 256 → b < 256 →
    (compare a b f ≡ (a, (subtract a b f).1)) × Decides (compare a b f).1.z (a ≡ b) × Decides (compare a b f).1.c (a < b)

-- C of a sum is exactly a sum above 255.
abbrev pub Carried : Type 0
Carried =
    (a b : ℕ) (k : Bool) (f : Flags) → a < 256 → b < 256 →
    Decides (plus a b k f).1.c (255 < a + b + bit k) × HoldsSum 256 (a + b + bit k) (plus a b k f)

-- C of a difference is exactly a borrow.
abbrev pub Borrowed : Type 0
Borrowed =
    (a b : ℕ) (k : Bool) (f : Flags) → a < 256 → b < 256 →
    Decides (minus a b k f).1.c (a < b + bit k) × HoldsDifference 256 a (b + bit k) (minus a b k f)

-- H is exactly a carry out of the low digit of a sum, and a borrow into the low digit of a difference.
abbrev pub Halved : Type 0
Halved =
    (a b : ℕ) (k : Bool) (f : Flags) → a < 256 → b < 256 →
    (a % 16 + b % 16 + bit k ≡ (plus a b k f).0 % 16 + 16 * bit (plus a b k f).1.h)
    × (a % 16 + 16 * bit (minus a b k f).1.h ≡ (minus a b k f).0 % 16 + b % 16 + bit k)

-- Overflow is exactly a true signed result outside −128..127.
abbrev pub Overflowed : Type 0
Overflowed =
    (a b : ℕ) (k : Bool) (f : Flags) → a < 256 → b < 256 →
    Overflows 128 (signed 128 a +ℤ signed 128 b +ℤ pos (bit k)) (plus a b k f)
    × Overflows 128 (signed 128 a -ℤ signed 128 b -ℤ pos (bit k)) (minus a b k f)
