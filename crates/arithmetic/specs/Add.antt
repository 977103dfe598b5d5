-- Sums and differences, of any width: m is 256 for bytes, 65,536 for words, 16 for digits. Assumes nothing.
use Rattle.std.specs.Prelude.{Bool, true, false, not, ◌&&◌, ℕ, ◌+◌, ◌-◌, ◌%◌, ltb, leb}
use Rattle.arithmetic.specs.Flags.{bit, alike, row, negative, zero}
use Rattle.arithmetic.specs.declared.flags.Flags.{Flags}

abbrev pub sum : ℕ → ℕ → ℕ → Bool → ℕ
sum m a b k = (a + b + bit k) % m

abbrev pub difference : ℕ → ℕ → ℕ → Bool → ℕ
difference m a b k = (a + m - (b + bit k)) % m

-- A carry: the sum does not stay below m.
abbrev pub carries : ℕ → ℕ → ℕ → Bool → Bool
carries m a b k = leb m (a + b + bit k)

-- A borrow: more is taken away than there is.
abbrev pub borrows : ℕ → ℕ → Bool → Bool
borrows a b k = ltb a (b + bit k)

-- Overflow of a sum v: both operands have one sign, and v the other.
abbrev pub sum_overflows : ℕ → ℕ → ℕ → ℕ → Bool
sum_overflows m a b v = alike (negative m a) (negative m b) && not (alike (negative m a) (negative m v))

-- Overflow of a difference v: the operands have unlike signs, and v has not the first one's.
abbrev pub difference_overflows : ℕ → ℕ → ℕ → ℕ → Bool
difference_overflows m a b v = not (alike (negative m a) (negative m b)) && not (alike (negative m a) (negative m v))

-- The row of a sum v at any width, and that of a difference: H stays.
abbrev pub sum_flags : ℕ → ℕ → ℕ → Bool → ℕ → Flags → Flags
sum_flags m a b k v f = row f (negative m v) (zero v) f.h (sum_overflows m a b v) false (carries m a b k)

abbrev pub difference_flags : ℕ → ℕ → ℕ → Bool → ℕ → Flags → Flags
difference_flags m a b k v f = row f (negative m v) (zero v) f.h (difference_overflows m a b v) true (borrows a b k)

-- The row of a sum v of bytes. H is a carry out of the low digit.
abbrev pub sum_row : ℕ → ℕ → Bool → ℕ → Flags → Flags
sum_row a b k v f =
    row f (negative 256 v) (zero v) (carries 16 (a % 16) (b % 16) k) (sum_overflows 256 a b v) false (carries 256 a b k)

abbrev pub plus : ℕ → ℕ → Bool → Flags → ℕ × Flags
plus a b k f = (sum 256 a b k, sum_row a b k (sum 256 a b k) f)

-- The row of a difference v of bytes. H is a borrow into the low digit.
abbrev pub difference_row : ℕ → ℕ → Bool → ℕ → Flags → Flags
difference_row a b k v f =
    row f (negative 256 v) (zero v) (borrows (a % 16) (b % 16) k) (difference_overflows 256 a b v) true (borrows a b k)

abbrev pub minus : ℕ → ℕ → Bool → Flags → ℕ × Flags
minus a b k f = (difference 256 a b k, difference_row a b k (difference 256 a b k) f)

abbrev pub add : ℕ → ℕ → Flags → ℕ × Flags
add a b f = plus a b false f

abbrev pub add_with_carry : ℕ → ℕ → Flags → ℕ × Flags
add_with_carry a b f = plus a b f.c f

abbrev pub subtract : ℕ → ℕ → Flags → ℕ × Flags
subtract a b f = minus a b false f

abbrev pub subtract_with_carry : ℕ → ℕ → Flags → ℕ × Flags
subtract_with_carry a b f = minus a b f.c f

-- Comparison has a subtraction's flags, and the first operand stays.
abbrev pub compare : ℕ → ℕ → Flags → ℕ × Flags
compare a b f = (a, (subtract a b f).1)

abbrev pub negate : ℕ → Flags → ℕ × Flags
negate a f = subtract 0 a f
