-- What a result, a value with its flags, tells at any width. Assumes nothing.
use Rattle.std.specs.Prelude.{◌≡◌, ℕ, ◌+◌, ◌*◌, ◌≤◌, Bool, cond, ◌||◌, ℤ, pos, ◌-ℤ◌, neg_ℤ, Decides, int_le, int_lt, nat_lt}
use Rattle.arithmetic.specs.Flags.{bit}
use Rattle.arithmetic.specs.declared.flags.Flags.{Flags}

-- The value and C together hold the whole sum; m is 256 for bytes, 65,536 for words.
abbrev pub HoldsSum : ℕ → ℕ → ℕ × Flags → Type 0
HoldsSum m total r = total ≡ r.0 + m * bit r.1.c

-- The value is what is left of a, and of m where C says that it was borrowed.
abbrev pub HoldsDifference : ℕ → ℕ → ℕ → ℕ × Flags → Type 0
HoldsDifference m a taken r = a + m * bit r.1.c ≡ r.0 + taken

-- What v stands for when it is read as signed; half is 128 for bytes, 32,768 for words.
abbrev pub signed : ℕ → ℕ → ℤ
signed half v = cond (nat_lt v half) (pos v) (pos v -ℤ pos (half + half))

-- Whether z is no signed number of that width: it lies below −half, or at half or above.
abbrev pub outside : ℕ → ℤ → Bool
outside half z = int_lt z (neg_ℤ (pos half)) || int_le (pos half) z

-- P/V is 1 exactly if the true signed result z does not fit.
abbrev pub Overflows : ℕ → ℤ → ℕ × Flags → Type 0
Overflows half z r = r.1.pv ≡ outside half z

-- S is the top bit of the value, and Z is 1 exactly if the value is 0.
abbrev pub Shows : ℕ → ℕ × Flags → Type 0
Shows half r = Decides r.1.s (half ≤ r.0) × Decides r.1.z (r.0 ≡ 0)
