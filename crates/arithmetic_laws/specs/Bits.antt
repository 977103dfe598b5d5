-- Set and reset change the one bit, which the test then shows. Assumes nothing.
use Rattle.std.specs.Prelude.{◌≡◌, ℕ, ◌<◌, true, false, cond, ◌==◌}
use Rattle.arithmetic.specs.Bits.{test, set, reset}
use Rattle.arithmetic.specs.declared.flags.Flags.{Flags}

-- Bit i, tested behind a set or a reset of bit b: Z is the complement of that one bit, and of any other as before.
abbrev pub Changed : Type 0
Changed =
    (b i v : ℕ) (f : Flags) → b < 8 → i < 8 → v < 256 →
    ((test i (set b v f).0 f).1.z ≡ cond (i == b) false (test i v f).1.z)
    × ((test i (reset b v f).0 f).1.z ≡ cond (i == b) true (test i v f).1.z)
