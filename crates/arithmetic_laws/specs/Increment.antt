-- What increment, decrement and negation obey. Assumes nothing.
use Rattle.std.specs.Prelude.{◌≡◌, ℕ, ◌+◌, ◌%◌, ◌<◌, Decides}
use Rattle.arithmetic.specs.Add.{negate}
use Rattle.arithmetic.specs.Increment.{increment, decrement}
use Rattle.arithmetic.specs.declared.flags.Flags.{Flags}

-- They undo each other.
abbrev pub Undone : Type 0
Undone =
    (v : ℕ) (f g : Flags) → v < 256 →
    ((decrement (increment v f).0 g).0 ≡ v) × ((increment (decrement v f).0 g).0 ≡ v)

-- P/V is 1 exactly if the result is the byte at which the sign turns, H exactly if its low digit went round; C stays.
abbrev pub Steps : ℕ → ℕ → Flags → ℕ × Flags → Type 0
Steps turn digit f r = Decides r.1.pv (r.0 ≡ turn) × Decides r.1.h (r.0 % 16 ≡ digit) × (r.1.c ≡ f.c)

abbrev pub Stepped : Type 0
Stepped = (v : ℕ) (f : Flags) → v < 256 → Steps 0x80 0x0 f (increment v f) × Steps 0x7F 0xF f (decrement v f)

-- A byte and its negative add up to 0; only 80H is its own and overflows; C is 1 but for 0.
abbrev pub Negated : Type 0
Negated =
    (a : ℕ) (f : Flags) → a < 256 →
    ((a + (negate a f).0) % 256 ≡ 0) × Decides (negate a f).1.pv (a ≡ 0x80) × Decides (negate a f).1.c (0 < a)
