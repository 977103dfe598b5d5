-- Increment and decrement of a byte: the addition or subtraction of 1, but that C stays. Assumes nothing.
use Rattle.std.specs.Prelude.{ℕ, Bool}
use Rattle.arithmetic.specs.Add.{add, subtract}
use Rattle.arithmetic.specs.Flags.{row}
use Rattle.arithmetic.specs.declared.flags.Flags.{Flags}

-- An operation's answer, but with this C.
abbrev pub with_carry : Bool → ℕ × Flags → ℕ × Flags
with_carry c r = (r.0, row r.1 r.1.s r.1.z r.1.h r.1.pv r.1.n c)

abbrev pub increment : ℕ → Flags → ℕ × Flags
increment v f = with_carry f.c (add v 1 f)

abbrev pub decrement : ℕ → Flags → ℕ × Flags
decrement v f = with_carry f.c (subtract v 1 f)
