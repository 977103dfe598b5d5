-- The eight operations of the accumulator with a byte. Assumes nothing.
use Rattle.std.specs.Prelude.{ℕ}
use Rattle.arithmetic.specs.Add.{add, add_with_carry, subtract, subtract_with_carry, compare}
use Rattle.arithmetic.specs.Logic.{and, or, xor}
use Rattle.arithmetic.specs.declared.flags.Flags.{Flags}
use Rattle.arithmetic.specs.declared.operation.Operation.{Operation}
use Rattle.arithmetic.specs.declared.operation.Operation.TheVariants.{Add, AddWithCarry, Subtract, SubtractWithCarry, And, Xor, Or, Compare}

abbrev pub apply : Operation → ℕ → ℕ → Flags → ℕ × Flags
apply Add a b f = add a b f
apply AddWithCarry a b f = add_with_carry a b f
apply Subtract a b f = subtract a b f
apply SubtractWithCarry a b f = subtract_with_carry a b f
apply And a b f = and a b f
apply Xor a b f = xor a b f
apply Or a b f = or a b f
apply Compare a b f = compare a b f
