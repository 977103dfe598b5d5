-- The fields of an opcode byte, and what the operand fields name. Assumes nothing.
use Rattle.std.specs.Prelude.{ℕ, ◌/◌, ◌%◌, cond, Some, None, Option, ◌==◌}
use Rattle.arithmetic.specs.declared.operation.Operation.{Operation}
use Rattle.arithmetic.specs.declared.operation.Operation.TheVariants as operations
use Rattle.arithmetic.specs.declared.rotate.Rotate.{Rotate}
use Rattle.arithmetic.specs.declared.rotate.Rotate.TheVariants as rotates
use Rattle.registers.specs.declared.operand.Condition.{Condition}
use Rattle.registers.specs.declared.operand.Condition.TheVariants as conditions
use Rattle.registers.specs.declared.operand.Direction.{Direction}
use Rattle.registers.specs.declared.operand.Direction.TheVariants as directions
use Rattle.registers.specs.declared.operand.Pair.{Pair}
use Rattle.registers.specs.declared.operand.Pair.TheVariants as pairs
use Rattle.registers.specs.declared.operand.Register.{Register}
use Rattle.registers.specs.declared.operand.Register.TheVariants as registers
use Rattle.registers.specs.declared.operand.StackPair.{StackPair}
use Rattle.registers.specs.declared.operand.StackPair.TheVariants as stack
use Rattle.instructions.specs.declared.group.calculation.Addend.{Addend}
use Rattle.instructions.specs.declared.group.calculation.Addend.TheVariants as addends

-- Bits 7 and 6, bits 5 to 3, and bits 2 to 0 of a byte.
abbrev pub x : ℕ → ℕ
x byte = byte / 64

abbrev pub y : ℕ → ℕ
y byte = byte / 8 % 8

abbrev pub z : ℕ → ℕ
z byte = byte % 8

-- Bits 5 and 4, and bit 3, out of y.
abbrev pub p : ℕ → ℕ
p y = y / 2

abbrev pub q : ℕ → ℕ
q y = y % 2

-- What a field of one, two or three bits chooses.
abbrev pub one_of_2 : {A : Type 0} → ℕ → A → A → A
one_of_2 n a b = cond (n == 0) a b

abbrev pub one_of_4 : {A : Type 0} → ℕ → A → A → A → A → A
one_of_4 n a b c d = cond (n == 0) a (cond (n == 1) b (cond (n == 2) c d))

abbrev pub one_of_8 : {A : Type 0} → ℕ → A → A → A → A → A → A → A → A → A
one_of_8 n a b c d e f g h =
    cond (n == 0) a (cond (n == 1) b (cond (n == 2) c (cond (n == 3) d (cond (n == 4) e (cond (n == 5) f (cond (n == 6) g h))))))

-- The register of a field; 6 names none: it is (HL), or (IX+d) behind DDH.
abbrev pub register : ℕ → Option Register
register n =
    one_of_8 n (Some registers.B) (Some registers.C) (Some registers.D) (Some registers.E) (Some registers.H) (Some registers.L) None (Some registers.A)

-- dd, ss and ww; zz on the stack; xx and yy, what is added to an index register.
abbrev pub pair : ℕ → Pair
pair n = one_of_4 n pairs.Bc pairs.De pairs.Hl pairs.Sp

abbrev pub stack_pair : ℕ → StackPair
stack_pair n = one_of_4 n stack.Bc stack.De stack.Hl stack.Af

abbrev pub addend : ℕ → Addend
addend n = one_of_4 n addends.Bc addends.De addends.Itself addends.Sp

abbrev pub condition : ℕ → Condition
condition n = one_of_8 n conditions.Nz conditions.Z conditions.Nc conditions.C conditions.Po conditions.Pe conditions.P conditions.M

abbrev pub operation : ℕ → Operation
operation n =
    one_of_8 n operations.Add operations.AddWithCarry operations.Subtract operations.SubtractWithCarry operations.And operations.Xor operations.Or operations.Compare

-- The rotate or shift of a field; 6 names none.
abbrev pub rotate : ℕ → Option Rotate
rotate n =
    one_of_8 n (Some rotates.Rlc) (Some rotates.Rrc) (Some rotates.Rl) (Some rotates.Rr) (Some rotates.Sla) (Some rotates.Sra) None (Some rotates.Srl)

abbrev pub direction : ℕ → Direction
direction n = one_of_2 n directions.Up directions.Down
