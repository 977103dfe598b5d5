-- The number that stands for an operand in an opcode's field, and the prefix that names an index register. Assumes nothing.
use Rattle.std.specs.Prelude.{ℕ}
use Rattle.arithmetic.specs.declared.operation.Operation.{Operation}
use Rattle.arithmetic.specs.declared.operation.Operation.TheVariants as operations
use Rattle.arithmetic.specs.declared.rotate.Rotate.{Rotate}
use Rattle.arithmetic.specs.declared.rotate.Rotate.TheVariants as rotates
use Rattle.instructions.specs.declared.group.calculation.Addend.{Addend}
use Rattle.instructions.specs.declared.group.calculation.Addend.TheVariants as addends
use Rattle.registers.specs.declared.operand.Condition.{Condition}
use Rattle.registers.specs.declared.operand.Condition.TheVariants as conditions
use Rattle.registers.specs.declared.operand.Direction.{Direction}
use Rattle.registers.specs.declared.operand.Direction.TheVariants as directions
use Rattle.registers.specs.declared.operand.Pair.{Pair}
use Rattle.registers.specs.declared.operand.Pair.TheVariants as pairs
use Rattle.registers.specs.declared.operand.Pointer.{Pointer}
use Rattle.registers.specs.declared.operand.Pointer.TheVariants as pointers
use Rattle.registers.specs.declared.operand.Register.{Register}
use Rattle.registers.specs.declared.operand.Register.TheVariants as registers
use Rattle.registers.specs.declared.operand.StackPair.{StackPair}
use Rattle.registers.specs.declared.operand.StackPair.TheVariants as stack_pairs
use Rattle.registers.specs.declared.registers.InterruptMode.{InterruptMode}
use Rattle.registers.specs.declared.registers.InterruptMode.TheVariants as modes
use Rattle.registers.specs.declared.operand.Index.{Index}
use Rattle.registers.specs.declared.operand.Index.TheVariants.{Ix, Iy}

abbrev pub register : Register → ℕ
register registers.B = 0
register registers.C = 1
register registers.D = 2
register registers.E = 3
register registers.H = 4
register registers.L = 5
register registers.A = 7

abbrev pub pair : Pair → ℕ
pair pairs.Bc = 0
pair pairs.De = 1
pair pairs.Hl = 2
pair pairs.Sp = 3

abbrev pub stack_pair : StackPair → ℕ
stack_pair stack_pairs.Bc = 0
stack_pair stack_pairs.De = 1
stack_pair stack_pairs.Hl = 2
stack_pair stack_pairs.Af = 3

abbrev pub pointer : Pointer → ℕ
pointer pointers.Bc = 0
pointer pointers.De = 1

abbrev pub condition : Condition → ℕ
condition conditions.Nz = 0
condition conditions.Z = 1
condition conditions.Nc = 2
condition conditions.C = 3
condition conditions.Po = 4
condition conditions.Pe = 5
condition conditions.P = 6
condition conditions.M = 7

abbrev pub direction : Direction → ℕ
direction directions.Up = 0
direction directions.Down = 1

-- The whole byte behind EDH.
abbrev pub mode : InterruptMode → ℕ
mode modes.Zero = 0x46
mode modes.One = 0x56
mode modes.Two = 0x5E

abbrev pub operation : Operation → ℕ
operation operations.Add = 0
operation operations.AddWithCarry = 1
operation operations.Subtract = 2
operation operations.SubtractWithCarry = 3
operation operations.And = 4
operation operations.Xor = 5
operation operations.Or = 6
operation operations.Compare = 7

abbrev pub rotate : Rotate → ℕ
rotate rotates.Rlc = 0
rotate rotates.Rrc = 1
rotate rotates.Rl = 2
rotate rotates.Rr = 3
rotate rotates.Sla = 4
rotate rotates.Sra = 5
rotate rotates.Srl = 7

abbrev pub addend : Addend → ℕ
addend addends.Bc = 0
addend addends.De = 1
addend addends.Itself = 2
addend addends.Sp = 3

abbrev pub prefix : Index → ℕ
prefix Ix = 0xDD
prefix Iy = 0xFD
