-- The page behind EDH. Assumes nothing.
use Rattle.std.specs.Prelude.{ℕ, Some, None, Option}
use Rattle.registers.specs.declared.operand.Direction.{Direction}
use Rattle.registers.specs.declared.operand.Register.{Register}
use Rattle.registers.specs.declared.registers.InterruptMode.TheVariants as mode
use Rattle.decoder.specs.Field.{x, y, z, p, q, one_of_2, one_of_4, one_of_8, register, pair, direction}
use Rattle.instructions.specs.declared.group.calculation.Arithmetic.TheVariants as arithmetic
use Rattle.instructions.specs.declared.group.block.Block.TheVariants as block
use Rattle.instructions.specs.declared.group.call.Call.TheVariants as call
use Rattle.instructions.specs.declared.group.control.Control.TheVariants as control
use Rattle.instructions.specs.declared.group.load.Load.TheVariants as load
use Rattle.instructions.specs.declared.group.port.Port.TheVariants as port
use Rattle.instructions.specs.declared.group.rotation.Rotation.TheVariants as rotation
use Rattle.instructions.specs.declared.instruction.Instruction.{Instruction}
use Rattle.instructions.specs.declared.instruction.Instruction.TheVariants.{Load, Arithmetic, Rotate, Call, Block, Port, Control}

-- 00rrr000, 00rrr001, 01rrr000 and 01rrr001
abbrev pub input_zero : Option Register → Option Instruction
input_zero (Some r) = Some (Port (port.InputZero r))
input_zero None = None

abbrev pub output_zero : Option Register → Option Instruction
output_zero (Some r) = Some (Port (port.OutputZero r))
output_zero None = None

abbrev pub input : Option Register → Option Instruction
input (Some r) = Some (Port (port.Input r))
input None = None

abbrev pub output : Option Register → Option Instruction
output (Some r) = Some (Port (port.Output r))
output None = None

-- 00rrr100
abbrev pub tested : Option Register → Instruction
tested (Some r) = Arithmetic (arithmetic.TestRegister r)
tested None = Arithmetic arithmetic.TestMemory

-- 00yyyzzz
abbrev pub low : ℕ → ℕ → Option Instruction
low y z =
    one_of_8 z (input_zero (register y)) (output_zero (register y)) None None (Some (tested (register y))) None None None

-- 01ppq010
abbrev pub with_carry : ℕ → Instruction
with_carry y =
    one_of_2 (q y) (Arithmetic (arithmetic.SubtractWithCarryPair (pair (p y)))) (Arithmetic (arithmetic.AddWithCarryPair (pair (p y))))

-- 01ppq011
abbrev pub words : ℕ → Instruction
words y = one_of_2 (q y) (Load (load.AddressPair (pair (p y)))) (Load (load.PairAddress (pair (p y))))

-- 01ppq100
abbrev pub tests : ℕ → Option Instruction
tests y =
    one_of_2 (q y)
    (one_of_4 (p y) (Some (Arithmetic arithmetic.Negate)) None (Some (Arithmetic arithmetic.TestByte)) (Some (Port port.Test)))
    (Some (Arithmetic (arithmetic.Multiply (pair (p y)))))

-- 01yyy101
abbrev pub returns : ℕ → Option Instruction
returns y =
    one_of_8 y (Some (Call call.ReturnFromNmi)) (Some (Call call.ReturnFromInterrupt)) None None None None None None

-- 01yyy110
abbrev pub modes : ℕ → Option Instruction
modes y =
    one_of_8 y
    (Some (Control (control.Mode mode.Zero)))
    None
    (Some (Control (control.Mode mode.One)))
    (Some (Control (control.Mode mode.Two)))
    None
    None
    (Some (Control control.Sleep))
    None

-- 01yyy111
abbrev pub accumulator : ℕ → Option Instruction
accumulator y =
    one_of_8 y
    (Some (Load load.IAccumulator))
    (Some (Load load.RAccumulator))
    (Some (Load load.AccumulatorI))
    (Some (Load load.AccumulatorR))
    (Some (Rotate rotation.DigitsRight))
    (Some (Rotate rotation.DigitsLeft))
    None
    None

-- 01yyyzzz
abbrev pub middle : ℕ → ℕ → Option Instruction
middle y z =
    one_of_8 z
    (input (register y))
    (output (register y))
    (Some (with_carry y))
    (Some (words y))
    (tests y)
    (returns y)
    (modes y)
    (accumulator y)

-- A block instruction, once or repeated.
abbrev pub repeatable : ℕ → Instruction → Instruction → Option Instruction
repeatable p once repeated = one_of_4 p None None (Some once) (Some repeated)

-- 10ppq011
abbrev pub outputs : ℕ → Direction → Instruction
outputs p way =
    one_of_4 p
    (Port (port.OutputZeroBlock way))
    (Port (port.OutputZeroRepeated way))
    (Port (port.OutputBlock way))
    (Port (port.OutputRepeated way))

-- 10ppqzzz
abbrev pub blocks : ℕ → Direction → ℕ → Option Instruction
blocks p way z =
    one_of_8 z
    (repeatable p (Block (block.Transfer way)) (Block (block.TransferRepeated way)))
    (repeatable p (Block (block.Compare way)) (Block (block.CompareRepeated way)))
    (repeatable p (Port (port.InputBlock way)) (Port (port.InputRepeated way)))
    (Some (outputs p way))
    None
    None
    None
    None

abbrev pub decoded : ℕ → Option Instruction
decoded byte =
    one_of_4 (x byte) (low (y byte) (z byte)) (middle (y byte) (z byte)) (blocks (p (y byte)) (direction (q (y byte))) (z byte)) None
