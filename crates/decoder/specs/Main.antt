-- The main page: what a first byte is. Assumes nothing.
use Rattle.std.specs.Prelude.{ℕ, ◌*◌, Some, None, Option}
use Rattle.arithmetic.specs.declared.operation.Operation.{Operation}
use Rattle.arithmetic.specs.declared.rotate.Rotate.TheVariants.{Rlc, Rrc, Rl, Rr}
use Rattle.registers.specs.declared.operand.Condition.TheVariants as if
use Rattle.registers.specs.declared.operand.Index.TheVariants.{Ix, Iy}
use Rattle.registers.specs.declared.operand.Pointer.TheVariants as pointer
use Rattle.registers.specs.declared.operand.Register.{Register}
use Rattle.decoder.specs.Field.{x, y, z, p, q, one_of_2, one_of_4, one_of_8, register, pair, stack_pair, condition, operation}
use Rattle.instructions.specs.declared.group.calculation.Arithmetic.TheVariants as arithmetic
use Rattle.instructions.specs.declared.group.call.Call.TheVariants as call
use Rattle.instructions.specs.declared.group.control.Control.TheVariants as control
use Rattle.instructions.specs.declared.group.exchange.Exchange.TheVariants as exchange
use Rattle.instructions.specs.declared.group.jump.Jump.TheVariants as jump
use Rattle.instructions.specs.declared.group.load.Load.TheVariants as load
use Rattle.instructions.specs.declared.group.port.Port.TheVariants as port
use Rattle.instructions.specs.declared.group.rotation.Rotation.TheVariants as rotation
use Rattle.instructions.specs.declared.instruction.Instruction.{Instruction}
use Rattle.instructions.specs.declared.instruction.Instruction.TheVariants.{Load, Exchange, Arithmetic, Rotate, Jump, Call, Port, Control}
use Rattle.decoder.specs.declared.page.First.{First}
use Rattle.decoder.specs.declared.page.First.TheVariants as first
use Rattle.decoder.specs.declared.page.Page.TheVariants as page

-- 00yyy000
abbrev pub relative : ℕ → Instruction
relative y =
    one_of_8 y
    (Control control.Nothing)
    (Exchange exchange.AfAlternate)
    (Jump jump.Count)
    (Jump jump.Relative)
    (Jump (jump.RelativeIf if.Nz))
    (Jump (jump.RelativeIf if.Z))
    (Jump (jump.RelativeIf if.Nc))
    (Jump (jump.RelativeIf if.C))

-- 00yyy010
abbrev pub indirect : ℕ → Instruction
indirect y =
    one_of_8 y
    (Load (load.PointerAccumulator pointer.Bc))
    (Load (load.AccumulatorPointer pointer.Bc))
    (Load (load.PointerAccumulator pointer.De))
    (Load (load.AccumulatorPointer pointer.De))
    (Load load.AddressHl)
    (Load load.HlAddress)
    (Load load.AddressAccumulator)
    (Load load.AccumulatorAddress)

-- 00ppq001
abbrev pub words : ℕ → Instruction
words y = one_of_2 (q y) (Load (load.PairWord (pair (p y)))) (Arithmetic (arithmetic.AddPair (pair (p y))))

-- 00ppq011
abbrev pub counted_words : ℕ → Instruction
counted_words y = one_of_2 (q y) (Arithmetic (arithmetic.IncrementPair (pair (p y)))) (Arithmetic (arithmetic.DecrementPair (pair (p y))))

-- 00rrr100, 00rrr101 and 00rrr110
abbrev pub incremented : Option Register → Instruction
incremented (Some r) = Arithmetic (arithmetic.IncrementRegister r)
incremented None = Arithmetic arithmetic.IncrementMemory

abbrev pub decremented : Option Register → Instruction
decremented (Some r) = Arithmetic (arithmetic.DecrementRegister r)
decremented None = Arithmetic arithmetic.DecrementMemory

abbrev pub set_to_byte : Option Register → Instruction
set_to_byte (Some r) = Load (load.RegisterByte r)
set_to_byte None = Load load.MemoryByte

-- 00yyy111
abbrev pub accumulator : ℕ → Instruction
accumulator y =
    one_of_8 y
    (Rotate (rotation.Accumulator Rlc))
    (Rotate (rotation.Accumulator Rrc))
    (Rotate (rotation.Accumulator Rl))
    (Rotate (rotation.Accumulator Rr))
    (Control control.DecimalAdjust)
    (Arithmetic arithmetic.Complement)
    (Control control.SetCarry)
    (Control control.ComplementCarry)

-- 00yyyzzz
abbrev pub low : ℕ → ℕ → Instruction
low y z =
    one_of_8 z
    (relative y)
    (words y)
    (indirect y)
    (counted_words y)
    (incremented (register y))
    (decremented (register y))
    (set_to_byte (register y))
    (accumulator y)

-- 01rrrqqq
abbrev pub moved : Option Register → Option Register → Instruction
moved (Some to) (Some from) = Load (load.RegisterRegister to from)
moved (Some to) None = Load (load.RegisterMemory to)
moved None (Some from) = Load (load.MemoryRegister from)
moved None None = Control control.Halt

-- 10yyyrrr
abbrev pub operated : Operation → Option Register → Instruction
operated o (Some r) = Arithmetic (arithmetic.Register o r)
operated o None = Arithmetic (arithmetic.Memory o)

-- 11ppq001
abbrev pub popped : ℕ → Instruction
popped y =
    one_of_2 (q y)
    (Exchange (exchange.Pop (stack_pair (p y))))
    (one_of_4 (p y) (Call call.Return) (Exchange exchange.Alternates) (Jump jump.Hl) (Load load.SpHl))

-- 11yyy011
abbrev pub others : ℕ → First
others y =
    one_of_8 y
    (first.Instruction (Jump jump.Always))
    (first.Prefix page.Bits)
    (first.Instruction (Port port.OutputAccumulator))
    (first.Instruction (Port port.InputAccumulator))
    (first.Instruction (Exchange exchange.StackHl))
    (first.Instruction (Exchange exchange.DeHl))
    (first.Instruction (Control control.DisableInterrupts))
    (first.Instruction (Control control.EnableInterrupts))

-- 11ppq101
abbrev pub pushed : ℕ → First
pushed y =
    one_of_2 (q y)
    (first.Instruction (Exchange (exchange.Push (stack_pair (p y)))))
    (one_of_4 (p y) (first.Instruction (Call call.Always)) (first.Prefix (page.Indexed Ix)) (first.Prefix page.Extended) (first.Prefix (page.Indexed Iy)))

-- 11yyyzzz
abbrev pub high : ℕ → ℕ → First
high y z =
    one_of_8 z
    (first.Instruction (Call (call.ReturnIf (condition y))))
    (first.Instruction (popped y))
    (first.Instruction (Jump (jump.If (condition y))))
    (others y)
    (first.Instruction (Call (call.If (condition y))))
    (pushed y)
    (first.Instruction (Arithmetic (arithmetic.Byte (operation y))))
    (first.Instruction (Call (call.Restart (y * 8))))

abbrev pub decoded : ℕ → First
decoded byte =
    one_of_4 (x byte)
    (first.Instruction (low (y byte) (z byte)))
    (first.Instruction (moved (register (y byte)) (register (z byte))))
    (first.Instruction (operated (operation (y byte)) (register (z byte))))
    (high (y byte) (z byte))
