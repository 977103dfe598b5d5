-- The opcode bytes of each form, as the table of instructions prints them; a displacement between them is left out.
-- Assumes nothing.
use Rattle.std.specs.Prelude.{ℕ, ◌+◌, ◌*◌, List, [], ◌∷◌}
use Rattle.registers.specs.declared.operand.Index.{Index}
use Rattle.instructions_laws.specs.Codes.{register, pair, stack_pair, pointer, addend, condition, direction, mode, operation, rotate, prefix}
use Rattle.instructions.specs.declared.group.load.Load.{Load}
use Rattle.instructions.specs.declared.group.load.Load.TheVariants as load
use Rattle.instructions.specs.declared.group.exchange.Exchange.{Exchange}
use Rattle.instructions.specs.declared.group.exchange.Exchange.TheVariants as exchange
use Rattle.instructions.specs.declared.group.calculation.Arithmetic.{Arithmetic}
use Rattle.instructions.specs.declared.group.calculation.Arithmetic.TheVariants as arithmetic
use Rattle.instructions.specs.declared.group.rotation.Rotation.{Rotation}
use Rattle.instructions.specs.declared.group.rotation.Rotation.TheVariants as rotation
use Rattle.instructions.specs.declared.group.bit.Bit.{Bit}
use Rattle.instructions.specs.declared.group.bit.Bit.TheVariants as bit
use Rattle.instructions.specs.declared.group.jump.Jump.{Jump}
use Rattle.instructions.specs.declared.group.jump.Jump.TheVariants as jump
use Rattle.instructions.specs.declared.group.call.Call.{Call}
use Rattle.instructions.specs.declared.group.call.Call.TheVariants as call
use Rattle.instructions.specs.declared.group.block.Block.{Block}
use Rattle.instructions.specs.declared.group.block.Block.TheVariants as block
use Rattle.instructions.specs.declared.group.port.Port.{Port}
use Rattle.instructions.specs.declared.group.port.Port.TheVariants as port
use Rattle.instructions.specs.declared.group.control.Control.{Control}
use Rattle.instructions.specs.declared.group.control.Control.TheVariants as control
use Rattle.instructions.specs.declared.instruction.Instruction.{Instruction}
use Rattle.instructions.specs.declared.instruction.Instruction.TheVariants as instruction

abbrev pub main : ℕ → List ℕ
main b = b ∷ []

abbrev pub cb : ℕ → List ℕ
cb b = 0xCB ∷ b ∷ []

abbrev pub ed : ℕ → List ℕ
ed b = 0xED ∷ b ∷ []

abbrev pub indexed : Index → ℕ → List ℕ
indexed i b = prefix i ∷ b ∷ []

abbrev pub indexed_cb : Index → ℕ → List ℕ
indexed_cb i b = prefix i ∷ 0xCB ∷ b ∷ []

abbrev pub of_load : Load → List ℕ
of_load (load.RegisterRegister to from) = main (0x40 + 8 * register to + register from)
of_load (load.RegisterByte r) = main (0x06 + 8 * register r)
of_load (load.RegisterMemory r) = main (0x46 + 8 * register r)
of_load (load.RegisterIndexed r i) = indexed i (0x46 + 8 * register r)
of_load (load.MemoryRegister r) = main (0x70 + register r)
of_load load.MemoryByte = main 0x36
of_load (load.IndexedRegister i r) = indexed i (0x70 + register r)
of_load (load.IndexedByte i) = indexed i 0x36
of_load (load.AccumulatorPointer p) = main (0x0A + 16 * pointer p)
of_load (load.PointerAccumulator p) = main (0x02 + 16 * pointer p)
of_load load.AccumulatorAddress = main 0x3A
of_load load.AddressAccumulator = main 0x32
of_load load.AccumulatorI = ed 0x57
of_load load.AccumulatorR = ed 0x5F
of_load load.IAccumulator = ed 0x47
of_load load.RAccumulator = ed 0x4F
of_load (load.PairWord p) = main (0x01 + 16 * pair p)
of_load (load.IndexWord i) = indexed i 0x21
of_load load.HlAddress = main 0x2A
of_load (load.PairAddress p) = ed (0x4B + 16 * pair p)
of_load (load.IndexAddress i) = indexed i 0x2A
of_load load.AddressHl = main 0x22
of_load (load.AddressPair p) = ed (0x43 + 16 * pair p)
of_load (load.AddressIndex i) = indexed i 0x22
of_load load.SpHl = main 0xF9
of_load (load.SpIndex i) = indexed i 0xF9

abbrev pub of_exchange : Exchange → List ℕ
of_exchange (exchange.Push p) = main (0xC5 + 16 * stack_pair p)
of_exchange (exchange.PushIndex i) = indexed i 0xE5
of_exchange (exchange.Pop p) = main (0xC1 + 16 * stack_pair p)
of_exchange (exchange.PopIndex i) = indexed i 0xE1
of_exchange exchange.AfAlternate = main 0x08
of_exchange exchange.DeHl = main 0xEB
of_exchange exchange.Alternates = main 0xD9
of_exchange exchange.StackHl = main 0xE3
of_exchange (exchange.StackIndex i) = indexed i 0xE3

abbrev pub of_arithmetic : Arithmetic → List ℕ
of_arithmetic (arithmetic.Register o r) = main (0x80 + 8 * operation o + register r)
of_arithmetic (arithmetic.Byte o) = main (0xC6 + 8 * operation o)
of_arithmetic (arithmetic.Memory o) = main (0x86 + 8 * operation o)
of_arithmetic (arithmetic.Indexed o i) = indexed i (0x86 + 8 * operation o)
of_arithmetic (arithmetic.IncrementRegister r) = main (0x04 + 8 * register r)
of_arithmetic arithmetic.IncrementMemory = main 0x34
of_arithmetic (arithmetic.IncrementIndexed i) = indexed i 0x34
of_arithmetic (arithmetic.DecrementRegister r) = main (0x05 + 8 * register r)
of_arithmetic arithmetic.DecrementMemory = main 0x35
of_arithmetic (arithmetic.DecrementIndexed i) = indexed i 0x35
of_arithmetic (arithmetic.TestRegister r) = ed (0x04 + 8 * register r)
of_arithmetic arithmetic.TestByte = ed 0x64
of_arithmetic arithmetic.TestMemory = ed 0x34
of_arithmetic arithmetic.Complement = main 0x2F
of_arithmetic arithmetic.Negate = ed 0x44
of_arithmetic (arithmetic.Multiply p) = ed (0x4C + 16 * pair p)
of_arithmetic (arithmetic.AddPair p) = main (0x09 + 16 * pair p)
of_arithmetic (arithmetic.AddWithCarryPair p) = ed (0x4A + 16 * pair p)
of_arithmetic (arithmetic.SubtractWithCarryPair p) = ed (0x42 + 16 * pair p)
of_arithmetic (arithmetic.AddIndex i a) = indexed i (0x09 + 16 * addend a)
of_arithmetic (arithmetic.IncrementPair p) = main (0x03 + 16 * pair p)
of_arithmetic (arithmetic.IncrementIndex i) = indexed i 0x23
of_arithmetic (arithmetic.DecrementPair p) = main (0x0B + 16 * pair p)
of_arithmetic (arithmetic.DecrementIndex i) = indexed i 0x2B

abbrev pub of_rotation : Rotation → List ℕ
of_rotation (rotation.Accumulator kind) = main (0x07 + 8 * rotate kind)
of_rotation (rotation.Register kind r) = cb (8 * rotate kind + register r)
of_rotation (rotation.Memory kind) = cb (0x06 + 8 * rotate kind)
of_rotation (rotation.Indexed kind i) = indexed_cb i (0x06 + 8 * rotate kind)
of_rotation rotation.DigitsLeft = ed 0x6F
of_rotation rotation.DigitsRight = ed 0x67

abbrev pub of_bit : Bit → List ℕ
of_bit (bit.TestRegister b r) = cb (0x40 + 8 * b + register r)
of_bit (bit.TestMemory b) = cb (0x46 + 8 * b)
of_bit (bit.TestIndexed b i) = indexed_cb i (0x46 + 8 * b)
of_bit (bit.ResetRegister b r) = cb (0x80 + 8 * b + register r)
of_bit (bit.ResetMemory b) = cb (0x86 + 8 * b)
of_bit (bit.ResetIndexed b i) = indexed_cb i (0x86 + 8 * b)
of_bit (bit.SetRegister b r) = cb (0xC0 + 8 * b + register r)
of_bit (bit.SetMemory b) = cb (0xC6 + 8 * b)
of_bit (bit.SetIndexed b i) = indexed_cb i (0xC6 + 8 * b)

abbrev pub of_jump : Jump → List ℕ
of_jump jump.Always = main 0xC3
of_jump (jump.If f) = main (0xC2 + 8 * condition f)
of_jump jump.Hl = main 0xE9
of_jump (jump.Index i) = indexed i 0xE9
of_jump jump.Relative = main 0x18
of_jump (jump.RelativeIf f) = main (0x20 + 8 * condition f)
of_jump jump.Count = main 0x10

abbrev pub of_call : Call → List ℕ
of_call call.Always = main 0xCD
of_call (call.If f) = main (0xC4 + 8 * condition f)
of_call call.Return = main 0xC9
of_call (call.ReturnIf f) = main (0xC0 + 8 * condition f)
of_call call.ReturnFromInterrupt = ed 0x4D
of_call call.ReturnFromNmi = ed 0x45
of_call (call.Restart v) = main (0xC7 + v)

abbrev pub of_block : Block → List ℕ
of_block (block.Transfer way) = ed (0xA0 + 8 * direction way)
of_block (block.TransferRepeated way) = ed (0xB0 + 8 * direction way)
of_block (block.Compare way) = ed (0xA1 + 8 * direction way)
of_block (block.CompareRepeated way) = ed (0xB1 + 8 * direction way)

abbrev pub of_port : Port → List ℕ
of_port port.InputAccumulator = main 0xDB
of_port (port.Input r) = ed (0x40 + 8 * register r)
of_port (port.InputZero r) = ed (0x00 + 8 * register r)
of_port port.OutputAccumulator = main 0xD3
of_port (port.Output r) = ed (0x41 + 8 * register r)
of_port (port.OutputZero r) = ed (0x01 + 8 * register r)
of_port port.Test = ed 0x74
of_port (port.InputBlock way) = ed (0xA2 + 8 * direction way)
of_port (port.InputRepeated way) = ed (0xB2 + 8 * direction way)
of_port (port.OutputBlock way) = ed (0xA3 + 8 * direction way)
of_port (port.OutputRepeated way) = ed (0xB3 + 8 * direction way)
of_port (port.OutputZeroBlock way) = ed (0x83 + 8 * direction way)
of_port (port.OutputZeroRepeated way) = ed (0x93 + 8 * direction way)

abbrev pub of_control : Control → List ℕ
of_control control.Nothing = main 0x00
of_control control.DecimalAdjust = main 0x27
of_control control.SetCarry = main 0x37
of_control control.ComplementCarry = main 0x3F
of_control control.Halt = main 0x76
of_control control.Sleep = ed 0x76
of_control control.DisableInterrupts = main 0xF3
of_control control.EnableInterrupts = main 0xFB
of_control (control.Mode m) = ed (mode m)

abbrev pub opcode : Instruction → List ℕ
opcode (instruction.Load form) = of_load form
opcode (instruction.Exchange form) = of_exchange form
opcode (instruction.Arithmetic form) = of_arithmetic form
opcode (instruction.Rotate form) = of_rotation form
opcode (instruction.Bit form) = of_bit form
opcode (instruction.Jump form) = of_jump form
opcode (instruction.Call form) = of_call form
opcode (instruction.Block form) = of_block form
opcode (instruction.Port form) = of_port form
opcode (instruction.Control form) = of_control form
