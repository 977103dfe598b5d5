-- How many bytes a form has, prefixes, displacement and operands counted. Assumes nothing.
use Rattle.std.specs.Prelude.{ℕ}
use Rattle.instructions.specs.declared.group.load.Load.{Load}
use Rattle.instructions.specs.declared.group.load.Load.TheVariants as load
use Rattle.instructions.specs.declared.group.exchange.Exchange.{Exchange}
use Rattle.instructions.specs.declared.group.exchange.Exchange.TheVariants as exchange
use Rattle.instructions.specs.declared.group.calculation.Arithmetic.{Arithmetic}
use Rattle.instructions.specs.declared.group.calculation.Arithmetic.TheVariants as arithmetic
use Rattle.instructions.specs.declared.group.rotation.Rotation.{Rotation}
use Rattle.instructions.specs.declared.group.rotation.Rotation.TheVariants as rotation
use Rattle.instructions.specs.declared.group.bit.Bit.{Bit}
use Rattle.instructions.specs.declared.group.bit.Bit.TheVariants as bit
use Rattle.instructions.specs.declared.group.jump.Jump.{Jump}
use Rattle.instructions.specs.declared.group.jump.Jump.TheVariants as jump
use Rattle.instructions.specs.declared.group.call.Call.{Call}
use Rattle.instructions.specs.declared.group.call.Call.TheVariants as call
use Rattle.instructions.specs.declared.group.block.Block.{Block}
use Rattle.instructions.specs.declared.group.block.Block.TheVariants as block
use Rattle.instructions.specs.declared.group.port.Port.{Port}
use Rattle.instructions.specs.declared.group.port.Port.TheVariants as port
use Rattle.instructions.specs.declared.group.control.Control.{Control}
use Rattle.instructions.specs.declared.group.control.Control.TheVariants as control
use Rattle.instructions.specs.declared.instruction.Instruction.{Instruction}
use Rattle.instructions.specs.declared.instruction.Instruction.TheVariants as instruction

abbrev pub of_load : Load → ℕ
of_load (load.RegisterRegister to from) = 1
of_load (load.RegisterByte r) = 2
of_load (load.RegisterMemory r) = 1
of_load (load.RegisterIndexed r i) = 3
of_load (load.MemoryRegister r) = 1
of_load load.MemoryByte = 2
of_load (load.IndexedRegister i r) = 3
of_load (load.IndexedByte i) = 4
of_load (load.AccumulatorPointer p) = 1
of_load (load.PointerAccumulator p) = 1
of_load load.AccumulatorAddress = 3
of_load load.AddressAccumulator = 3
of_load load.AccumulatorI = 2
of_load load.AccumulatorR = 2
of_load load.IAccumulator = 2
of_load load.RAccumulator = 2
of_load (load.PairWord p) = 3
of_load (load.IndexWord i) = 4
of_load load.HlAddress = 3
of_load (load.PairAddress p) = 4
of_load (load.IndexAddress i) = 4
of_load load.AddressHl = 3
of_load (load.AddressPair p) = 4
of_load (load.AddressIndex i) = 4
of_load load.SpHl = 1
of_load (load.SpIndex i) = 2

abbrev pub of_exchange : Exchange → ℕ
of_exchange (exchange.Push p) = 1
of_exchange (exchange.PushIndex i) = 2
of_exchange (exchange.Pop p) = 1
of_exchange (exchange.PopIndex i) = 2
of_exchange exchange.AfAlternate = 1
of_exchange exchange.DeHl = 1
of_exchange exchange.Alternates = 1
of_exchange exchange.StackHl = 1
of_exchange (exchange.StackIndex i) = 2

abbrev pub of_arithmetic : Arithmetic → ℕ
of_arithmetic (arithmetic.Register o r) = 1
of_arithmetic (arithmetic.Byte o) = 2
of_arithmetic (arithmetic.Memory o) = 1
of_arithmetic (arithmetic.Indexed o i) = 3
of_arithmetic (arithmetic.IncrementRegister r) = 1
of_arithmetic arithmetic.IncrementMemory = 1
of_arithmetic (arithmetic.IncrementIndexed i) = 3
of_arithmetic (arithmetic.DecrementRegister r) = 1
of_arithmetic arithmetic.DecrementMemory = 1
of_arithmetic (arithmetic.DecrementIndexed i) = 3
of_arithmetic (arithmetic.TestRegister r) = 2
of_arithmetic arithmetic.TestByte = 3
of_arithmetic arithmetic.TestMemory = 2
of_arithmetic arithmetic.Complement = 1
of_arithmetic arithmetic.Negate = 2
of_arithmetic (arithmetic.Multiply p) = 2
of_arithmetic (arithmetic.AddPair p) = 1
of_arithmetic (arithmetic.AddWithCarryPair p) = 2
of_arithmetic (arithmetic.SubtractWithCarryPair p) = 2
of_arithmetic (arithmetic.AddIndex i a) = 2
of_arithmetic (arithmetic.IncrementPair p) = 1
of_arithmetic (arithmetic.IncrementIndex i) = 2
of_arithmetic (arithmetic.DecrementPair p) = 1
of_arithmetic (arithmetic.DecrementIndex i) = 2

abbrev pub of_rotation : Rotation → ℕ
of_rotation (rotation.Accumulator kind) = 1
of_rotation (rotation.Register kind r) = 2
of_rotation (rotation.Memory kind) = 2
of_rotation (rotation.Indexed kind i) = 4
of_rotation rotation.DigitsLeft = 2
of_rotation rotation.DigitsRight = 2

abbrev pub of_bit : Bit → ℕ
of_bit (bit.TestRegister b r) = 2
of_bit (bit.TestMemory b) = 2
of_bit (bit.TestIndexed b i) = 4
of_bit (bit.ResetRegister b r) = 2
of_bit (bit.ResetMemory b) = 2
of_bit (bit.ResetIndexed b i) = 4
of_bit (bit.SetRegister b r) = 2
of_bit (bit.SetMemory b) = 2
of_bit (bit.SetIndexed b i) = 4

abbrev pub of_jump : Jump → ℕ
of_jump jump.Always = 3
of_jump (jump.If f) = 3
of_jump jump.Hl = 1
of_jump (jump.Index i) = 2
of_jump jump.Relative = 2
of_jump (jump.RelativeIf f) = 2
of_jump jump.Count = 2

abbrev pub of_call : Call → ℕ
of_call call.Always = 3
of_call (call.If f) = 3
of_call call.Return = 1
of_call (call.ReturnIf f) = 1
of_call call.ReturnFromInterrupt = 2
of_call call.ReturnFromNmi = 2
of_call (call.Restart b) = 1

abbrev pub of_block : Block → ℕ
of_block (block.Transfer way) = 2
of_block (block.TransferRepeated way) = 2
of_block (block.Compare way) = 2
of_block (block.CompareRepeated way) = 2

abbrev pub of_port : Port → ℕ
of_port port.InputAccumulator = 2
of_port (port.Input r) = 2
of_port (port.InputZero r) = 3
of_port port.OutputAccumulator = 2
of_port (port.Output r) = 2
of_port (port.OutputZero r) = 3
of_port port.Test = 3
of_port (port.InputBlock way) = 2
of_port (port.InputRepeated way) = 2
of_port (port.OutputBlock way) = 2
of_port (port.OutputRepeated way) = 2
of_port (port.OutputZeroBlock way) = 2
of_port (port.OutputZeroRepeated way) = 2

abbrev pub of_control : Control → ℕ
of_control control.Nothing = 1
of_control control.DecimalAdjust = 1
of_control control.SetCarry = 1
of_control control.ComplementCarry = 1
of_control control.Halt = 1
of_control control.Sleep = 2
of_control control.DisableInterrupts = 1
of_control control.EnableInterrupts = 1
of_control (control.Mode m) = 2

abbrev pub length : Instruction → ℕ
length (instruction.Load form) = of_load form
length (instruction.Exchange form) = of_exchange form
length (instruction.Arithmetic form) = of_arithmetic form
length (instruction.Rotate form) = of_rotation form
length (instruction.Bit form) = of_bit form
length (instruction.Jump form) = of_jump form
length (instruction.Call form) = of_call form
length (instruction.Block form) = of_block form
length (instruction.Port form) = of_port form
length (instruction.Control form) = of_control form
