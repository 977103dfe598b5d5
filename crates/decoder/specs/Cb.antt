-- The page behind CBH: rotates, shifts and single bits, of a register or (HL). Assumes nothing.
use Rattle.std.specs.Prelude.{ℕ, Some, None, Option}
use Rattle.arithmetic.specs.declared.rotate.Rotate.{Rotate}
use Rattle.registers.specs.declared.operand.Register.{Register}
use Rattle.decoder.specs.Field.{x, y, z, one_of_4, register, rotate}
use Rattle.instructions.specs.declared.group.bit.Bit.TheVariants as bit
use Rattle.instructions.specs.declared.group.rotation.Rotation.TheVariants as rotation
use Rattle.instructions.specs.declared.instruction.Instruction.{Instruction}
use Rattle.instructions.specs.declared.instruction.Instruction.TheVariants as instruction

-- 00yyyrrr
abbrev pub rotated : Option Rotate → Option Register → Option Instruction
rotated (Some kind) (Some r) = Some (instruction.Rotate (rotation.Register kind r))
rotated (Some kind) None = Some (instruction.Rotate (rotation.Memory kind))
rotated None place = None

-- 01bbbrrr, 10bbbrrr and 11bbbrrr
abbrev pub tested : ℕ → Option Register → Instruction
tested b (Some r) = instruction.Bit (bit.TestRegister b r)
tested b None = instruction.Bit (bit.TestMemory b)

abbrev pub reset : ℕ → Option Register → Instruction
reset b (Some r) = instruction.Bit (bit.ResetRegister b r)
reset b None = instruction.Bit (bit.ResetMemory b)

abbrev pub set : ℕ → Option Register → Instruction
set b (Some r) = instruction.Bit (bit.SetRegister b r)
set b None = instruction.Bit (bit.SetMemory b)

abbrev pub decoded : ℕ → Option Instruction
decoded byte =
    one_of_4 (x byte)
    (rotated (rotate (y byte)) (register (z byte)))
    (Some (tested (y byte) (register (z byte))))
    (Some (reset (y byte) (register (z byte))))
    (Some (set (y byte) (register (z byte))))
