-- The page behind DDH CBH d or FDH CBH d: rotates, shifts and single bits of (IX+d). Assumes nothing.
use Rattle.std.specs.Prelude.{ℕ, cond, Some, None, Option, ◌==◌}
use Rattle.arithmetic.specs.declared.rotate.Rotate.{Rotate}
use Rattle.registers.specs.declared.operand.Index.{Index}
use Rattle.decoder.specs.Field.{x, y, z, one_of_4, rotate}
use Rattle.instructions.specs.declared.group.bit.Bit.TheVariants as bit
use Rattle.instructions.specs.declared.group.rotation.Rotation.TheVariants as rotation
use Rattle.instructions.specs.declared.instruction.Instruction.{Instruction}
use Rattle.instructions.specs.declared.instruction.Instruction.TheVariants as instruction

-- 00yyy110
abbrev pub rotated : Index → Option Rotate → Option Instruction
rotated i (Some kind) = Some (instruction.Rotate (rotation.Indexed kind i))
rotated i None = None

-- xxyyy110
abbrev pub operated : Index → ℕ → ℕ → Option Instruction
operated i x y =
    one_of_4 x
    (rotated i (rotate y))
    (Some (instruction.Bit (bit.TestIndexed y i)))
    (Some (instruction.Bit (bit.ResetIndexed y i)))
    (Some (instruction.Bit (bit.SetIndexed y i)))

abbrev pub decoded : Index → ℕ → Option Instruction
decoded i byte = cond (z byte == 6) (operated i (x byte) (y byte)) None
