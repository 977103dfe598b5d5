-- An undefined opcode byte: what UFO says of it, and its address in an instruction from start on. Assumes nothing.
use Rattle.std.specs.Prelude.{ℕ, Ok, Err, Result}
use Rattle.registers.specs.Registers.{Processor, up}
use Rattle.instructions.specs.declared.instruction.Instruction.{Instruction}
use Rattle.cycles.specs.Tree.{Cycles}
use Rattle.processor.specs.Instruction.{carried_out, trapped}
use Rattle.execution.specs.declared.undefined.Undefined.{Undefined}
use Rattle.execution.specs.declared.undefined.Undefined.TheVariants.{Second, Third}

abbrev pub ufo : Undefined → ℕ
ufo Second = 0
ufo Third = 1

-- A displacement is not counted.
abbrev pub address : Undefined → ℕ → ℕ
address Second start = up start 1
address Third start = up start 2

-- The instruction that the last opcode byte of one from start on was decoded to, or the trap of the byte that is undefined.
abbrev pub carried_out_or_trapped : Result Instruction Undefined → ℕ → ℕ → Processor → Cycles Processor 2
carried_out_or_trapped (Ok i) d start p = carried_out i d p
carried_out_or_trapped (Err byte) d start p = trapped (ufo byte) (address byte start) p
