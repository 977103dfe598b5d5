-- Jumps. Assumes nothing.
use Rattle.std.specs.Prelude.{ℕ, cond, ◌==◌}
use Rattle.arithmetic.specs.Block.{lowered}
use Rattle.registers.specs.Operands.{hl, holds, index_of}
use Rattle.registers.specs.Ports.{on_cpu}
use Rattle.registers.specs.Registers.{Processor, displaced, up, with_b, with_pc, word}
use Rattle.instructions.specs.declared.group.jump.Jump.{Jump}
use Rattle.instructions.specs.declared.group.jump.Jump.TheVariants as jump
use Rattle.cycles.specs.Tree.{Cycles, Cycles.internal}
use Rattle.processor.specs.Parts.{finish, operand, word_operand}

-- The address behind an instruction with an address in it, of which only the low byte was read.
abbrev pub past_high : Processor → Processor
past_high p = on_cpu (λ s. with_pc (up s.pc 1) s) p

-- A jump by a displacement from the next instruction.
abbrev pub relative : ℕ → Processor → Cycles Processor 2
relative e p = internal 2 (finish (λ s. with_pc (displaced s.pc e) s) p)

abbrev pub jumps : Jump → Processor → Cycles Processor 2
jumps jump.Always p = word_operand p (λ a q. finish (with_pc a) q)
jumps (jump.If f) p =
    operand p (λ low q. cond (holds f q.cpu.main.f) (operand q (λ high r. finish (with_pc (word high low)) r)) (finish (λ s. s) (past_high q)))
jumps jump.Hl p = finish (λ s. with_pc (hl s) s) p
jumps (jump.Index i) p = finish (λ s. with_pc (index_of i s) s) p
jumps jump.Relative p = operand p relative
jumps (jump.RelativeIf f) p = operand p (λ e q. cond (holds f q.cpu.main.f) (relative e q) (finish (λ s. s) q))
jumps jump.Count p =
    internal 1 (operand (on_cpu (λ s. with_b (lowered s.main.b) s) p) (λ e q. cond (q.cpu.main.b == 0) (finish (λ s. s) q) (relative e q)))
