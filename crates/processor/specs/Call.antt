-- Calls, returns and restarts. Assumes nothing.
use Rattle.std.specs.Prelude.{ℕ, cond}
use Rattle.registers.specs.Operands.{holds}
use Rattle.registers.specs.Registers.{Processor, with_ief1, with_pc, word}
use Rattle.instructions.specs.declared.group.call.Call.{Call}
use Rattle.instructions.specs.declared.group.call.Call.TheVariants as call
use Rattle.cycles.specs.Tree.{Cycles, Cycles.internal}
use Rattle.processor.specs.Jump.{past_high}
use Rattle.processor.specs.Parts.{finish, operand, pop, push, word_operand}

-- PC is pushed, and goes to an address.
abbrev pub enter : ℕ → Processor → Cycles Processor 2
enter a p = push p.cpu.pc p (λ q. finish (with_pc a) q)

abbrev pub returns : Processor → Cycles Processor 2
returns p = pop p (λ a q. finish (with_pc a) q)

abbrev pub calls : Call → Processor → Cycles Processor 2
calls call.Always p = word_operand p (λ a q. internal 1 (enter a q))
calls (call.If f) p =
    operand p (λ low q. cond (holds f q.cpu.main.f) (operand q (λ high r. internal 1 (enter (word high low) r))) (finish (λ s. s) (past_high q)))
calls call.Return p = returns p
calls (call.ReturnIf f) p = cond (holds f p.cpu.main.f) (internal 1 (returns p)) (internal 2 (finish (λ s. s) p))
calls call.ReturnFromInterrupt p = returns p
calls call.ReturnFromNmi p = pop p (λ a q. finish (λ s. with_pc a (with_ief1 s.ief2 s)) q)
calls (call.Restart a) p = internal 2 (enter a p)
