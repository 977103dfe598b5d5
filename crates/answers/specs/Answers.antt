-- Calls and answers of the code as the definition of a log has them. Assumes nothing.
use Rattle.std.specs.Prelude.{vec_items}
use Rattle.denial.specs.declared.Fault.{Fault}
use Rattle.denial.specs.Denials.{answered_by, told}
use Rattle.execution.specs.Steps.{answered_step}
use Rattle.processor.specs.Log as log
use Rattle.processor.specs.Step.{Faulted}
use Rattle.card.specs.Cards.{ran_of}
use Rattle.answers.specs.declared.call.Call.{Call}
use Rattle.answers.specs.declared.call.Call.TheVariants as call
use Rattle.answers.specs.declared.answer.Answer.{Answer}
use Rattle.answers.specs.declared.answer.Answer.TheVariants as answer

abbrev pub call_of : Call → log.Call
call_of call.Step = log.stepping
call_of (call.Run budget) = log.running budget
call_of call.Reset = log.resetting
call_of (call.Look w at n) = log.looking w at n

-- A fault by number and layer, and PC.
abbrev pub faulted : Fault → Faulted
faulted f = record { denial = told f.denial; pc = f.pc }

abbrev pub answer_of : Answer → log.Answer
answer_of (answer.Step r) = log.stepped (answered_step r)
answer_of (answer.Run r) = log.ran (answered_by ran_of r)
answer_of answer.Reset = log.was_reset
answer_of (answer.Look r) = log.saw (answered_by vec_items r)
