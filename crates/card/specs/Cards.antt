-- A card of the code as the definitions have it, and what its calls answer. Assumes nothing.
use Rattle.std.specs.Prelude.{ℕ, cond, Some, None, Ok, Err, Option, Result}
use Rattle.denial.specs.declared.Denial.{Denial}
use Rattle.denial.specs.declared.Fault.{Fault}
use Rattle.denial.specs.Denials.{Told, answered_by, numbered, told}
use Rattle.memory.specs.Memory.{Mem}
use Rattle.panel.specs.Panel.{Make}
use Rattle.machine.specs.declared.cost.Cost.{Cost}
use Rattle.execution.specs.Steps as executing
use Rattle.execution.specs.Steps.{answered_step}
use Rattle.processor.specs.Run as running
use Rattle.processor.specs.Step.{Faulted, Model, Turn}
use Rattle.card.specs.declared.card.Card.{Card}
use Rattle.card.specs.declared.ran.Ran.{Ran}
use Rattle.card.specs.declared.ran.Stop.{Stop}
use Rattle.card.specs.declared.ran.Stop.TheVariants as stop

abbrev pub model : {M Q S : Type 0} → (M → Mem) → (Q → S) → Card M Q → Model S
model memory state c = executing.model memory state c.machine

-- What a caller sees of a step.
abbrev pub seen : {M Q S : Type 0} → (M → Mem) → (Q → S) → Result Cost Fault → Card M Q → Turn S
seen memory state r c = executing.seen memory state r c.machine

-- A stop, a fault and a run's answer.
abbrev pub stop_of : Stop → running.Stop
stop_of (stop.Fault why) = running.fault
stop_of stop.Halted = running.halted
stop_of stop.Spent = running.spent

abbrev pub fault_of : Stop → Option Faulted
fault_of (stop.Fault f) = Some (record { denial = told f.denial; pc = f.pc })
fault_of stop.Halted = None
fault_of stop.Spent = None

abbrev pub ran_of : Ran → running.Ran
ran_of r =
    record { stop = stop_of r.stop; steps = r.steps; tally = record { cycles = r.cycles; states = r.states }; fault = fault_of r.stop }

-- What a run came to, without the list of its steps.
pub record Came (S : Type 0) : Type 0 where
  pub answer : Result running.Ran Told
  pub card : Model S

abbrev pub came_to : {S : Type 0} → running.Finished S → Came S
came_to f = record { answer = Ok f.answer; card = f.card }

abbrev pub came : {M Q S : Type 0} → (M → Mem) → (Q → S) → Ran → Card M Q → Came S
came memory state r c = record { answer = Ok (ran_of r); card = model memory state c }

-- What a caller sees of a run.
abbrev pub ran : {M Q S : Type 0} → (M → Mem) → (Q → S) → Result Ran Denial → Card M Q → Came S
ran memory state r c = record { answer = answered_by ran_of r; card = model memory state c }

-- A run with a budget; one that is none is denied as 6, and changes nothing.
abbrev pub run_called : {S : Type 0} → Make S → ℕ → Model S → Came S
run_called make budget c =
    cond (running.is_budget budget) (came_to (running.run make budget c)) (record { answer = Err (numbered 6); card = c })
