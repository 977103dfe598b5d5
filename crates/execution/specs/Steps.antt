-- What a step in code answers and leaves, as the definition has it. Assumes nothing.
use Rattle.std.specs.Prelude.{ℕ, Bool, false, Ok, Err, Option, Result}
use Rattle.denial.specs.declared.Fault.{Fault}
use Rattle.denial.specs.Denials.{told}
use Rattle.memory.specs.Memory.{Agree, Mem}
use Rattle.panel.specs.declared.line.Line.{Line}
use Rattle.panel.specs.Panel.{Make}
use Rattle.registers.specs.Ports.{on_cpu}
use Rattle.registers.specs.Registers.{with_ei}
use Rattle.cycles.specs.Footprint.{OpensWithin, on_pages}
use Rattle.cycles.specs.Play.{Tally, no_time, play, world}
use Rattle.processor.specs.Interrupt.{turned, wakes}
use Rattle.processor.specs.Seclusion.{Both}
use Rattle.processor.specs.Step.{Faulted, Model, Turn, began, ended, step}
use Rattle.machine.specs.declared.cost.Cost.{Cost}
use Rattle.machine.specs.declared.state.Machine.{Machine}
use Rattle.machine.specs.Machines.{processor, tally}

abbrev pub model : {M Q S : Type 0} → (M → Mem) → (Q → S) → Machine M Q → Model S
model memory state m = record { processor = processor m; mem = memory m.memory; panel = state m.panel }

-- A step's answer: its cycles and states, or a fault by number and layer, and PC.
abbrev pub answered_step : Result Cost Fault → Result Tally Faulted
answered_step (Ok cost) = Ok (tally cost)
answered_step (Err f) = Err (record { denial = told f.denial; pc = f.pc })

-- What a caller sees of a step.
abbrev pub seen : {M Q S : Type 0} → (M → Mem) → (Q → S) → Result Cost Fault → Machine M Q → Turn S
seen memory state r m = record { answer = answered_step r; card = model memory state m }

-- A step that is taken, with the line that is accepted.
abbrev pub took_line : {S : Type 0} → Make S → Option Line → Model S → Turn S
took_line make line c =
    ended make
    (play make (began c) (turned c.processor.cpu.mode line (wakes make c.panel c.processor.cpu) (make.int0_byte c.panel) (on_cpu (with_ei false) c.processor))
    (world c.mem c.panel no_time))

-- The same card over another memory.
abbrev pub over : {S : Type 0} → Mem → Model S → Model S
over n c = record { processor = c.processor; mem = n; panel = c.panel }

-- For every set of pages that holds the sixteen mapped ones and every memory that agrees on it: over that memory the step gives
-- the same answer, registers and panel state, the memories agree on the set after it, and nothing outside it has changed.
abbrev pub Secluded : {S : Type 0} → Make S → Model S → Turn S → Type 0
Secluded make c turn =
    (pages : ℕ → Bool) (n : Mem) → OpensWithin pages c.processor.window → Agree (on_pages pages) c.mem n → Both pages c (over n c) turn (step make (over n c))
