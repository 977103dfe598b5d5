-- A step of a card. Assumes nothing.
use Rattle.std.specs.Prelude.{ℕ, Bool, true, false, cond, not, ◌&&◌, Some, None, Ok, Err, Option, Result}
use Rattle.denial.specs.Denials.{Told, numbered}
use Rattle.memory.specs.Memory.{Mem}
use Rattle.panel.specs.declared.line.Line.{Line}
use Rattle.panel.specs.declared.line.Line.TheVariants.{Int0, Int1, Int2, Nmi}
use Rattle.panel.specs.Panel.{Make}
use Rattle.registers.specs.declared.registers.InterruptMode.{InterruptMode}
use Rattle.registers.specs.declared.registers.InterruptMode.TheVariants.{One, Two, Zero}
use Rattle.registers.specs.Ports.{on_cpu}
use Rattle.registers.specs.Registers.{Processor, with_ei}
use Rattle.cycles.specs.Play.{Began, Played, Tally, no_time, play, world}
use Rattle.cycles.specs.Tree.{Cycles}
use Rattle.processor.specs.Interrupt.{accepted, is_restart, turned, wakes}

-- All of a card: registers and window, memory, and the state of its panel.
pub record Model (S : Type 0) : Type 0 where
  pub processor : Processor
  pub mem : Mem
  pub panel : S

-- A denied step: why, by number and layer, and where PC stood.
pub record Faulted : Type 0 where
  pub denial : Told
  pub pc : ℕ

-- What a step answers, its cycles and states or a fault, and the card after it.
pub record Turn (S : Type 0) : Type 0 where
  pub answer : Result Tally Faulted
  pub card : Model S

-- A denied step changes nothing.
abbrev pub denied : {S : Type 0} → ℕ → Model S → Turn S
denied number c = record { answer = Err (record { denial = numbered number; pc = c.processor.cpu.pc }); card = c }

abbrev pub mode_0 : InterruptMode → Bool
mode_0 Zero = true
mode_0 One = false
mode_0 Two = false

-- INT0 is accepted in mode 0, and the panel's byte is no restart.
abbrev pub no_restart : Option Line → InterruptMode → ℕ → Bool
no_restart (Some Int0) im byte = mode_0 im && not (is_restart byte)
no_restart (Some Nmi) im byte = false
no_restart (Some Int1) im byte = false
no_restart (Some Int2) im byte = false
no_restart None im byte = false

-- The row of cycles that a step plays. The flag of an EI before is down, unless this step is one.
abbrev pub cycles_of : {S : Type 0} → Make S → Model S → Cycles Processor 2
cycles_of make c =
    turned c.processor.cpu.mode (accepted make c.panel c.processor.cpu) (wakes make c.panel c.processor.cpu)
    (make.int0_byte c.panel) (on_cpu (with_ei false) c.processor)

abbrev pub began : {S : Type 0} → Model S → Began
began c = record { window = c.processor.window }

-- Last, the panel is told the states.
abbrev pub ended : {S : Type 0} → Make S → Played Processor S → Turn S
ended make d = record {
  answer = Ok d.world.tally;
  card = record { processor = d.value; mem = d.world.mem; panel = make.told d.world.panel d.world.tally.states };
}

abbrev pub taken : {S : Type 0} → Make S → Model S → Turn S
taken make c = ended make (play make (began c) (cycles_of make c) (world c.mem c.panel no_time))

-- The step: denied as 8 while the panel is full, and as 9 for an INT0 byte that is no restart; else it is taken.
abbrev pub step : {S : Type 0} → Make S → Model S → Turn S
step make c =
    cond (make.full c.panel) (denied 8 c)
    (cond (no_restart (accepted make c.panel c.processor.cpu) c.processor.cpu.im (make.int0_byte c.panel)) (denied 9 c)
    (taken make c))
