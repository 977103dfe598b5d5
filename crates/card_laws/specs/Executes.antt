-- When a step executes the instruction at PC. Assumes nothing.
use Rattle.std.specs.Prelude.{◌≡◌, Bool, true, false, None}
use Rattle.panel.specs.declared.line.Line.{Line}
use Rattle.panel.specs.Panel.{Make}
use Rattle.registers.specs.declared.registers.Mode.{Mode}
use Rattle.registers.specs.declared.registers.Mode.TheVariants.{Asleep, Halted, Running}
use Rattle.processor.specs.Interrupt.{accepted, wakes}
use Rattle.processor.specs.Step.{Model}

-- A running card does, and a sleeping one that wakes without a line.
abbrev pub goes : Mode → Bool → Bool
goes Running wake = true
goes Halted wake = false
goes Asleep wake = wake

-- The panel is not full, no line is accepted, and the card is running, or asleep and woken.
pub record Executes {S : Type 0} (make : Make S) (c : Model S) : Type 0 where
  pub room : make.full c.panel ≡ false
  pub no_line : accepted make c.panel c.processor.cpu ≡ None
  pub going : goes c.processor.cpu.mode (wakes make c.panel c.processor.cpu) ≡ true

-- A panel's state that is not full and asks for no line.
pub record Quiet {S : Type 0} (make : Make S) (s : S) : Type 0 where
  pub room : make.full s ≡ false
  pub silent : (line : Line) → make.asks s line ≡ false
