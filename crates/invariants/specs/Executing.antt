-- What a step executes: the code at PC, unless a line is served or the card rests. Assumes nothing.
use Rattle.std.specs.Prelude.{ℕ, Bool, cond, List, [], ◌∷◌, Some, None, Option}
use Rattle.panel.specs.declared.line.Line.{Line}
use Rattle.panel.specs.Panel.{Make}
use Rattle.registers.specs.declared.registers.Mode.{Mode}
use Rattle.registers.specs.declared.registers.Mode.TheVariants.{Asleep, Halted, Running}
use Rattle.registers.specs.Registers.{up}
use Rattle.registers.specs.Window.{physical_of}
use Rattle.beginning.specs.declared.Beginning.{Beginning}
use Rattle.beginning.specs.Beginning.{beginning}
use Rattle.processor.specs.Interrupt.{accepted, wakes}
use Rattle.processor.specs.Step.{Model}

-- The byte that the window shows at a logical address.
abbrev pub shown_at : {S : Type 0} → Model S → ℕ → ℕ
shown_at c a = c.mem.byte (physical_of c.processor.window a)

-- The four bytes from PC on: no instruction has more.
abbrev pub code_at_pc : {S : Type 0} → Model S → List ℕ
code_at_pc c =
    shown_at c c.processor.cpu.pc ∷ shown_at c (up c.processor.cpu.pc 1) ∷ shown_at c (up c.processor.cpu.pc 2) ∷ shown_at c (up c.processor.cpu.pc 3) ∷ []

-- A running card executes if it accepts no line, a sleeping one if it wakes besides; a halted one never does.
abbrev pub executing : Mode → Option Line → Bool → Beginning → Option Beginning
executing Running (Some line) wake code = None
executing Running None wake code = Some code
executing Halted (Some line) wake code = None
executing Halted None wake code = None
executing Asleep (Some line) wake code = None
executing Asleep None wake code = cond wake (Some code) None

-- What the next step of a card executes, as the decoder reads the bytes at PC: an instruction, or code that traps.
abbrev pub executed_by : {S : Type 0} → Make S → Model S → Option Beginning
executed_by make c =
    executing c.processor.cpu.mode (accepted make c.panel c.processor.cpu) (wakes make c.panel c.processor.cpu)
    (beginning (code_at_pc c))
