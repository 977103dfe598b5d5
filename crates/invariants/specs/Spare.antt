-- F keeps its bits 5 and 3, which no flag uses, in every step, except in one that executes POP AF or EX AF,AF'.
-- Assumes nothing.
use Rattle.std.specs.Prelude.{◌≡◌, ◌≢◌, Some, Option}
use Rattle.arithmetic.specs.declared.flags.Flags.{Flags}
use Rattle.panel.specs.Panel.{Make}
use Rattle.registers.specs.declared.operand.StackPair.TheVariants.{Af}
use Rattle.instructions.specs.declared.group.exchange.Exchange.TheVariants.{AfAlternate, Pop}
use Rattle.instructions.specs.declared.instruction.Instruction.TheVariants.{Exchange}
use Rattle.beginning.specs.declared.Beginning.{Beginning}
use Rattle.beginning.specs.declared.Beginning.TheVariants.{Instruction}
use Rattle.processor.specs.Step.{Model, step}
use Rattle.invariants.specs.Executing.{executed_by}

abbrev pub pop_af : Option Beginning
pop_af = Some (Instruction (Exchange (Pop Af)))

abbrev pub ex_af : Option Beginning
ex_af = Some (Instruction (Exchange AfAlternate))

abbrev pub SpareAlike : Flags → Flags → Type 0
SpareAlike f g = (f.bit5 ≡ g.bit5) × (f.bit3 ≡ g.bit3)

abbrev pub SpareKept : {S : Type 0} → Make S → Type 0
SpareKept {S} make =
    (c : Model S) → executed_by make c ≢ pop_af → executed_by make c ≢ ex_af →
    SpareAlike (step make c).card.processor.cpu.main.f c.processor.cpu.main.f
