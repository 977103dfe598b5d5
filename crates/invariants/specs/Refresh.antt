-- R keeps its bit 7 in every step, except in one that executes LD R,A. Assumes nothing.
use Rattle.std.specs.Prelude.{◌≡◌, ◌/◌, ◌≢◌, Some, Option}
use Rattle.panel.specs.Panel.{Make}
use Rattle.instructions.specs.declared.group.load.Load.TheVariants.{RAccumulator}
use Rattle.instructions.specs.declared.instruction.Instruction.TheVariants.{Load}
use Rattle.beginning.specs.declared.Beginning.{Beginning}
use Rattle.beginning.specs.declared.Beginning.TheVariants.{Instruction}
use Rattle.processor.specs.Step.{Model, step}
use Rattle.invariants.specs.Executing.{executed_by}

abbrev pub ld_r_a : Option Beginning
ld_r_a = Some (Instruction (Load RAccumulator))

abbrev pub RefreshKept : {S : Type 0} → Make S → Type 0
RefreshKept {S} make =
    (c : Model S) → executed_by make c ≢ ld_r_a →
    (step make c).card.processor.cpu.r / 128 ≡ c.processor.cpu.r / 128
