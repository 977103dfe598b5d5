-- A machine of the code as the definitions have it, and what its calls promise. Assumes nothing.
use Rattle.std.specs.Prelude.{◌≡◌, ℕ, ◌<◌}
use Rattle.memory.specs.Memory.{Mem}
use Rattle.panel.specs.Panel.{Make}
use Rattle.registers.specs.Registers.{Processor}
use Rattle.cycles.specs.Play.{Began, Played, Tally, World, play}
use Rattle.cycles.specs.Play as of_play
use Rattle.cycles.specs.Tree.{Cycles}
use Rattle.cycles.specs.Tree as tree
use Rattle.machine.specs.declared.cost.Cost.{Cost}
use Rattle.machine.specs.declared.state.Machine.{Machine}

abbrev pub processor : {M Q : Type 0} → Machine M Q → Processor
processor m = record { cpu = m.cpu; window = m.window }

abbrev pub tally : Cost → Tally
tally c = record { cycles = c.cycles; states = c.states }

-- Memory and panel by what they mean, and the time that has passed.
abbrev pub world : {M Q S : Type 0} → (M → Mem) → (Q → S) → Machine M Q → World S
world memory state m = of_play.world (memory m.memory) (state m.panel) (tally m.spent)

abbrev pub began : {M Q : Type 0} → Machine M Q → Began
began m = record { window = m.window }

-- From the machine c a row of cycles ends with the machine d.
abbrev pub Ends : {M Q S : Type 0} {n : ℕ} → Make S → (M → Mem) → (Q → S) → (Processor → Cycles Processor n) → Machine M Q → Machine M Q → Type 0
Ends make memory state cycles c d =
    record { value = processor d; world = world memory state d } ≡ play make (began c) (cycles (processor c)) (world memory state c)

-- A value that cycles come to, and the processor then.
pub record Got : Type 0 where
  pub value : ℕ
  pub then : Processor

abbrev pub got : {n : ℕ} → ℕ → Processor → Cycles Got n
got v p = tree.done (record { value = v; then = p })

-- From the machine c a row of cycles gives v and ends with the machine d.
abbrev pub Gives : {M Q S : Type 0} {n : ℕ} → Make S → (M → Mem) → (Q → S) → (Processor → Cycles Got n) → Machine M Q → ℕ → Machine M Q → Type 0
Gives make memory state cycles c v d =
    record { value = record { value = v; then = processor d }; world = world memory state d } ≡ play make (began c) (cycles (processor c)) (world memory state c)

-- The counters of the step under way are below n, so that they have room.
pub record Below {M Q : Type 0} (n : ℕ) (m : Machine M Q) : Type 0 where
  pub cycles : m.spent.cycles < n
  pub states : m.spent.states < n
