-- The code fetches of a step: byte k at PC + k, and k below the length that the decoder gives. Assumes nothing.
use Rattle.std.specs.Prelude.{◌≡◌, ℕ, ◌+◌, ◌%◌, ◌<◌, Some, None, Option}
use Rattle.panel.specs.Panel.{Make}
use Rattle.registers.specs.Registers.{up}
use Rattle.instructions.specs.Length.{length}
use Rattle.beginning.specs.declared.Beginning.{Beginning}
use Rattle.beginning.specs.declared.Beginning.TheVariants.{CutEnd, Instruction, UndefinedSecond, UndefinedThird}
use Rattle.cycles.specs.Play.{Began, World, answer_of, byte_at, no_time, world, world_after}
use Rattle.cycles.specs.Tree.{Cycles, Cycles.acknowledge, Cycles.done, Cycles.fetch, Cycles.input, Cycles.internal, Cycles.output, Cycles.read, Cycles.write}
use Rattle.processor.specs.Step.{Model, began, cycles_of}
use Rattle.invariants.specs.Executing.{executed_by}

-- How many bytes of code a step may fetch: an instruction's length, what is read up to a trap, and none if nothing is executed.
abbrev pub bytes_in : Option Beginning → ℕ
bytes_in (Some (Instruction i)) = length i
bytes_in (Some UndefinedSecond) = 2
bytes_in (Some UndefinedThird) = 4
bytes_in (Some CutEnd) = 0
bytes_in None = 0

-- Played after k code fetches, the tree fetches code at PC + k, then at PC + k + 1 and so on, and at most n bytes in all.
-- An address counts modulo 65,536.
abbrev pub FetchesBelow : {A S : Type 0} {m : ℕ} → ℕ → ℕ → ℕ → Make S → Began → Cycles A m → World S → Type 0
FetchesBelow n pc k make began (done x) v = Unit {0}
FetchesBelow n pc k make began (fetch code a next) v =
    (k < n) × (a % 65536 ≡ up pc k) × FetchesBelow n pc (k + 1) make began (next (byte_at began a v)) (world_after make began (fetch code a next) v)
FetchesBelow n pc k make began (read a next) v =
    FetchesBelow n pc k make began (next (byte_at began a v)) (world_after make began (read a next) v)
FetchesBelow n pc k make began (write a b next) v =
    FetchesBelow n pc k make began next (world_after make began (write a b next) v)
FetchesBelow n pc k make began (input p next) v =
    FetchesBelow n pc k make began (next (answer_of make v.panel p)) (world_after make began (input p next) v)
FetchesBelow n pc k make began (output p b next) v =
    FetchesBelow n pc k make began next (world_after make began (output p b next) v)
FetchesBelow n pc k make began (acknowledge line states next) v =
    FetchesBelow n pc k make began next (world_after make began (acknowledge line states next) v)
FetchesBelow n pc k make began (internal states next) v =
    FetchesBelow n pc k make began next (world_after make began (internal states next) v)

abbrev pub FetchesInOrder : {S : Type 0} → Make S → Type 0
FetchesInOrder {S} make =
    (c : Model S) →
    FetchesBelow (bytes_in (executed_by make c)) c.processor.cpu.pc 0 make (began c) (cycles_of make c) (world c.mem c.panel no_time)
