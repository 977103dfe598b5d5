-- A step that is not denied meets no output while the panel is full, so that no write to it is lost. Assumes nothing.
use Rattle.std.specs.Prelude.{◌≡◌, ℕ, false, Ok}
use Rattle.panel.specs.Panel.{Make}
use Rattle.cycles.specs.Play.{Began, Tally, World, answer_of, byte_at, no_time, world, world_after}
use Rattle.cycles.specs.Tree.{Cycles, Cycles.acknowledge, Cycles.done, Cycles.fetch, Cycles.input, Cycles.internal, Cycles.output, Cycles.read, Cycles.write}
use Rattle.processor.specs.Step.{Model, began, cycles_of, step}

-- Played, the tree comes to each of its outputs, internal ones too, with a panel that is not full then.
abbrev pub FindsRoom : {A S : Type 0} {m : ℕ} → Make S → Began → Cycles A m → World S → Type 0
FindsRoom make began (done x) v = Unit {0}
FindsRoom make began (fetch code a next) v =
    FindsRoom make began (next (byte_at began a v)) (world_after make began (fetch code a next) v)
FindsRoom make began (read a next) v =
    FindsRoom make began (next (byte_at began a v)) (world_after make began (read a next) v)
FindsRoom make began (write a b next) v =
    FindsRoom make began next (world_after make began (write a b next) v)
FindsRoom make began (input p next) v =
    FindsRoom make began (next (answer_of make v.panel p)) (world_after make began (input p next) v)
FindsRoom make began (output p b next) v =
    (make.full v.panel ≡ false) × FindsRoom make began next (world_after make began (output p b next) v)
FindsRoom make began (acknowledge line states next) v =
    FindsRoom make began next (world_after make began (acknowledge line states next) v)
FindsRoom make began (internal states next) v =
    FindsRoom make began next (world_after make began (internal states next) v)

abbrev pub StepFindsRoom : {S : Type 0} → Make S → Model S → Type 0
StepFindsRoom make c = FindsRoom make (began c) (cycles_of make c) (world c.mem c.panel no_time)

pub record OutputRoom {S : Type 0} (make : Make S) : Type 0 where
  -- if the panel is not full as the step begins
  pub not_full : (c : Model S) → make.full c.panel ≡ false → StepFindsRoom make c
  -- so in each step that is not denied
  pub not_denied : (c : Model S) (cost : Tally) → (step make c).answer ≡ Ok cost → StepFindsRoom make c
