-- How many states a step takes, on every card. Assumes nothing.
use Rattle.std.specs.Prelude.{◌≡◌, ◌≤◌, [], ◌∷◌, Ok}
use Rattle.panel.specs.Panel.{Make}
use Rattle.cycles.specs.Play.{Tally}
use Rattle.processor.specs.Step.{Model, step}
use Rattle.processor_laws.specs.Bench.{at_start, card, memory_with}
use Rattle.card_laws.specs.Executes.{Quiet}

-- A step that is not denied takes at least 3 states, as NOP does, and at most 19, as LD (mn),IX does.
pub record StepTime {S : Type 0} (make : Make S) : Type 0 where
  pub least : (c : Model S) (t : Tally) → (step make c).answer ≡ Ok t → 3 ≤ t.states
  pub most : (c : Model S) (t : Tally) → (step make c).answer ≡ Ok t → t.states ≤ 19
  pub shortest : (s : S) → Quiet make s → (step make (card at_start (memory_with (0x00 ∷ []) []) s)).answer ≡ Ok (record { cycles = 1; states = 3 })
  pub longest : (s : S) → Quiet make s → (step make (card at_start (memory_with (0xDD ∷ 0x22 ∷ 0x00 ∷ 0x20 ∷ []) []) s)).answer ≡ Ok (record { cycles = 7; states = 19 })
