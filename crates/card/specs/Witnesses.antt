-- What the witness of a run has noted. Assumes nothing.
use Rattle.std.specs.Prelude.{List, [], ◌∷◌, Ok, Err, Result}
use Rattle.registers.specs.declared.window.Window.{Window}
use Rattle.cycles.specs.Play.{Tally}
use Rattle.processor.specs.Run.{Finished, Stepped}
use Rattle.processor.specs.Step.{Faulted}
use Rattle.card.specs.Cards.{Came, came_to}

-- By the answer of a step and the window as it began: of a denied step nothing is noted.
abbrev pub after_answer : {W : Type 0} → (W → Window → W) → W → Result Tally Faulted → Window → W
after_answer noted s (Ok cost) w = noted s w
after_answer noted s (Err why) w = s

-- Of steps in turn.
abbrev pub after_steps : {W S : Type 0} → (W → Window → W) → W → List (Stepped S) → W
after_steps noted s [] = s
after_steps noted s (one ∷ rest) =
    after_steps noted (after_answer noted s one.turn.answer one.before.processor.window) rest

-- What a run came to, with what its witness has noted.
pub record Witnessed (S W : Type 0) : Type 0 where
  pub came : Came S
  pub noted : W

abbrev pub witnessed : {S W : Type 0} → (W → Window → W) → W → Finished S → Witnessed S W
witnessed noted s f = record { came = came_to f; noted = after_steps noted s f.steps }
