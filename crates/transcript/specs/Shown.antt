-- All that is printed of a card. Assumes nothing.
use Rattle.std.specs.Prelude.{◌≡◌, ℕ, List, ◌++◌}
use Rattle.processor.specs.Step.{Model}
use Rattle.plot.specs.Lines.{line}
use Rattle.transcript.specs.Memory.{memory_text}
use Rattle.transcript.specs.Registers.{processor_text}

-- Its registers, its panel by a text for each state, and the memory of a board of so many bytes.
abbrev pub card_text : {S : Type 0} → (S → List ℕ) → ℕ → Model S → List ℕ
card_text state_text length c = processor_text c.processor ++ (state_text c.panel ++ line (memory_text c.mem length))

-- What is printed of a panel is what a text says of its state.
abbrev pub GoesBy : {P S : Type 0} → (P → List ℕ) → (P → S) → (S → List ℕ) → Type 0
GoesBy {P} panel_text state state_text = (panel : P) → panel_text panel ≡ state_text (state panel)
