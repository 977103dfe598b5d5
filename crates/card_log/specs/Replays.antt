-- A log served line by line, and its isolation. Assumes nothing.
use Rattle.std.specs.Prelude.{◌≡◌, ℕ, ◌<◌, Bool, ◌≢◌, List, [], ◌∷◌, ◌++◌, map, length, take, Some, None, Option, slice_index_or}
use Rattle.memory.specs.Memory.{Mem}
use Rattle.panel.specs.Panel.{Make}
use Rattle.processor.specs.Isolation.{Alike, Isolated, StaysWithin}
use Rattle.processor.specs.Log as log
use Rattle.processor.specs.Log.{replay_from}
use Rattle.processor.specs.Step.{Model}
use Rattle.card.specs.declared.card.Card.{Card}
use Rattle.card.specs.Cards.{model}
use Rattle.answers.specs.declared.answer.Answer.{Answer}
use Rattle.answers.specs.Answers.{answer_of}

-- What a log has come to: the answers line by line, and the card.
pub record SoFar (S : Type 0) : Type 0 where
  pub answers : List log.Answer
  pub card : Model S

-- By the card and the answers of the code.
abbrev pub so_far : {M Q S : Type 0} → (M → Mem) → (Q → S) → Card M Q → List Answer → SoFar S
so_far memory state c answers = record { answers = map answer_of answers; card = model memory state c }

-- After one more line.
abbrev pub more : {S : Type 0} → Make S → log.Call → SoFar S → SoFar S
more make call f =
    record { answers = f.answers ++ ((log.serve make call f.card).answer ∷ []); card = (log.serve make call f.card).card }

-- By the definition, from a card on.
abbrev pub reached : {S : Type 0} → Make S → List log.Call → Model S → SoFar S
reached make calls c = record { answers = (log.replay_from make calls c).answers; card = (log.replay_from make calls c).card }

-- Isolation of two cards that are given the same log. Whatever set of pages they are alike on: at each line they have come to the
-- same, if up to there the first card's steps that are not denied, and its accepted looks, stay in the set.
abbrev pub Together : {S : Type 0} → Make S → List log.Call → Model S → Model S → Type 0
Together make calls c d =
    (pages : ℕ → Bool) → Alike pages c d → (line : ℕ) → StaysWithin pages make (take line calls) c →
    Isolated pages c.mem d.mem (replay_from make (take line calls) c) (replay_from make (take line calls) d)

-- A set of pages is enough: if the cards are alike on it, they come to the same.
abbrev pub Enough : {S : Type 0} → (ℕ → Bool) → Make S → List log.Call → Model S → Model S → Type 0
Enough pages make calls c d =
    Alike pages c d → Isolated pages c.mem d.mem (replay_from make calls c) (replay_from make calls d)

-- The first line at which two lists of answers differ, or none.
abbrev pub FirstDifference : List log.Answer → List log.Answer → Option ℕ → Type 0
FirstDifference one other None = one ≡ other
FirstDifference one other (Some k) =
    (k < length one) × (take k one ≡ take k other) × ((d : log.Answer) → slice_index_or one k d ≢ slice_index_or other k d)
