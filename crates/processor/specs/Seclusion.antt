-- A step depends on no page that the window does not open on, and changes none. Assumes nothing.
use Rattle.std.specs.Prelude.{◌≡◌, ℕ, Bool}
use Rattle.panel.specs.Panel.{Make}
use Rattle.cycles.specs.Footprint.{Few, Kept, OpensWithin, on_pages}
use Rattle.processor.specs.Isolation.{Alike, IfTaken}
use Rattle.processor.specs.Step.{Model, Turn, step}

-- Both cards have taken a step: they answer the same and are alike again, and neither has a byte changed outside the pages.
pub record Both {S : Type 0} (pages : ℕ → Bool) (c d : Model S) (one other : Turn S) : Type 0 where
  pub answer : one.answer ≡ other.answer
  pub alike : Alike pages one.card other.card
  pub first : Kept (on_pages pages) c.mem one.card.mem
  pub second : Kept (on_pages pages) d.mem other.card.mem

-- Of every make of panel, every set of pages, and every two cards:
pub record StepLaws {S : Type 0} (make : Make S) : Type 0 where
  -- cards that are alike on a set of pages step alike, if the sixteen mapped pages are in it or the step is denied
  pub both : (pages : ℕ → Bool) (c d : Model S) → Alike pages c d → IfTaken (step make c).answer (OpensWithin pages c.processor.window) → Both pages c d (step make c) (step make d)
  -- a step changes at most two bytes, each in a page mapped as it began
  pub few : (c : Model S) → Few c.processor.window 2 c.mem (step make c).card.mem
