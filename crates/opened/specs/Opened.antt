-- Which physical pages a list of calls opens: each step that is not denied, also inside a run, opens the sixteen that were mapped
-- as it began, and each look that is accepted the sixteen that its window shows. Assumes nothing.
use Rattle.std.specs.Prelude.{ℕ, Bool, cond, List, [], ◌∷◌, Ok, Err, Result}
use Rattle.panel.specs.Panel.{Make}
use Rattle.registers.specs.declared.window.Window.{Window}
use Rattle.registers.specs.Window.{opens_on}
use Rattle.cycles.specs.Play.{Tally}
use Rattle.processor.specs.Log.{Call, Call.looking, Call.resetting, Call.running, Call.stepping, serve}
use Rattle.processor.specs.Run.{Stepped, is_look}
use Rattle.processor.specs.Step.{Faulted, Model}
use Rattle.opened.specs.Pages.{joined, none}

-- By a step's answer and the window as it began.
abbrev pub by_answer : Result Tally Faulted → Window → ℕ → Bool
by_answer (Ok cost) w = opens_on w
by_answer (Err why) w = none

abbrev pub by_step : {S : Type 0} → Stepped S → ℕ → Bool
by_step one = by_answer one.turn.answer one.before.processor.window

abbrev pub by_steps : {S : Type 0} → List (Stepped S) → ℕ → Bool
by_steps [] = none
by_steps (one ∷ rest) = joined (by_step one) (by_steps rest)

-- By the window of a look.
abbrev pub by_look : Call → ℕ → Bool
by_look stepping = none
by_look (running budget) = none
by_look resetting = none
by_look (looking w at n) = cond (is_look w n) (opens_on w) none

abbrev pub by_call : {S : Type 0} → Make S → Call → Model S → ℕ → Bool
by_call make call c = joined (by_steps (serve make call c).steps) (by_look call)

-- By a list of calls on a card.
abbrev pub opened : {S : Type 0} → Make S → List Call → Model S → ℕ → Bool
opened make [] c = none
opened make (call ∷ calls) c = joined (by_call make call c) (opened make calls (serve make call c).card)
