-- A log: a list of calls on one card, from its making on, with the answer at each line and every step on the way. Assumes nothing.
use Rattle.std.specs.Prelude.{ℕ, cond, List, [], ◌∷◌, ◌++◌, Ok, Err, Result}
use Rattle.denial.specs.Denials.{Told, numbered}
use Rattle.memory.specs.Memory.{Mem}
use Rattle.panel.specs.Panel.{Make}
use Rattle.registers.specs.declared.window.Window.{Window}
use Rattle.registers.specs.Registers.{fresh_processor}
use Rattle.cycles.specs.Play.{Tally}
use Rattle.processor.specs.Run.{Finished, Ran, Stepped, is_budget, is_look, looked, reset, run}
use Rattle.processor.specs.Step.{Faulted, Model, step}

-- The calls that a log knows: a step, a run with its budget, reset, a look with its window, address and length.
pub data Call : Type 0 where
  stepping : Call
  running : ℕ → Call
  resetting : Call
  looking : Window → ℕ → ℕ → Call

-- What they answer.
pub data Answer : Type 0 where
  stepped : Result Tally Faulted → Answer
  ran : Result Ran Told → Answer
  was_reset : Answer
  saw : Result (List ℕ) Told → Answer

-- A line of a log: its answer, the card after it, and the steps that were taken in it.
pub record Line (S : Type 0) : Type 0 where
  pub answer : Answer
  pub card : Model S
  pub steps : List (Stepped S)

abbrev pub line : {S : Type 0} → Answer → Model S → List (Stepped S) → Line S
line a c steps = record { answer = a; card = c; steps = steps }

abbrev pub after_run : {S : Type 0} → Finished S → Line S
after_run f = line (ran (Ok f.answer)) f.card f.steps

-- One call. A denied one changes nothing.
abbrev pub serve : {S : Type 0} → Make S → Call → Model S → Line S
serve make stepping c = line (stepped (step make c).answer) (step make c).card (record { before = c; turn = step make c } ∷ [])
serve make (running budget) c = cond (is_budget budget) (after_run (run make budget c)) (line (ran (Err (numbered 6))) c [])
serve make resetting c = line was_reset (reset c) []
serve make (looking w at n) c =
    line (saw (cond (is_look w n) (Ok (looked c.mem.byte w at n)) (Err (numbered 7)))) c []

-- What a log comes to: the answers line by line, the card, and every step.
pub record Replayed (S : Type 0) : Type 0 where
  pub answers : List Answer
  pub card : Model S
  pub steps : List (Stepped S)

abbrev pub after_line : {S : Type 0} → Line S → Replayed S → Replayed S
after_line one rest = record { answers = one.answer ∷ rest.answers; card = rest.card; steps = one.steps ++ rest.steps }

abbrev pub replay_from : {S : Type 0} → Make S → List Call → Model S → Replayed S
replay_from make [] c = record { answers = []; card = c; steps = [] }
replay_from make (call ∷ calls) c = after_line (serve make call c) (replay_from make calls (serve make call c).card)

-- A card that was just made.
abbrev pub made : {S : Type 0} → Mem → S → Model S
made m s = record { processor = fresh_processor; mem = m; panel = s }

-- The log of a card from its making on.
abbrev pub replay : {S : Type 0} → Make S → List Call → Mem → S → Replayed S
replay make calls m s = replay_from make calls (made m s)
