-- How a run ends, and what its sums count. Assumes nothing.
use Rattle.std.specs.Prelude.{◌≡◌, ℕ, ◌+◌, ◌<◌, ◌≤◌, true, List, [], ◌∷◌, Ok, Err, Result}
use Rattle.panel.specs.Panel.{Make}
use Rattle.cycles.specs.Play.{Tally, no_time}
use Rattle.processor.specs.Run.{Stepped, Stop.spent, is_budget, run, run_on, sum_of}
use Rattle.processor.specs.Step.{Faulted, Model}

-- What a step adds to the sums of a run: a denied one adds nothing.
abbrev pub time_of : Result Tally Faulted → Tally
time_of (Ok t) = t
time_of (Err why) = no_time

abbrev pub one_if_taken : Result Tally Faulted → ℕ
one_if_taken (Ok t) = 1
one_if_taken (Err why) = 0

-- The cycles and states of steps together, and how many of them were taken.
abbrev pub time_together : {S : Type 0} → List (Stepped S) → Tally
time_together [] = no_time
time_together (one ∷ rest) = sum_of (time_of one.turn.answer) (time_together rest)

abbrev pub taken_together : {S : Type 0} → List (Stepped S) → ℕ
taken_together [] = 0
taken_together (one ∷ rest) = one_if_taken one.turn.answer + taken_together rest

pub record RunLaws {S : Type 0} (make : Make S) : Type 0 where
  -- a run may take as many steps as its budget has states, and never wants for one: if it may take more, it comes to the same
  pub ends : (budget fuel : ℕ) (c : Model S) → is_budget budget ≡ true → budget ≤ fuel → run_on make budget fuel 0 no_time c ≡ run make budget c
  -- a run that stops with its budget spent has spent all of it
  pub spends : (budget : ℕ) (c : Model S) → (run make budget c).answer.stop ≡ spent → budget ≤ (run make budget c).answer.tally.states
  -- no run goes 19 states beyond its budget
  pub below : (budget : ℕ) (c : Model S) → is_budget budget ≡ true → (run make budget c).answer.tally.states < budget + 19
  -- the sums are those of the steps that were not denied
  pub time : (budget : ℕ) (c : Model S) → (run make budget c).answer.tally ≡ time_together (run make budget c).steps
  pub count : (budget : ℕ) (c : Model S) → (run make budget c).answer.steps ≡ taken_together (run make budget c).steps
