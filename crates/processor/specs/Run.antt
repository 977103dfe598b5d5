-- A run of steps, reset, and a look. Assumes nothing.
use Rattle.std.specs.Prelude.{ℕ, zero, suc, ◌+◌, ◌%◌, Bool, true, false, cond, ◌&&◌, List, [], ◌∷◌, map, Some, None, Ok, Err, Option, Result, nat_le, nat_lt}
use Rattle.std.specs.List.{range_with_len}
use Rattle.panel.specs.Panel.{Make}
use Rattle.registers.specs.declared.registers.Mode.{Mode}
use Rattle.registers.specs.declared.registers.Mode.TheVariants.{Asleep, Halted, Running}
use Rattle.registers.specs.declared.window.Window.{Window}
use Rattle.registers.specs.Registers.{fresh_processor}
use Rattle.registers.specs.Window.{physical_of}
use Rattle.cycles.specs.Play.{Tally, no_time}
use Rattle.processor.specs.Step.{Faulted, Model, Turn, step}

-- Why a run stopped: a step was denied, the card is halted or asleep, or the budget is spent.
pub data Stop : Type 0 where
  fault : Stop
  halted : Stop
  spent : Stop

-- A run's answer: the stop, the steps that were not denied, their cycles and states, and a denied step's fault whole.
pub record Ran : Type 0 where
  pub stop : Stop
  pub steps : ℕ
  pub tally : Tally
  pub fault : Option Faulted

-- One step, before and after it.
pub record Stepped (S : Type 0) : Type 0 where
  pub before : Model S
  pub turn : Turn S

-- What a run comes to: its answer, the card, and every step on the way, the denied one too.
pub record Finished (S : Type 0) : Type 0 where
  pub answer : Ran
  pub card : Model S
  pub steps : List (Stepped S)

abbrev pub sum_of : Tally → Tally → Tally
sum_of t u = record { cycles = t.cycles + u.cycles; states = t.states + u.states }

-- A card that is halted or asleep.
abbrev pub rests : Mode → Bool
rests Running = false
rests Halted = true
rests Asleep = true

abbrev pub finished : {S : Type 0} → Stop → ℕ → Tally → Option Faulted → Model S → Finished S
finished stop n t f c = record { answer = record { stop = stop; steps = n; tally = t; fault = f }; card = c; steps = [] }

-- The same with a step before the others.
abbrev pub after_step : {S : Type 0} → Stepped S → Finished S → Finished S
after_step one rest = record { answer = rest.answer; card = rest.card; steps = one ∷ rest.steps }

-- After a step that was not denied: a card at rest stops first, then a spent budget; else the run goes on.
abbrev pub goes_on : {S : Type 0} → ℕ → ℕ → Tally → Model S → Finished S → Finished S
goes_on budget n t c more =
    cond (rests c.processor.cpu.mode) (finished halted n t None c) (cond (nat_le budget t.states) (finished spent n t None c) more)

-- After a step with this answer. A denied one counts in none of the sums.
abbrev pub after_answer : {S : Type 0} → ℕ → ℕ → Tally → Result Tally Faulted → Model S → (Tally → Finished S) → Finished S
after_answer budget n t (Ok cost) c more = goes_on budget (suc n) (sum_of t cost) c (more (sum_of t cost))
after_answer budget n t (Err why) c more = finished fault n t (Some why) c

-- At most fuel steps more, after n steps that took t. With a budget's worth of fuel it never runs out, since a step takes states.
abbrev pub run_on : {S : Type 0} → Make S → ℕ → ℕ → ℕ → Tally → Model S → Finished S
run_on make budget zero n t c = finished spent n t None c
run_on make budget (suc fuel) n t c =
    after_step (record { before = c; turn = step make c })
    (after_answer budget n t (step make c).answer (step make c).card (λ u. run_on make budget fuel (suc n) u (step make c).card))

-- A budget is 1 to 1,000,000 states.
abbrev pub is_budget : ℕ → Bool
is_budget budget = nat_le 1 budget && nat_le budget 1000000

abbrev pub run : {S : Type 0} → Make S → ℕ → Model S → Finished S
run make budget c = run_on make budget budget 0 no_time c

-- Reset touches neither memory nor panel.
abbrev pub reset : {S : Type 0} → Model S → Model S
reset c = record { processor = fresh_processor; mem = c.mem; panel = c.panel }

-- A look: the bytes from a logical address on, through a window of its own. Each address wraps, and is mapped by itself. It is
-- over a byte function of the physical address, since it asks no more of what is looked at.
unfoldable pub looked : (ℕ → ℕ) → Window → ℕ → ℕ → List ℕ
looked byte w at n = map (λ k. byte (physical_of w ((at + k) % 65536))) (range_with_len 0 n)

-- Its bases are at most 127, and its length at most 4,096 bytes; else it is denied as 7.
abbrev pub is_look : Window → ℕ → Bool
is_look w n = nat_lt w.cbr 128 && (nat_lt w.bbr 128 && nat_le n 4096)
