-- Isolation of runs and of logs. Assumes nothing.
use Rattle.std.proofs.Common.{◌≡◌, ℕ, zero, suc, ◌+◌, ◌%◌, Bool, true, false, cond, leb, List, [], ◌∷◌, ◌++◌, map, take, Some, None, Ok, Err, Option, Result, refl, ap, subst, ap₂}
use Rattle.std.specs.List.{range_with_len}
use Rattle.denial.specs.Denials.{numbered}
use Rattle.memory.specs.Memory.{Agree, Mem}
use Rattle.panel.specs.Panel.{Make}
use Rattle.registers.specs.declared.window.Window.{Window}
use Rattle.registers.specs.Window.{physical_of}
use Rattle.cycles.specs.Footprint.{Kept, OpensWithin, on_pages}
use Rattle.cycles.specs.Play.{Tally, no_time}
use Rattle.cycles.proofs.Trees as trees
use Rattle.processor.specs.Isolation.{Alike, ChangesFew, Each, Isolated, Isolation, IsolationFrom, LookWithin, StaysWithin, StepWithin}
use Rattle.processor.specs.Log.{Answer.ran, Answer.saw, Answer.stepped, Call, Call.looking, Call.resetting, Call.running, Call.stepping, Line, after_run, line, made, replay_from, serve}
use Rattle.processor.specs.Run.{Finished, Stop, Stop.fault, Stop.halted, Stop.spent, after_answer, finished, goes_on, is_budget, is_look, looked, rests, run, run_on, sum_of}
use Rattle.processor.specs.Step.{Faulted, Model, step}
use Rattle.processor.proofs.Steps as steps
use Rattle.processor.proofs.Steps.{with_mem}

-- two runs that came to the same
pub record BothRan {S : Type 0} (pages : ℕ → Bool) (c d : Model S) (one other : Finished S) : Type 0 where
  pub answer : one.answer ≡ other.answer
  pub alike : Alike pages one.card other.card
  pub first : Kept (on_pages pages) c.mem one.card.mem
  pub second : Kept (on_pages pages) d.mem other.card.mem

each_append : {X : Type 0} (P : X → Type 0) (xs ys : List X) → Each P xs → Each P ys → Each P (xs ++ ys)
each_append P [] ys p q = q
each_append P (x ∷ xs) ys p q = (p.0, each_append P xs ys p.1 q)

module _ {S : Type 0} (make : Make S) (pages : ℕ → Bool) where
  stays : (c d : Model S) (stop : Stop) (n : ℕ) (t : Tally) (f : Option Faulted) → Alike pages c d → BothRan pages c d (finished stop n t f c) (finished stop n t f d)
  stays c d stop n t f alike =
      record { answer = refl; alike = alike; first = trees.kept_none (on_pages pages) c.mem; second = trees.kept_none (on_pages pages) d.mem }

  -- the rest of a run, from cards that are alike
  abbrev Rest : ℕ → ℕ → Type 0
  Rest budget fuel =
      (n : ℕ) (t : Tally) (c d : Model S) → Alike pages c d → Each (StepWithin pages) (run_on make budget fuel n t c).steps →
      BothRan pages c d (run_on make budget fuel n t c) (run_on make budget fuel n t d)

  abbrev chosen : Bool → Bool → ℕ → Tally → Model S → Finished S → Finished S
  chosen at_rest over n t c more = cond at_rest (finished halted n t None c) (cond over (finished spent n t None c) more)

  chosen_both : (budget fuel n : ℕ) (t : Tally) → Rest budget fuel → (at_rest over : Bool) (c d : Model S) → Alike pages c d → Each (StepWithin pages) (chosen at_rest over n t c (run_on make budget fuel n t c)).steps → BothRan pages c d (chosen at_rest over n t c (run_on make budget fuel n t c)) (chosen at_rest over n t d (run_on make budget fuel n t d))
  chosen_both budget fuel n t rest true over c d alike within = stays c d halted n t None alike
  chosen_both budget fuel n t rest false true c d alike within = stays c d spent n t None alike
  chosen_both budget fuel n t rest false false c d alike within = rest n t c d alike within

  answer_both : (budget fuel n : ℕ) (t : Tally) → Rest budget fuel → (r : Result Tally Faulted) (c d : Model S) → Alike pages c d → Each (StepWithin pages) (after_answer budget n t r c (λ u. run_on make budget fuel (suc n) u c)).steps → BothRan pages c d (after_answer budget n t r c (λ u. run_on make budget fuel (suc n) u c)) (after_answer budget n t r d (λ u. run_on make budget fuel (suc n) u d))
  answer_both budget fuel n t rest (Ok cost) c d alike within =
      let u = sum_of t cost in
      steps.carried make pages c d (λ e. BothRan pages c e (goes_on budget (suc n) u c (run_on make budget fuel (suc n) u c)) (goes_on budget (suc n) u e (run_on make budget fuel (suc n) u e))) alike
      (chosen_both budget fuel (suc n) u rest (rests c.processor.cpu.mode) (leb budget u.states) c (with_mem d.mem c) (record { processor = refl; panel = refl; memory = alike.memory }) within)
  answer_both budget fuel n t rest (Err why) c d alike within = stays c d fault n t (Some why) alike

  run_both : (budget fuel : ℕ) → Rest budget fuel
  run_both budget zero n t c d alike within = stays c d spent n t None alike
  run_both budget (suc fuel) n t c d alike within =
      let b = (steps.laws make).both pages c d alike within.0 in
      let c' = (step make c).card in
      let d' = (step make d).card in
      let rest =
      subst (λ r. BothRan pages c' d' (after_answer budget n t (step make c).answer c' (λ u. run_on make budget fuel (suc n) u c')) (after_answer budget n t r d' (λ u. run_on make budget fuel (suc n) u d'))) b.answer
      (answer_both budget fuel n t (run_both budget fuel) (step make c).answer c' d' b.alike within.1) in
      record {
        answer = rest.answer;
        alike = rest.alike;
        first = trees.kept_then (on_pages pages) _ _ _ b.first rest.first;
        second = trees.kept_then (on_pages pages) _ _ _ b.second rest.second;
      }

module _ {S : Type 0} (make : Make S) where
  -- each step of a run changes few bytes
  chosen_few : (budget fuel n : ℕ) (t : Tally) (at_rest over : Bool) (c : Model S) → Each ChangesFew (run_on make budget fuel n t c).steps → Each ChangesFew (cond at_rest (finished halted n t None c) (cond over (finished spent n t None c) (run_on make budget fuel n t c))).steps
  chosen_few budget fuel n t true over c rest = tt
  chosen_few budget fuel n t false true c rest = tt
  chosen_few budget fuel n t false false c rest = rest

  answer_few : (budget fuel n : ℕ) (t : Tally) (r : Result Tally Faulted) (c : Model S) → ((u : Tally) → Each ChangesFew (run_on make budget fuel (suc n) u c).steps) → Each ChangesFew (after_answer budget n t r c (λ u. run_on make budget fuel (suc n) u c)).steps
  answer_few budget fuel n t (Ok cost) c rest =
      chosen_few budget fuel (suc n) (sum_of t cost) (rests c.processor.cpu.mode) (leb budget (sum_of t cost).states) c (rest (sum_of t cost))
  answer_few budget fuel n t (Err why) c rest = tt

  pub run_few : (budget fuel n : ℕ) (t : Tally) (c : Model S) → Each ChangesFew (run_on make budget fuel n t c).steps
  run_few budget zero n t c = tt
  run_few budget (suc fuel) n t c =
      ((steps.laws make).few c, answer_few budget fuel n t (step make c).answer (step make c).card (λ u. run_few budget fuel (suc n) u (step make c).card))

-- two lines of a log that came to the same
record BothLines {S : Type 0} (pages : ℕ → Bool) (c d : Model S) (one other : Line S) : Type 0 where
  pub answer : one.answer ≡ other.answer
  pub alike : Alike pages one.card other.card
  pub first : Kept (on_pages pages) c.mem one.card.mem
  pub second : Kept (on_pages pages) d.mem other.card.mem

module _ {S : Type 0} (make : Make S) (pages : ℕ → Bool) where
  -- a look through a window that opens on the pages sees the same in both memories
  looked_same : (m n : Mem) (w : Window) (at length : ℕ) → Agree (on_pages pages) m n → OpensWithin pages w → looked m.byte w at length ≡ looked n.byte w at length
  unfolding looked
  looked_same m n w at length agree shown =
      λ i. map (λ k. (agree (physical_of w ((at + k) % 65536)) (trees.in_pages make pages w ((at + k) % 65536) shown)).0 i) (range_with_len 0 length)

  ran_both : (budget : ℕ) (c d : Model S) (accepted : Bool) → Alike pages c d → Each (StepWithin pages) (cond accepted (after_run (run make budget c)) (line (ran (Err (numbered 6))) c [])).steps → BothLines pages c d (cond accepted (after_run (run make budget c)) (line (ran (Err (numbered 6))) c [])) (cond accepted (after_run (run make budget d)) (line (ran (Err (numbered 6))) d []))
  ran_both budget c d true alike within =
      let b = run_both make pages budget budget 0 no_time c d alike within in
      record { answer = ap (λ a. ran (Ok a)) b.answer; alike = b.alike; first = b.first; second = b.second }
  ran_both budget c d false alike within =
      record { answer = refl; alike = alike; first = trees.kept_none (on_pages pages) c.mem; second = trees.kept_none (on_pages pages) d.mem }

  saw_same : (m n : Mem) (w : Window) (at length : ℕ) (accepted : Bool) → Agree (on_pages pages) m n → (accepted ≡ true → OpensWithin pages w) → saw (cond accepted (Ok (looked m.byte w at length)) (Err (numbered 7))) ≡ saw (cond accepted (Ok (looked n.byte w at length)) (Err (numbered 7)))
  saw_same m n w at length true agree shown = ap (λ bytes. saw (Ok bytes)) (looked_same m n w at length agree (shown refl))
  saw_same m n w at length false agree shown = refl

  serve_both : (call : Call) (c d : Model S) → Alike pages c d → Each (StepWithin pages) (serve make call c).steps → LookWithin pages call → BothLines pages c d (serve make call c) (serve make call d)
  serve_both stepping c d alike within look =
      let b = (steps.laws make).both pages c d alike within.0 in
      record { answer = ap stepped b.answer; alike = b.alike; first = b.first; second = b.second }
  serve_both (running budget) c d alike within look = ran_both budget c d (is_budget budget) alike within
  serve_both resetting c d alike within look = record {
    answer = refl;
    alike = record { processor = refl; panel = alike.panel; memory = alike.memory };
    first = trees.kept_none (on_pages pages) c.mem;
    second = trees.kept_none (on_pages pages) d.mem;
  }
  serve_both (looking w at length) c d alike within look = record {
    answer = saw_same c.mem d.mem w at length (is_look w length) alike.memory look;
    alike = alike;
    first = trees.kept_none (on_pages pages) c.mem;
    second = trees.kept_none (on_pages pages) d.mem;
  }

  ran_few : (budget : ℕ) (c : Model S) (accepted : Bool) → Each ChangesFew (cond accepted (after_run (run make budget c)) (line (ran (Err (numbered 6))) c [])).steps
  ran_few budget c true = run_few make budget budget 0 no_time c
  ran_few budget c false = tt

  serve_few : (call : Call) (c : Model S) → Each ChangesFew (serve make call c).steps
  serve_few stepping c = ((steps.laws make).few c, tt)
  serve_few (running budget) c = ran_few budget c (is_budget budget)
  serve_few resetting c = tt
  serve_few (looking w at length) c = tt

  replay_few : (calls : List Call) (c : Model S) → Each ChangesFew (replay_from make calls c).steps
  replay_few [] c = tt
  replay_few (call ∷ calls) c = each_append ChangesFew (serve make call c).steps _ (serve_few call c) (replay_few calls (serve make call c).card)

  pub replay_both : (calls : List Call) (c d : Model S) → Alike pages c d → StaysWithin pages make calls c → Isolated pages c.mem d.mem (replay_from make calls c) (replay_from make calls d)
  replay_both [] c d alike within = record {
    answers = refl;
    alike = alike;
    first = trees.kept_none (on_pages pages) c.mem;
    second = trees.kept_none (on_pages pages) d.mem;
    first_steps = tt;
    second_steps = tt;
  }
  replay_both (call ∷ calls) c d alike within =
      let b = serve_both call c d alike within.0 within.1 in
      let rest = replay_both calls (serve make call c).card (serve make call d).card b.alike within.2 in
      record {
        answers = ap₂ (λ a l. a ∷ l) b.answer rest.answers;
        alike = rest.alike;
        first = trees.kept_then (on_pages pages) _ _ _ b.first rest.first;
        second = trees.kept_then (on_pages pages) _ _ _ b.second rest.second;
        first_steps = replay_few (call ∷ calls) c;
        second_steps = replay_few (call ∷ calls) d;
      }

pub isolation_from : {S : Type 0} (make : Make S) → IsolationFrom make
isolation_from make pages calls c d alike at within = replay_both make pages (take at calls) c d alike within

pub isolation : {S : Type 0} (make : Make S) → Isolation make
isolation make pages calls m n s t same agree at within =
    isolation_from make pages calls (made m s) (made n t) (record { processor = refl; panel = same; memory = agree }) at within
