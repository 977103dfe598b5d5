-- Runs, by induction on their fuel. Assumes nothing.
use Rattle.std.proofs.Common.{◌≡◌, ℕ, zero, suc, ◌+◌, ◌<◌, ◌≤◌, Bool, true, false, cond, leb, None, Ok, Err, Option, Result, refl, ap, ◌∙◌, add_assoc, zero-add, arith, leb-false, leb-true}
use Rattle.std.proofs.lemmas.Bool.{and_parts}
use Rattle.panel.specs.Panel.{Make}
use Rattle.cycles.specs.Play.{Tally, no_time}
use Rattle.processor.specs.Run.{Finished, Stop, Stop.fault, Stop.halted, Stop.spent, after_answer, after_step, finished, is_budget, rests, run_on, sum_of}
use Rattle.processor.specs.Step.{Faulted, Model, step}
use Rattle.card_laws.specs.Runs.{RunLaws, one_if_taken, taken_together, time_of, time_together}
use Rattle.card_laws.proofs.Times.{step_between}

never : (x : Stop) → x ≡ spent → x ≡ halted → ⊥
never x a b = let z : ◌≡◌ {A = ℕ} 0 1 = cc in omega arith

never_fault : (x : Stop) → x ≡ spent → x ≡ fault → ⊥
never_fault x a b = let z : ◌≡◌ {A = ℕ} 0 1 = cc in omega arith

module _ {S : Type 0} (make : Make S) (budget : ℕ) where
  -- with two amounts of fuel that both suffice a run comes to the same
  abbrev SameRest : ℕ → ℕ → Type 0
  SameRest f g =
      (n : ℕ) (t : Tally) (c : Model S) → t.states < budget → budget ≤ t.states + f → budget ≤ t.states + g → run_on make budget f n t c ≡ run_on make budget g n t c

  same_over : (f g n : ℕ) (t : Tally) (c : Model S) → SameRest f g → budget ≤ t.states + f → budget ≤ t.states + g → (over : Bool) → leb budget t.states ≡ over → cond over (finished spent n t None c) (run_on make budget f n t c) ≡ cond over (finished spent n t None c) (run_on make budget g n t c)
  same_over f g n t c rest hf hg true e = refl
  same_over f g n t c rest hf hg false e = rest n t c (leb-false budget t.states e) hf hg

  same_answer : (f g n : ℕ) (t : Tally) (c d : Model S) → SameRest f g → budget ≤ t.states + suc f → budget ≤ t.states + suc g → (r : Result Tally Faulted) → (step make c).answer ≡ r → after_answer budget n t r d (λ u. run_on make budget f (suc n) u d) ≡ after_answer budget n t r d (λ u. run_on make budget g (suc n) u d)
  same_answer f g n t c d rest hf hg (Ok cost) e =
      let least = (step_between make c cost e).0 in
      let p = same_over f g (suc n) (sum_of t cost) d rest (omega (arith, least)) (omega (arith, least)) (leb budget (t.states + cost.states)) refl in
      λ i. cond (rests d.processor.cpu.mode) (finished halted (suc n) (sum_of t cost) None d) (p i)
  same_answer f g n t c d rest hf hg (Err why) e = refl

  same_fuel : (f g : ℕ) → SameRest f g
  same_fuel zero g n t c below hf hg = absurd (omega arith)
  same_fuel (suc f) zero n t c below hf hg = absurd (omega arith)
  same_fuel (suc f) (suc g) n t c below hf hg =
      let d = (step make c).card in
      ap (after_step (record { before = c; turn = step make c })) (same_answer f g n t c d (same_fuel f g) hf hg (step make c).answer refl)

  -- a run that stops as spent
  abbrev Spends : ℕ → Type 0
  Spends fuel =
      (n : ℕ) (t : Tally) (c : Model S) → budget ≤ t.states + fuel → (run_on make budget fuel n t c).answer.stop ≡ spent → budget ≤ (run_on make budget fuel n t c).answer.tally.states

  spends_chosen : (fuel n : ℕ) (t : Tally) (c : Model S) → Spends fuel → budget ≤ t.states + fuel → (at_rest over : Bool) → leb budget t.states ≡ over → (cond at_rest (finished halted n t None c) (cond over (finished spent n t None c) (run_on make budget fuel n t c))).answer.stop ≡ spent → budget ≤ (cond at_rest (finished halted n t None c) (cond over (finished spent n t None c) (run_on make budget fuel n t c))).answer.tally.states
  spends_chosen fuel n t c rest h true over e s = absurd (never halted s refl)
  spends_chosen fuel n t c rest h false true e s = leb-true budget t.states e
  spends_chosen fuel n t c rest h false false e s = rest n t c h s

  spends_answer : (fuel n : ℕ) (t : Tally) (c d : Model S) → Spends fuel → budget ≤ t.states + suc fuel → (r : Result Tally Faulted) → (step make c).answer ≡ r → (after_answer budget n t r d (λ u. run_on make budget fuel (suc n) u d)).answer.stop ≡ spent → budget ≤ (after_answer budget n t r d (λ u. run_on make budget fuel (suc n) u d)).answer.tally.states
  spends_answer fuel n t c d rest h (Ok cost) e s =
      let least = (step_between make c cost e).0 in
      spends_chosen fuel (suc n) (sum_of t cost) d rest (omega (arith, least)) (rests d.processor.cpu.mode) (leb budget (t.states + cost.states)) refl s
  spends_answer fuel n t c d rest h (Err why) e s = absurd (never_fault fault s refl)

  spends : (fuel : ℕ) → Spends fuel
  spends zero n t c h s = omega (arith, h)
  spends (suc fuel) n t c h s = spends_answer fuel n t c (step make c).card (spends fuel) h (step make c).answer refl s

  -- how far a run goes beyond its budget
  abbrev Below : ℕ → Type 0
  Below fuel = (n : ℕ) (t : Tally) (c : Model S) → t.states < budget → (run_on make budget fuel n t c).answer.tally.states < budget + 19

  below_chosen : (fuel n : ℕ) (t : Tally) (c : Model S) → Below fuel → t.states < budget + 19 → (at_rest over : Bool) → leb budget t.states ≡ over → (cond at_rest (finished halted n t None c) (cond over (finished spent n t None c) (run_on make budget fuel n t c))).answer.tally.states < budget + 19
  below_chosen fuel n t c rest h true over e = h
  below_chosen fuel n t c rest h false true e = h
  below_chosen fuel n t c rest h false false e = rest n t c (leb-false budget t.states e)

  below_answer : (fuel n : ℕ) (t : Tally) (c d : Model S) → Below fuel → t.states < budget → (r : Result Tally Faulted) → (step make c).answer ≡ r → (after_answer budget n t r d (λ u. run_on make budget fuel (suc n) u d)).answer.tally.states < budget + 19
  below_answer fuel n t c d rest h (Ok cost) e =
      let most = (step_between make c cost e).1 in
      below_chosen fuel (suc n) (sum_of t cost) d rest (omega (arith, h, most)) (rests d.processor.cpu.mode) (leb budget (t.states + cost.states)) refl
  below_answer fuel n t c d rest h (Err why) e = omega (arith, h)

  below : (fuel : ℕ) → Below fuel
  below zero n t c h = omega (arith, h)
  below (suc fuel) n t c h = below_answer fuel n t c (step make c).card (below fuel) h (step make c).answer refl

-- sums of times
same_tally : (t u : Tally) → t.cycles ≡ u.cycles → t.states ≡ u.states → t ≡ u
same_tally t u p q = λ i. record { cycles = p i; states = q i }

sum_none : (t : Tally) → t ≡ sum_of t no_time
sum_none t = same_tally t (sum_of t no_time) (omega arith) (omega arith)

none_sum : (t : Tally) → sum_of no_time t ≡ t
none_sum t = same_tally (sum_of no_time t) t (omega arith) (omega arith)

sum_again : (t u v : Tally) → sum_of (sum_of t u) v ≡ sum_of t (sum_of u v)
sum_again t u v = same_tally (sum_of (sum_of t u) v) (sum_of t (sum_of u v)) (omega arith) (omega arith)

-- what a run's sums are to be, if it had taken n steps in the time t before
record Sums {S : Type 0} (n : ℕ) (t : Tally) (f : Finished S) : Type 0 where
  pub time : f.answer.tally ≡ sum_of t (time_together f.steps)
  pub count : f.answer.steps ≡ n + taken_together f.steps

module _ {S : Type 0} (make : Make S) (budget : ℕ) where
  stopped : (stop : Stop) (n : ℕ) (t : Tally) (f : Option Faulted) (c : Model S) → Sums n t (finished stop n t f c)
  stopped stop n t f c = record { time = sum_none t; count = omega arith }

  sums_chosen : (fuel n : ℕ) (t : Tally) (c : Model S) → Sums n t (run_on make budget fuel n t c) → (at_rest over : Bool) → Sums n t (cond at_rest (finished halted n t None c) (cond over (finished spent n t None c) (run_on make budget fuel n t c)))
  sums_chosen fuel n t c rest true over = stopped halted n t None c
  sums_chosen fuel n t c rest false true = stopped spent n t None c
  sums_chosen fuel n t c rest false false = rest

  -- the rest of a run behind a step with this answer
  sums_answer : (fuel n : ℕ) (t : Tally) (d : Model S) (r : Result Tally Faulted) → ((u : Tally) → Sums (suc n) u (run_on make budget fuel (suc n) u d)) → Sums (n + one_if_taken r) (sum_of t (time_of r)) (after_answer budget n t r d (λ u. run_on make budget fuel (suc n) u d))
  sums_answer fuel n t d (Ok cost) rest =
      let chosen = sums_chosen fuel (suc n) (sum_of t cost) d (rest (sum_of t cost)) (rests d.processor.cpu.mode) (leb budget (t.states + cost.states)) in
      record { time = chosen.time; count = chosen.count ∙ omega arith }
  sums_answer fuel n t d (Err why) rest = record { time = sum_none t ∙ sum_none (sum_of t no_time); count = omega arith }

  sums : (fuel n : ℕ) (t : Tally) (c : Model S) → Sums n t (run_on make budget fuel n t c)
  sums zero n t c = stopped spent n t None c
  sums (suc fuel) n t c =
      let r = (step make c).answer in
      let d = (step make c).card in
      let rest = after_answer budget n t r d (λ u. run_on make budget fuel (suc n) u d) in
      let behind = sums_answer fuel n t d r (λ u. sums fuel (suc n) u d) in
      record {
        time = behind.time ∙ sum_again t (time_of r) (time_together rest.steps);
        count = behind.count ∙ add_assoc n (one_if_taken r) (taken_together rest.steps);
      }

module _ {S : Type 0} (make : Make S) where
  at_least_1 : (budget : ℕ) → is_budget budget ≡ true → 0 < budget
  at_least_1 budget h = leb-true 1 budget (and_parts (leb 1 budget) (leb budget 1000000) h).0

  pub laws : RunLaws make
  laws = record {
    ends = λ budget fuel c h enough. same_fuel make budget fuel budget 0 no_time c (at_least_1 budget h) (omega (arith, enough)) (omega arith);
    spends = λ budget c s. spends make budget budget 0 no_time c (omega arith) s;
    below = λ budget c h. below make budget budget 0 no_time c (at_least_1 budget h);
    time = λ budget c. (sums make budget budget 0 no_time c).time ∙ none_sum _;
    count = λ budget c. (sums make budget budget 0 no_time c).count ∙ zero-add _;
  }
