-- One turn of a run in code is one turn of the definition, also before a witness. Assumes nothing.
use Rattle.std.proofs.Common.{◌≡◌, ℕ, suc, ◌+◌, ◌-◌, ◌<◌, Bool, true, false, cond, leb, Some, None, Ok, Err, sym, refl, ap, ◌∙◌, ap₂, arith}
use Rattle.panel.specs.Panel.{Make}
use Rattle.registers.specs.declared.window.Window.{Window}
use Rattle.cycles.specs.Play.{Tally}
use Rattle.processor.specs.Run.{Finished, after_answer, after_step, fault, finished, goes_on, halted, rests, run_on, spent, sum_of}
use Rattle.processor.specs.Step.{Faulted, Model, Turn, step}
use Rattle.card.specs.Cards.{Came}
use Rattle.card.specs.Witnesses.{Witnessed, witnessed}

abbrev pub with_note : {S W : Type 0} → Came S → W → Witnessed S W
with_note came n = record { came = came; noted = n }

module _ {S W : Type 0} (make : Make S) (noted : W → Window → W) (budget : ℕ) where
  -- what is left of a run, with a witness in some state
  abbrev came_on : ℕ → ℕ → Tally → Model S → W → Witnessed S W
  came_on fuel n t c s = witnessed noted s (run_on make budget fuel n t c)

  -- the run after a step, whatever its answer
  stepped : (fuel n : ℕ) (t : Tally) (c : Model S) (s : W) (turn : Turn S) → turn ≡ step make c → witnessed noted s (after_step (record { before = c; turn = turn }) (after_answer budget n t turn.answer turn.card (λ u. run_on make budget fuel (suc n) u turn.card))) ≡ came_on (suc fuel) n t c s
  stepped fuel n t c s turn e =
      ap (λ (x : Turn S). witnessed noted s (after_step (record { before = c; turn = x }) (after_answer budget n t x.answer x.card (λ u. run_on make budget fuel (suc n) u x.card)))) e

  -- the fuel that is left at turn i
  left : (i n : ℕ) (t : Tally) (c : Model S) (s : W) → i < budget → came_on (suc (budget - (i + 1))) n t c s ≡ came_on (budget - i) n t c s
  left i n t c s h = let e : suc (budget - (i + 1)) ≡ budget - i = omega arith in ap (λ (k : ℕ). came_on k n t c s) e

  pub denied : (i : ℕ) (t : Tally) (c d : Model S) (s : W) (why : Faulted) → i < budget → record { answer = Err why; card = d } ≡ step make c → witnessed noted s (finished fault i t (Some why) d) ≡ came_on (budget - i) i t c s
  denied i t c d s why h e =
      stepped (budget - (i + 1)) i t c s (record { answer = Err why; card = d }) e ∙ left i i t c s h

  taken : (i : ℕ) (t : Tally) (c d : Model S) (s : W) (cost : Tally) → i < budget → record { answer = Ok cost; card = d } ≡ step make c → witnessed noted (noted s c.processor.window) (goes_on budget (suc i) (sum_of t cost) d (run_on make budget (budget - (i + 1)) (suc i) (sum_of t cost) d)) ≡ came_on (budget - i) i t c s
  taken i t c d s cost h e =
      stepped (budget - (i + 1)) i t c s (record { answer = Ok cost; card = d }) e ∙ left i i t c s h

  chosen : (k : ℕ) (u : Tally) (d : Model S) (s : W) (more : Finished S) (at_rest over : Bool) → at_rest ≡ rests d.processor.cpu.mode → over ≡ leb budget u.states → witnessed noted s (cond at_rest (finished halted k u None d) (cond over (finished spent k u None d) more)) ≡ witnessed noted s (goes_on budget k u d more)
  chosen k u d s more at_rest over p q =
      ap₂ (λ (x y : Bool). witnessed noted s (cond x (finished halted k u None d) (cond y (finished spent k u None d) more))) p q

  suc_is : (i : ℕ) → i + 1 ≡ suc i
  suc_is i = omega arith

  pub rested : (i : ℕ) (t : Tally) (c d : Model S) (s : W) (cost : Tally) → i < budget → record { answer = Ok cost; card = d } ≡ step make c → true ≡ rests d.processor.cpu.mode → witnessed noted (noted s c.processor.window) (finished halted (i + 1) (sum_of t cost) None d) ≡ came_on (budget - i) i t c s
  rested i t c d s cost h e p =
      ap (λ (k : ℕ). witnessed noted (noted s c.processor.window) (finished halted k (sum_of t cost) None d)) (suc_is i)
      ∙ (chosen (suc i) (sum_of t cost) d (noted s c.processor.window) (run_on make budget (budget - (i + 1)) (suc i) (sum_of t cost) d) true (leb budget (sum_of t cost).states) p refl ∙ taken i t c d s cost h e)

  pub spends : (i : ℕ) (t : Tally) (c d : Model S) (s : W) (cost : Tally) → i < budget → record { answer = Ok cost; card = d } ≡ step make c → false ≡ rests d.processor.cpu.mode → true ≡ leb budget (sum_of t cost).states → witnessed noted (noted s c.processor.window) (finished spent (i + 1) (sum_of t cost) None d) ≡ came_on (budget - i) i t c s
  spends i t c d s cost h e p q =
      ap (λ (k : ℕ). witnessed noted (noted s c.processor.window) (finished spent k (sum_of t cost) None d)) (suc_is i)
      ∙ (chosen (suc i) (sum_of t cost) d (noted s c.processor.window) (run_on make budget (budget - (i + 1)) (suc i) (sum_of t cost) d) false true p q ∙ taken i t c d s cost h e)

  pub again : (i : ℕ) (t : Tally) (c d : Model S) (s : W) (cost : Tally) → i < budget → record { answer = Ok cost; card = d } ≡ step make c → false ≡ rests d.processor.cpu.mode → false ≡ leb budget (sum_of t cost).states → came_on (budget - (i + 1)) (i + 1) (sum_of t cost) d (noted s c.processor.window) ≡ came_on (budget - i) i t c s
  again i t c d s cost h e p q =
      ap (λ (k : ℕ). came_on (budget - (i + 1)) k (sum_of t cost) d (noted s c.processor.window)) (suc_is i)
      ∙ (chosen (suc i) (sum_of t cost) d (noted s c.processor.window) (run_on make budget (budget - (i + 1)) (suc i) (sum_of t cost) d) false false p q ∙ taken i t c d s cost h e)

  pub out : (n k : ℕ) (t : Tally) (c : Model S) (s : W) → k ≡ 0 → witnessed noted s (finished spent n t None c) ≡ came_on k n t c s
  out n k t c s e = ap (λ (x : ℕ). came_on x n t c s) (sym e)
