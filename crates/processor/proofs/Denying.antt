-- What denied calls leave. Assumes nothing.
use Rattle.std.proofs.Common.{◌≡◌, ℕ, Bool, true, false, cond, [], Ok, Err, Result, sym, refl, ap, arith}
use Rattle.denial.specs.Denials.{numbered}
use Rattle.panel.specs.Panel.{Make}
use Rattle.cycles.specs.Play.{Tally}
use Rattle.processor.specs.Denials.{DenialLaws}
use Rattle.processor.specs.Log.{Answer.ran, after_run, line}
use Rattle.processor.specs.Run.{run}
use Rattle.processor.specs.Step.{Faulted, Model}
use Rattle.processor.proofs.Steps.{bad_byte, by_tests}

never : (cost : Tally) (why : Faulted) → Ok cost ≡ Err why → ⊥
never cost why h = let z : ◌≡◌ {A = ℕ} 0 1 = cc in omega arith

same_fault : (one other : Faulted) → ◌≡◌ {A = Result Tally Faulted} (Err one) (Err other) → one ≡ other
same_fault one other h = cc

module _ {S : Type 0} (make : Make S) where
  step_same : (c : Model S) (why : Faulted) (full bad : Bool) → (by_tests make full bad c).answer ≡ Err why → (by_tests make full bad c).card ≡ c
  step_same c why true bad h = refl
  step_same c why false true h = refl
  step_same c why false false h = absurd (never _ why h)

  step_pc : (c : Model S) (why : Faulted) (full bad : Bool) → (by_tests make full bad c).answer ≡ Err why → why.pc ≡ c.processor.cpu.pc
  step_pc c why true bad h = ap (λ f. f.pc) (sym (same_fault _ why h))
  step_pc c why false true h = ap (λ f. f.pc) (sym (same_fault _ why h))
  step_pc c why false false h = absurd (never _ why h)

  pub laws : DenialLaws make
  laws = record {
    step_same = λ c why h. step_same c why (make.full c.panel) (bad_byte make c) h;
    step_pc = λ c why h. step_pc c why (make.full c.panel) (bad_byte make c) h;
    run_same = λ budget c none. ap (λ b. (cond b (after_run (run make budget c)) (line (ran (Err (numbered 6))) c [])).card) none;
    run_steps = λ budget c none. ap (λ b. (cond b (after_run (run make budget c)) (line (ran (Err (numbered 6))) c [])).steps) none;
    look_same = λ w at n c. refl;
  }
