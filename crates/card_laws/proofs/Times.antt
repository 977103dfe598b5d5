-- The states of a step, from those of its row of cycles. Assumes nothing.
use Rattle.std.proofs.Common.{◌≡◌, ℕ, ◌≤◌, Bool, true, false, T, leb, Ok, Err, Result, refl, ap, subst, arith, leb-true}
use Rattle.std.proofs.lemmas.Bool.{and_parts}
use Rattle.panel.specs.Panel.{Make}
use Rattle.registers.specs.Ports.{on_cpu}
use Rattle.registers.specs.Registers.{with_ei}
use Rattle.cycles.specs.Play.{Tally}
use Rattle.processor.specs.Interrupt.{accepted, wakes}
use Rattle.processor.specs.Step.{Faulted, Model, began, step, taken}
use Rattle.processor.proofs.Steps.{bad_byte, by_tests}
use Rattle.card_laws.specs.Time.{StepTime}
use Rattle.card_laws.proofs.Every.{is_true}
use Rattle.card_laws.proofs.Executing.{executing, runs}
use Rattle.card_laws.proofs.Lasting.{in_range, turns}

abbrev pub Between : ℕ → Type 0
Between n = (3 ≤ n) × (n ≤ 19)

between : (n : ℕ) → T (in_range n) → Between n
unfolding in_range
between n h =
    let parts = and_parts (leb 3 n) (leb n 19) (is_true _ h) in
    (leb-true 3 n parts.0, leb-true n 19 parts.1)

never : (why : Faulted) (t : Tally) → Err why ≡ Ok t → ⊥
never why t h = let z : ◌≡◌ {A = ℕ} 0 1 = cc in omega arith

same_time : (t u : Tally) → ◌≡◌ {A = Result Tally Faulted} (Ok t) (Ok u) → t ≡ u
same_time t u h = cc

module _ {S : Type 0} (make : Make S) where
  taken_between : (c : Model S) (t : Tally) → (taken make c).answer ≡ Ok t → Between t.states
  taken_between c t h =
      subst (λ u. Between u.states) (same_time _ t h)
      (between _ (turns make (began c) c.mem c.panel c.processor.cpu.mode (accepted make c.panel c.processor.cpu) (wakes make c.panel c.processor.cpu) (make.int0_byte c.panel) (on_cpu (with_ei false) c.processor)))

  tests_between : (c : Model S) (t : Tally) (full bad : Bool) → (by_tests make full bad c).answer ≡ Ok t → Between t.states
  tests_between c t true bad h = absurd (never _ t h)
  tests_between c t false true h = absurd (never _ t h)
  tests_between c t false false h = taken_between c t h

  pub step_between : (c : Model S) (t : Tally) → (step make c).answer ≡ Ok t → Between t.states
  step_between c t h = tests_between c t (make.full c.panel) (bad_byte make c) h

  pub step_time : StepTime make
  step_time = record {
    least = λ c t h. (step_between c t h).0;
    most = λ c t h. (step_between c t h).1;
    shortest = λ s quiet. ap (λ turn. turn.answer) (executing make _ (runs make s quiet _ _ refl));
    longest = λ s quiet. ap (λ turn. turn.answer) (executing make _ (runs make s quiet _ _ refl));
  }
