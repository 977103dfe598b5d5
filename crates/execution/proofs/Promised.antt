-- What a step promises follows from its equation with the definition. Assumes nothing.
use Rattle.std.proofs.Common.{◌≡◌, Bool, true, false, Ok, Err, Option, Result, sym, refl, ap, ◌∙◌, subst, ap₂}
use Rattle.panel.specs.declared.line.Line.{Line}
use Rattle.panel.specs.Panel.{Make}
use Rattle.cycles.specs.Footprint.{Few}
use Rattle.cycles.specs.Play.{Tally}
use Rattle.processor.proofs.Steps as steps
use Rattle.processor.specs.Interrupt.{accepted}
use Rattle.processor.specs.Isolation.{IfTaken}
use Rattle.processor.specs.Seclusion.{Both}
use Rattle.processor.specs.Step.{Faulted, Model, Turn, denied, no_restart, step}
use Rattle.execution.specs.Steps.{Secluded, over, took_line}

if_taken : (r : Result Tally Faulted) (A : Type 0) → A → IfTaken r A
if_taken (Ok cost) A a = a
if_taken (Err why) A a = tt

module _ {S : Type 0} (make : Make S) (c : Model S) where
  few : (turn : Turn S) → turn ≡ step make c → Few c.processor.window 2 c.mem turn.card.mem
  few turn e = subst (λ (t : Turn S). Few c.processor.window 2 c.mem t.card.mem) (sym e) ((steps.laws make).few c)

  secluded : (turn : Turn S) → turn ≡ step make c → Secluded make c turn
  secluded turn e pages n within agree =
      subst (λ (t : Turn S). Both pages c (over n c) t (step make (over n c))) (sym e)
      ((steps.laws make).both pages c (over n c) (record { processor = refl; panel = refl; memory = agree }) (if_taken (step make c).answer _ within))

  -- all that a step promises, once it is the definition's
  pub kept : (t : Turn S) → t ≡ step make c → record { turn : t ≡ step make c; few : Few c.processor.window 2 c.mem t.card.mem; secluded : Secluded make c t }
  kept t e = record { turn = e; few = few t e; secluded = secluded t e }

  bad : (l : Option Line) (b : Bool) → l ≡ accepted make c.panel c.processor.cpu → b ≡ no_restart l c.processor.cpu.im (make.int0_byte c.panel) → b ≡ steps.bad_byte make c
  bad l b h k = k ∙ ap (λ (x : Option Line). no_restart x c.processor.cpu.im (make.int0_byte c.panel)) h

  pub eight : true ≡ make.full c.panel → denied 8 c ≡ step make c
  eight h = ap (λ (x : Bool). steps.by_tests make x (steps.bad_byte make c) c) h

  pub nine : (l : Option Line) → false ≡ make.full c.panel → l ≡ accepted make c.panel c.processor.cpu → true ≡ no_restart l c.processor.cpu.im (make.int0_byte c.panel) → denied 9 c ≡ step make c
  nine l h a k = ap₂ (λ (x y : Bool). steps.by_tests make x y c) h (bad l true a k)

  pub took : (l : Option Line) (turn : Turn S) → false ≡ make.full c.panel → l ≡ accepted make c.panel c.processor.cpu → false ≡ no_restart l c.processor.cpu.im (make.int0_byte c.panel) → turn ≡ took_line make l c → turn ≡ step make c
  took l turn h a k t =
      t ∙ (ap (λ (x : Option Line). took_line make x c) a ∙ ap₂ (λ (x y : Bool). steps.by_tests make x y c) h (bad l false a k))
