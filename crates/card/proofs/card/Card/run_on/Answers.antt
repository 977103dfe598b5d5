use Rattle.std.proofs.Common.{◌≡◌, ◌+◌, ◌-◌, true, false, leb, ap₂, ap, ◌∙◌, arith}
use Rattle.std.proofs.lemmas.Bool.Decides.{nat_tests}
use Rattle.card.specs.Cards.{came, model}
use Rattle.card.specs.Witnesses.{witnessed}
use Rattle.processor.specs.Run.{run_on}
use Rattle.card.specs.declared.ran.Ran.{Ran}
use Rattle.card.specs.declared.ran.Stop.TheVariants.{Halted}
use Rattle.card.proofs.Running.{again, denied, rested, spends, with_note}
use Rattle.card.proofs.card.Card.run_on.Goals as goal

pub returns-in-Err : goal.returns-in-Err
returns-in-Err g c =
    denied g.P.Panel.make g.W.Witness.noted c.args.budget c.loop.ran.steps _ _ _ _ _ (omega arith) c.in-Err.ensures.turn ∙ c.loop.invariant.so_far

pub returns-then-rests : goal.returns-then-rests
returns-then-rests g c =
    ap₂ (λ (r : Ran) (n : g.W.Witness.State). with_note (came g.M.Memory.memory g.P.Panel.state (record r { stop = Halted }) c.step.new.self) n) c.count.ensures c.note.ensures
    ∙ (rested g.P.Panel.make g.W.Witness.noted c.args.budget c.loop.ran.steps (record { cycles = c.loop.ran.cycles; states = c.loop.ran.states }) _ _ _ (record { cycles = c.in-Ok.cost.cycles; states = c.in-Ok.cost.states }) (omega arith) c.in-Ok.ensures.turn c.if-rests.ensures ∙ c.loop.invariant.so_far)

pub returns-then-ran-from : goal.returns-then-ran-from
returns-then-ran-from g c =
    let was = rw c.loop.invariant.stop at c.count.ensures in
    let over : true ≡ leb c.args.budget (c.loop.ran.states + c.in-Ok.cost.states) = grind (arith, nat_tests, ap (λ (r : Ran). r.states) c.count.ensures, c.from.ensures) in
    ap₂ (λ (r : Ran) (n : g.W.Witness.State). with_note (came g.M.Memory.memory g.P.Panel.state r c.step.new.self) n) was c.note.ensures
    ∙ (spends g.P.Panel.make g.W.Witness.noted c.args.budget c.loop.ran.steps (record { cycles = c.loop.ran.cycles; states = c.loop.ran.states }) _ _ _ (record { cycles = c.in-Ok.cost.cycles; states = c.in-Ok.cost.states }) (omega arith) c.in-Ok.ensures.turn c.if-rests.ensures over ∙ c.loop.invariant.so_far)

pub loop-preserved : goal.loop-preserved
loop-preserved g c =
    let under : false ≡ leb c.args.budget (c.loop.ran.states + c.in-Ok.cost.states) = grind (arith, nat_tests, ap (λ (r : Ran). r.states) c.count.ensures, c.from.ensures) in
    record {
      so_far =
          ap₂ (λ (r : Ran) (n : g.W.Witness.State). witnessed g.W.Witness.noted n (run_on g.P.Panel.make c.args.budget (c.args.budget - r.steps) r.steps (record { cycles = r.cycles; states = r.states }) (model g.M.Memory.memory g.P.Panel.state c.step.new.self))) c.count.ensures c.note.ensures
          ∙ (again g.P.Panel.make g.W.Witness.noted c.args.budget c.loop.ran.steps (record { cycles = c.loop.ran.cycles; states = c.loop.ran.states }) _ _ _ (record { cycles = c.in-Ok.cost.cycles; states = c.in-Ok.cost.states }) (omega arith) c.in-Ok.ensures.turn c.if-rests.ensures under ∙ c.loop.invariant.so_far);
      turns = rw c.count.ensures (omega arith);
      cycles = rw c.count.ensures (omega arith);
      states = rw c.count.ensures (omega arith);
      stop = rw c.count.ensures c.loop.invariant.stop;
    }
