use Rattle.std.proofs.Common.{◌≡◌, ◌-◌, ◌*◌, ◌≤◌}
use Rattle.processor.specs.Run.{run, run_on}
use Rattle.card.specs.Cards.{model}
use Rattle.card.specs.Witnesses.{witnessed}
use Rattle.card.specs.declared.ran.Stop.TheVariants.{Spent}
use Rattle.card.proofs.card.Card.run_on.Given as goal

abbrev pub invariant-loop : goal.invariant-loop
invariant-loop g l = record {
  so_far :
      witnessed g.W.Witness.noted (g.W.Witness.state l.witness) (run_on g.P.Panel.make l.budget (l.budget - l.ran.steps) l.ran.steps (record { cycles = l.ran.cycles; states = l.ran.states }) (model g.M.Memory.memory g.P.Panel.state l.self))
      ≡ witnessed g.W.Witness.noted (g.W.Witness.state l.initial.witness) (run g.P.Panel.make l.budget (model g.M.Memory.memory g.P.Panel.state l.initial.self));
  turns : l.ran.steps ≡ l.counter;
  cycles : l.ran.cycles ≤ l.ran.steps * 4294967296;
  states : l.ran.states ≤ l.ran.steps * 4294967296;
  stop : l.ran.stop ≡ Spent;
}
