use Rattle.execution.specs.Steps.{model}
use Rattle.execution.proofs.Promised.{eight, kept, nine, took}
use Rattle.execution.proofs.step.step.Goals as goal

pub returns-then-full : goal.returns-then-full
returns-then-full g c = kept g.P.Panel.make _ _ (eight g.P.Panel.make _ c.if-full.ensures)

pub returns-then-no_restart : goal.returns-then-no_restart
returns-then-no_restart g c =
    kept g.P.Panel.make _ _ (nine g.P.Panel.make (model g.M.Memory.memory g.P.Panel.state c.args.m.now) c.accepted-line.result c.if-full.ensures c.accepted-line.ensures c.if-no_restart.ensures)

pub returns : goal.returns
returns g c =
    kept g.P.Panel.make _ _ (took g.P.Panel.make (model g.M.Memory.memory g.P.Panel.state c.args.m.now) c.accepted-line.result _ c.if-full.ensures c.accepted-line.ensures c.if-no_restart.ensures c.take.ensures)
