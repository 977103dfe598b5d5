use Rattle.plugs.proofs.Plugging.{plugged_in}
use Rattle.plugs.proofs.plug.Plug.new.Goals as goal

pub returns-in-Ok-clause-answer : goal.returns-in-Ok-clause-answer
returns-in-Ok-clause-answer g c =
    plugged_in (λ f. g.E.Entry.altered f (g.M.Memory.memory c.args.below)) c.args.below _ _ _ c.in-Ok.ensures.0 c.in-Ok.ensures.1
