use Rattle.std.proofs.Common.{ap, ◌∙◌, vec_len}
use Rattle.card.specs.Cards.{model}
use Rattle.opened.specs.Pages.{joined, pages_of}
use Rattle.card_log.proofs.Steps.{by_looking, by_run}
use Rattle.card_log.proofs.line.Line.serve.Goals as goal

pub returns-in-Run-clause-opened : goal.returns-in-Run-clause-opened
returns-in-Run-clause-opened g c =
    rw c.in-Run.is (c.run_witnessed.ensures.noted ∙ by_run g.P.Panel.make c.in-Run.budget _ (pages_of c.args.opening.now.pages))

pub returns-in-Look-clause-opened : goal.returns-in-Look-clause-opened
returns-in-Look-clause-opened g c =
    let fits = rw c.in-Look.is at c.args.self.fits in
    rw c.in-Look.is (c.look.ensures.opened ∙ ap (joined (pages_of c.args.opening.now.pages)) (by_looking g.P.Panel.make vec_len c.args.self.room c.in-Look.window c.in-Look.at c.in-Look.field-2 (model g.M.Memory.memory g.P.Panel.state c.args.card.now) fits))
