use Rattle.std.proofs.Common.{ap, ◌∙◌}
use Rattle.opened.specs.Pages.{pages_of}
use Rattle.card_log.proofs.Lines.{enough, together}
use Rattle.card_log.proofs.serve.serve.Goals as goal

pub returns-clause-alone : goal.returns-clause-alone
returns-clause-alone g c d = together g.P.Panel.make _ _ _

pub returns-clause-enough : goal.returns-clause-enough
returns-clause-enough g c d =
    rw c.len-served.ensures (enough g.P.Panel.make (pages_of c.pages.result) _ _ _ (ap pages_of c.pages.ensures ∙ c.serve.ensures.opened))
