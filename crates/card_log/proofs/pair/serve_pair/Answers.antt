use Rattle.std.proofs.Common.{ap, ◌∙◌, arith}
use Rattle.opened.specs.Pages.{pages_of}
use Rattle.card_log.proofs.Differing.{first}
use Rattle.card_log.proofs.Lines.{enough, together}
use Rattle.card_log.proofs.pair.serve_pair.Goals as goal

pub returns-clause-difference : goal.returns-clause-difference
returns-clause-difference g c =
    rw (← c.deref.ensures.value, ← c.deref-2.ensures.value) (first c.deref.result.now c.deref-2.result.now (omega (arith, c.serve_both.ensures.even, c.deref.ensures.len, c.deref-2.ensures.len)) _ c.first_difference-difference.ensures)

pub returns-clause-together : goal.returns-clause-together
returns-clause-together g c = together g.P.Panel.make _ _ _

pub returns-clause-enough : goal.returns-clause-enough
returns-clause-enough g c =
    rw c.len-served.ensures (enough g.P.Panel.make (pages_of c.pages.result) _ _ _ (ap pages_of c.pages.ensures ∙ c.serve_both.ensures.opened))
