use Rattle.pagemap.proofs.Appending.{none_held, held_more}
use Rattle.opened.specs.Pages.{pages_of}
use Rattle.transcript.proofs.pages_line.opened_line.Goals as goal

pub loop-page-init : goal.loop-page-init
loop-page-init c = none_held (pages_of c.args.pages.now) _

pub loop-page-preserved : goal.loop-page-preserved
loop-page-preserved c =
    held_more (pages_of c.args.pages.now) c.loop-page.page _ _ _ _ c.loop-page.invariant c.holds.ensures c.in_ok-page_if.ensures
