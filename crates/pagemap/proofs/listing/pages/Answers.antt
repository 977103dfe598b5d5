use Rattle.pagemap.proofs.Appending.{no_pages, page_more}
use Rattle.pagemap.proofs.listing.pages.Goals as goal

pub loop-page-init : goal.loop-page-init
loop-page-init g c = no_pages _ _ _ _

pub loop-page-preserved : goal.loop-page-preserved
loop-page-preserved g c =
    page_more (g.M.Memory.memory c.args.image.now.memory.now) c.args.image.now.bytes c.args.image.now.window c.loop-page.page c.of-report.result _ _ _ c.loop-page.invariant c.of-report.ensures c.in_ok-writeln.ensures.bytes
