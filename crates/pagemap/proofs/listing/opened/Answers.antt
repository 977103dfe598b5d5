use Rattle.registers.specs.Window.{opens_on}
use Rattle.pagemap.proofs.Appending.{none_held, held_more}
use Rattle.pagemap.proofs.listing.opened.Goals as goal

pub loop-page-init : goal.loop-page-init
loop-page-init c = none_held (opens_on c.args.window) _

pub loop-page-preserved : goal.loop-page-preserved
loop-page-preserved c = held_more (opens_on c.args.window) c.loop-page.page _ _ _ _ c.loop-page.invariant c.opens_on.ensures c.in_ok-page_if.ensures
