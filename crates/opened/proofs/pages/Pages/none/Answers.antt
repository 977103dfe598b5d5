use Rattle.opened.proofs.Holding.{unmarked}
use Rattle.opened.proofs.Sets.{same_set}
use Rattle.opened.proofs.pages.Pages.none.Goals as goal

pub returns : goal.returns
returns c = same_set _ _ (λ q. unmarked 128 q)
