use Rattle.card_laws.proofs.Branches.{branches}
use Rattle.card_laws.proofs.Every.{every}
use Rattle.card_laws.proofs.every_card.Goals as goal

pub returns : goal.returns
returns g c = record { plain = every g.P.Panel.make; branches = branches g.P.Panel.make }
