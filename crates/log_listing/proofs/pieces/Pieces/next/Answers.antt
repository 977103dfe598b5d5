use Rattle.std.proofs.Common.{arith}
use Rattle.log_listing.proofs.Repeats.{parted}
use Rattle.log_listing.proofs.pieces.Pieces.next.Goals as goal

pub returns-clause-calls : goal.returns-clause-calls
returns-clause-calls c =
    parted c.min-count.result c.args.self.now.left c.args.self.now.call _ (omega (arith, c.min-count.ensures)) (c.in_ok-piece.ensures.items_if_clones_equal (λ y same. same))
