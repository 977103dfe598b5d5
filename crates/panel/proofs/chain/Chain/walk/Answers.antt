use Rattle.panel.specs.Tracks.{track_number}
use Rattle.panel.proofs.Finding.{walk_is}
use Rattle.panel.proofs.chain.Chain.walk.Goals as goal

pub returns : goal.returns
returns c = walk_is c.args.self.now (track_number c.args.track) c.first.result c.first.ensures
