use Rattle.std.proofs.Common.{get_or, sym, ap, ◌∙◌}
use Rattle.std.proofs.Math.ListN.{get_or-map}
use Rattle.panel.specs.Links.{firsts_of}
use Rattle.panel.specs.Tracks.{track_number}
use Rattle.panel.proofs.Finding.{first_is}
use Rattle.panel.proofs.chain.Chain.first.Goals as goal

pub returns : goal.returns
returns c = sym (get_or-map (λ s. s.first) c.args.self.now.spans c.number.result (record { first = 0; last = 0 })) ∙ ap (λ k. get_or (firsts_of c.args.self.now.spans) k 0) c.number.ensures.value ∙ first_is c.args.self.now (track_number c.args.track)
