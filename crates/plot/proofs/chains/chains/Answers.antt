use Rattle.std.proofs.Common.{arith}
use Rattle.panel.specs.Shown.{chain_state}
use Rattle.plot.proofs.Appending.{no_track, track_more, all_tracks}
use Rattle.plot.proofs.chains.chains.Goals as goal

pub loop-track-init : goal.loop-track-init
loop-track-init c = no_track (chain_state c.args.panel.now) _

pub loop-track-preserved : goal.loop-track-preserved
loop-track-preserved c =
    track_more (chain_state c.args.panel.now) c.loop-track.track-index _ _ _ _ c.loop-track-test.true c.loop-track.invariant c.in_ok-records.ensures

pub returns : goal.returns
returns c = all_tracks (chain_state c.args.panel.now) c.loop-track.track-index _ _ (omega arith) c.loop-track.invariant
