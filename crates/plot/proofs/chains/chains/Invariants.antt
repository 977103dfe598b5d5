use Rattle.std.proofs.Common.{◌≡◌, ◌++◌, string_bytes}
use Rattle.panel.specs.Shown.{chain_state}
use Rattle.plot.proofs.Appending.{first_tracks}
use Rattle.plot.proofs.chains.chains.Given as goal

abbrev pub invariant-loop-track : goal.invariant-loop-track
invariant-loop-track l = string_bytes l.text ≡ string_bytes l.initial.text ++ first_tracks (chain_state l.panel) l.track-index
