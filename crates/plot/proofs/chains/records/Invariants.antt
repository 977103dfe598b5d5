use Rattle.std.proofs.Common.{◌≡◌, ◌++◌, string_bytes}
use Rattle.panel.specs.Walking.{left_to_walk}
use Rattle.plot.specs.Listing.{lines_of}
use Rattle.plot.proofs.chains.records.Given as goal

abbrev pub invariant-loop-number : goal.invariant-loop-number
invariant-loop-number l =
    string_bytes l.text ++ lines_of l.track (left_to_walk l.number-iterator)
    ≡ string_bytes l.initial.text ++ lines_of l.track (left_to_walk l.initial.number-iterator)
