use Rattle.std.proofs.Common.{◌≡◌, ◌≤◌, [], length, drop}
use Rattle.plugs.specs.Places.{all_placed, held}
use Rattle.plugs.proofs.table.Table.of.Given as goal

abbrev pub invariant-loop-e : goal.invariant-loop-e
invariant-loop-e g l =
    (length (held l.table) ≤ 32)
    × (all_placed g.E.Entry.key (held l.table) (drop l.e-index l.entries) ≡ all_placed g.E.Entry.key [] l.entries)
