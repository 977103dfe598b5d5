use Rattle.std.proofs.Common.{◌≡◌, map, vec_items}
use Rattle.command.specs.Words.{all_read}
use Rattle.command.proofs.Listing.{behind, left}
use Rattle.command.proofs.lists.all.Given as goal

abbrev pub invariant-loop-word : goal.invariant-loop-word
invariant-loop-word g l =
    let read = g.T.Listed.listed in
    behind (vec_items l.all) (left read l.words l.word-index) ≡ all_read read (map (λ w. w.now) l.words)
