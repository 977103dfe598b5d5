use Rattle.std.proofs.Common.{◌≡◌, map, drop, Ok, vec_items}
use Rattle.script.specs.Shown.{put_of}
use Rattle.script.specs.Laid.{all_laid}
use Rattle.script.proofs.laying.lay_all.Given as goal

abbrev pub invariant-loop-index : goal.invariant-loop-index
invariant-loop-index l =
    all_laid (Ok l.board) (drop l.index (map put_of l.puts)) (drop l.index (map vec_items l.files))
    ≡ all_laid (Ok l.initial.board) (map put_of l.puts) (map vec_items l.files)
