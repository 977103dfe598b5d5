use Rattle.std.proofs.Common.{ℕ, ◌+◌, ◌<◌, List, map, length, drop, Ok, Result, vec_items, ap, ◌∙◌, rules}
use Rattle.std.proofs.lemmas.Result.{err_from_is_err_and}
use Rattle.script.specs.declared.wrong.BadLine.{BadLine}
use Rattle.script.specs.Shown.{put_of}
use Rattle.script.specs.Laid.{all_laid}
use Rattle.script.proofs.OneByOne.{one_laid}
use Rattle.script.proofs.laying.lay_all.Goals as goal

pub returns-in_err-lay : goal.returns-in_err-lay
returns-in_err-lay c =
    let puts = map put_of c.args.puts.now in
    let files = map vec_items c.args.files.now in
    let i = c.loop-index.index in
    let inside : i < length c.args.puts.now = search rules in
    let more = one_laid put_of c.args.puts.now files i c.index-puts-index.result c.file_at.result.now c.loop-index.board (all_laid (Ok c.args.board.now) puts files) inside c.index-puts-index.is c.file_at.ensures c.loop-index.invariant in
    let p = err_from_is_err_and c.from_residual.result c.from_residual.ensures.1 in
    rw (p.1, p.2) (ap (λ (r : Result (List ℕ) BadLine). all_laid r (drop (i + 1) puts) (drop (i + 1) files)) c.in_err-lay.ensures.0 ∙ more)

pub loop-index-preserved : goal.loop-index-preserved
loop-index-preserved c =
    let puts = map put_of c.args.puts.now in
    let files = map vec_items c.args.files.now in
    let i = c.loop-index.index in
    let inside : i < length c.args.puts.now = search rules in
    let more = one_laid put_of c.args.puts.now files i c.index-puts-index.result c.file_at.result.now c.loop-index.board (all_laid (Ok c.args.board.now) puts files) inside c.index-puts-index.is c.file_at.ensures c.loop-index.invariant in
    ap (λ (r : Result (List ℕ) BadLine). all_laid r (drop (i + 1) puts) (drop (i + 1) files)) c.in_ok-lay.ensures ∙ more
