use Rattle.std.proofs.Common.{◌≡◌, ◌+◌, ◌++◌, [], ◌∷◌, vec_items, sym, ap, ◌∙◌, rules}
use Rattle.std.proofs.lemmas.Result.{err_from_is_err_and}
use Rattle.command.proofs.Listing.{begun, behind, ended, left, more, stopped}
use Rattle.command.proofs.lists.all.Goals as goal

pub loop-word-init : goal.loop-word-init
loop-word-init g c =
    let all = left g.T.Listed.listed c.args.words.now 0 in
    ap (λ xs. behind xs all) c.new-all.ensures.items ∙ begun all

pub loop-word-preserved : goal.loop-word-preserved
loop-word-preserved g c =
    let i = c.loop-word.word-index in
    let items : vec_items c.push.new.self ≡ vec_items c.loop-word.all ++ c.in_ok-read.field-0 ∷ [] = search rules in
    ap (λ xs. behind xs (left g.T.Listed.listed c.args.words.now (i + 1))) items
    ∙ sym (more g.T.Listed.listed c.args.words.now (vec_items c.loop-word.all) i c.in_ok-read.field-0 _ c.loop-word-test.true c.in_ok-read.ensures)
    ∙ c.loop-word.invariant

pub returns-in_err-read : goal.returns-in_err-read
returns-in_err-read g c =
    let p = err_from_is_err_and c.from_residual.result c.from_residual.ensures.1 in
    rw (p.1, p.2) (sym (stopped g.T.Listed.listed c.args.words.now (vec_items c.loop-word.all) c.loop-word.word-index c.in_err-read.field-0.0 _ c.loop-word-test.true c.in_err-read.ensures) ∙ c.loop-word.invariant)

pub returns : goal.returns
returns g c =
    sym (ended g.T.Listed.listed c.args.words.now (vec_items c.loop-word.all) c.loop-word.word-index c.loop-word-test.false) ∙ c.loop-word.invariant
