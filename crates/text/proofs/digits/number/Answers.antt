use Rattle.std.proofs.Common.{◌<◌, length, sym, ◌∙◌, arith}
use Rattle.text.proofs.Numbers.{stopped, ended, of_some}
use Rattle.text.proofs.digits.number.Goals as goal

pub returns-in_err-n : goal.returns-in_err-n
returns-in_err-n c =
    let word = c.args.word.now in
    let some : 0 < length word = omega arith in
    c.from_residual-in_err-n.ensures
    ∙ sym (stopped c.args.radix c.loop-c.n c.in_ok-digit.field-0 c.loop-c.c-index word c.requires c.loop-c-test.true c.in_ok-digit.ensures c.in_err-n.ensures)
    ∙ c.loop-c.invariant.same
    ∙ of_some c.args.radix word some

pub returns : goal.returns
returns c =
    let word = c.args.word.now in
    let some : 0 < length word = grind arith in
    ended c.args.radix c.loop-c.n c.loop-c.c-index word c.loop-c.invariant.fits c.loop-c-test.false
    ∙ c.loop-c.invariant.same
    ∙ of_some c.args.radix word some
