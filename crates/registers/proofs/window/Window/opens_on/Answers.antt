use Rattle.std.proofs.Common.{refl, sym, ◌∙◌, eqb, rules}
use borrow.Author.Tests.{tests}
use Rattle.std.proofs.lemmas.Iterator.{YieldsList-from_range}
use Rattle.std.proofs.lemmas.Iterator.Search.{any_from_yields_List}
use Rattle.registers.specs.Window.{opens_on, shown_page}
use Rattle.registers.proofs.Opened.{among_any}
use Rattle.registers.proofs.window.Window.opens_on.Goals as goal

pub returns : goal.returns
unfolding opens_on
returns c =
    any_from_yields_List (λ p. eqb (shown_page c.args.self p) c.args.page) _ _ _ c.any.ensures.ran (YieldsList-from_range 0 16 16 refl refl) (λ x b q k. search (rules, tests))
    ∙ sym (among_any c.args.self c.args.page 0 16 16 refl)
