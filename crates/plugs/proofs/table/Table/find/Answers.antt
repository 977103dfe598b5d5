use Rattle.std.proofs.Common.{eqb, ◌∙◌, rules}
use borrow.Author.Tests.{tests}
use Rattle.std.proofs.lemmas.Iterator.{YieldsList-from_slice}
use Rattle.std.proofs.lemmas.Iterator.Search.{find_from_yields_List}
use Rattle.plugs.proofs.table.Table.find.Goals as goal

pub returns : goal.returns
returns g c =
    c.copied.ensures
    ∙ find_from_yields_List (λ e. eqb (g.E.Entry.key e) c.args.key) _ _ c.find.result c.find.ensures.ran
    (YieldsList-from_slice c.args.self.now.entries.items (c.iter.ensures.rest ∙ c.deref.ensures.0))
    (λ x b q k. search (rules, tests))
