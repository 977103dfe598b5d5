use Rattle.std.proofs.Common.{◌≡◌, ℕ, true, ap, ◌∙◌, add-one, arith}
use Rattle.std.proofs.lemmas.List.{length-set}
use Rattle.opened.specs.Pages.{joined, pages_of}
use Rattle.registers.specs.Window.{opens_on, shown_among}
use Rattle.opened.proofs.Holding.{one_more}
use Rattle.opened.proofs.pages.Pages.open.Goals as goal

pub loop-logical-preserved : goal.loop-logical-preserved
loop-logical-preserved c = record {
  pages =
      one_more c.args.self.now.held c.loop-logical.self.held c.args.window c.loop-logical.logical _ c.from.result (c.from.ensures ∙ c.shown_page.ensures.value) (add-one c.loop-logical.logical) (omega (arith, c.from.ensures, c.shown_page.ensures.bound, c.loop-logical.invariant.long)) c.loop-logical.invariant.pages;
  long = omega (arith, c.loop-logical.invariant.long, length-set c.loop-logical.self.held c.from.result true);
}

pub returns : goal.returns
unfolding opens_on
returns c =
    let all : c.loop-logical.logical ≡ 16 = omega (arith, c.loop-logical-test.false, c.loop-logical.auto.logical-end) in
    c.loop-logical.invariant.pages ∙ ap (λ (n : ℕ). joined (pages_of c.args.self.now) (shown_among c.args.window n)) all
