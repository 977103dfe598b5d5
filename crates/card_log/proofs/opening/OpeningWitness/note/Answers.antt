use Rattle.std.proofs.Common.{◌≡◌, Some, None, Option, ap, subst}
use Rattle.registers.specs.declared.window.Window.{Window}
use Rattle.registers.specs.Window.{opens_on}
use Rattle.opened.specs.Pages.{joined, pages_of}
use Rattle.card_log.proofs.Steps.{put_in}
use Rattle.card_log.proofs.opening.OpeningWitness.note.Goals as goal

pub invariant_of-self : goal.invariant_of-self
invariant_of-self c = record {
  last_in = λ x e.
      let same : c.args.window ≡ x = ap (λ (o : Option Window). elim o [ Some w ↦ w | None ↦ c.args.window ]) e in
      subst (λ (w : Window). joined (pages_of c.open.new.self) (opens_on w) ≡ pages_of c.open.new.self) same (put_in _ _ _ c.open.ensures);
}
