use Rattle.std.proofs.Common.{◌≡◌, length}
use Rattle.opened.specs.Pages.{joined, pages_of}
use Rattle.registers.specs.Window.{shown_among}
use Rattle.opened.proofs.pages.Pages.open.Given as goal

abbrev pub invariant-loop-logical : goal.invariant-loop-logical
invariant-loop-logical l = record {
  pages : pages_of l.self ≡ joined (pages_of l.initial.self) (shown_among l.window l.logical);
  long : length l.self.held ≡ 128;
}
