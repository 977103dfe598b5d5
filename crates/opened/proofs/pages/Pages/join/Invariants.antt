use Rattle.std.proofs.Common.{◌≡◌, ℕ, ◌&&◌, ◌||◌, ltb, length}
use Rattle.opened.specs.Pages.{pages_of}
use Rattle.opened.proofs.pages.Pages.join.Given as goal

abbrev pub invariant-loop-page : goal.invariant-loop-page
invariant-loop-page l = record {
  pages : (q : ℕ) → pages_of l.self q ≡ (pages_of l.initial.self q || (ltb q l.page && pages_of l.other q));
  long : length l.self.held ≡ 128;
}
