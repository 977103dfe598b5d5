-- Sets of physical pages. Assumes nothing.
use Rattle.std.specs.Prelude.{ℕ, Bool, false, ◌||◌, slice_index_or}
use Rattle.opened.specs.declared.pages.Pages.{Pages}

-- The set of no page, and the pages of two sets together.
abbrev pub none : ℕ → Bool
none q = false

abbrev pub joined : (ℕ → Bool) → (ℕ → Bool) → ℕ → Bool
joined one other q = one q || other q

-- The set that the code's value means.
abbrev pub pages_of : Pages → ℕ → Bool
pages_of pages q = slice_index_or pages.held q false
