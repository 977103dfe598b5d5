-- The pages that were opened, as a line. Assumes nothing.
use Rattle.std.specs.Prelude.{ℕ, Bool, List, ◌++◌, codes}
use Rattle.pagemap.specs.Listing.{held_text}

-- Each physical page of a set of them, in ascending order.
abbrev pub opened_text : (ℕ → Bool) → List ℕ
opened_text holds = codes "opened" ++ held_text holds 128
