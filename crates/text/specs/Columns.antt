-- Columns of numbers. Assumes nothing.
use Rattle.std.specs.Prelude.{ℕ, cond, List, [], ◌++◌, codes, decimal, nat_lt}

-- The blanks before a number that stands to the right of a column of four.
abbrev pub blanks : ℕ → List ℕ
blanks n = cond (nat_lt n 10) (codes "   ") (cond (nat_lt n 100) (codes "  ") (cond (nat_lt n 1000) (codes " ") []))

abbrev pub right_4 : ℕ → List ℕ
right_4 n = blanks n ++ decimal n
