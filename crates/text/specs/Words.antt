-- The words of a line. Assumes nothing.
use Rattle.std.specs.Prelude.{ℕ, Bool, ◌||◌, ◌==◌, List, filter, not, length}
use Rattle.std.specs.List.{before_first, slice_split}

-- A space, a tab or a carriage return.
abbrev pub is_blank : ℕ → Bool
is_blank c = c == 32 || c == 9 || c == 13

-- What stands before the first `#`: a comment lasts to the end of its line.
abbrev pub before_comment : List ℕ → List ℕ
before_comment line = before_first (λ c. c == 35) line

-- The parts between blanks that hold something.
abbrev pub words_of : List ℕ → List (List ℕ)
words_of line = filter (λ word. not (length word == 0)) (slice_split is_blank (before_comment line))
