-- What a line of a script puts into a board, and whether there is room. Assumes nothing.
use Rattle.std.specs.Prelude.{ℕ, ◌+◌, Bool, true, ◌||◌, List, length, nat_eq, nat_le}

pub data What : Type 0 where
  bytes : List ℕ → What
  -- a length and a byte
  fill : ℕ → ℕ → What
  -- a file's name
  image : List ℕ → What

pub record Put : Type 0 where
  -- the line's number
  pub line : ℕ
  pub at : ℕ
  pub what : What

-- n bytes from an address on lie in a board of a length, or there are none.
abbrev pub lie_within : ℕ → ℕ → ℕ → Bool
lie_within board at n = nat_eq n 0 || nat_le (at + n) board

-- What a line can be refused for before any file is read.
abbrev pub fits : ℕ → ℕ → What → Bool
fits board at (bytes bs) = lie_within board at (length bs)
fits board at (fill n b) = lie_within board at n
fits board at (image name) = true
