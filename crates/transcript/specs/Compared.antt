-- Where two logs differ, as a line. Assumes nothing.
use Rattle.std.specs.Prelude.{ℕ, ◌+◌, List, ◌++◌, Some, None, Option, codes, decimal}

-- The first line whose answers differ, if there is one, counted from 0; as it is printed the first line is 1.
abbrev pub compared_text : Option ℕ → List ℕ
compared_text None = codes "alike"
compared_text (Some n) = codes "differs at line " ++ decimal (n + 1)
