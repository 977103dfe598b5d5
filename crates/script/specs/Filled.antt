-- The boards of a script, filled. Assumes nothing.
use Rattle.std.specs.Prelude.{ℕ, List, length, drop, Some, None, Ok, Err, Option, Result, option_map, vec_items}
use Rattle.std.specs.Global.{Vec}
use Rattle.script.specs.declared.filled.Filled as code
use Rattle.script.specs.declared.wrong.BadLine.{BadLine}
use Rattle.script.specs.Script.{Script}
use Rattle.script.specs.Laid.{all_laid, blank}

pub record Filled : Type 0 where
  pub first : List ℕ
  pub second : Option (List ℕ)

-- The first board: its puts in zeros.
abbrev pub first_filled : Script → List (List ℕ) → Result (List ℕ) BadLine
first_filled s files = all_laid (Ok (blank s.rom s.ram)) s.puts files

abbrev pub both : List ℕ → Result (List ℕ) BadLine → Result Filled BadLine
both first (Ok second) = Ok (record { first = first; second = Some second })
both first (Err b) = Err b

-- The second board, if there is one, begins as the first is behind all its puts; its files stand behind theirs.
abbrev pub with_second : Script → List (List ℕ) → Result (List ℕ) BadLine → Result Filled BadLine
with_second s files (Ok first) = elim s.second [ Some puts ↦ both first (all_laid (Ok first) puts (drop (length s.puts) files)) | None ↦ Ok (record { first = first; second = None }) ]
with_second s files (Err b) = Err b

-- Both boards: a file for each put, in order, without bytes for a put that names none.
abbrev pub filled : Script → List (List ℕ) → Result Filled BadLine
filled s files = with_second s files (first_filled s files)

abbrev pub filled_of : code.Filled → Filled
filled_of f = record { first = vec_items f.first; second = option_map (λ (bs : Vec ℕ). vec_items bs) f.second }
