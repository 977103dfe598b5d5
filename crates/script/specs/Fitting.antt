-- What an accepted script puts fits its boards, the lengths of files apart. Assumes nothing.
use Rattle.std.specs.Prelude.{◌≡◌, ℕ, ◌+◌, Bool, true, ◌&&◌, List, [], ◌∷◌, Some, None, Ok, Option}
use Rattle.script.specs.Puts.{Put, fits}
use Rattle.script.specs.Script.{Script, script_of}

-- All of these fit a board of a length.
abbrev pub all_fit : ℕ → List Put → Bool
all_fit board [] = true
all_fit board (put ∷ puts) = fits board put.at put.what && all_fit board puts

abbrev pub puts_behind : Option (List Put) → List Put
puts_behind (Some puts) = puts
puts_behind None = []

-- Those of an accepted script do, the first board's and the second's.
abbrev pub PutsFit : Type 0
PutsFit =
    (text : List ℕ) (s : Script) →
    script_of text ≡ Ok s →
    (all_fit (s.rom + s.ram) s.puts ≡ true)
    × (all_fit (s.rom + s.ram) (puts_behind s.second) ≡ true)
