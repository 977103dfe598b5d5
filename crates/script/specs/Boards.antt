-- What a script says of the boards. Assumes nothing.
use Rattle.std.specs.Prelude.{ℕ, ◌+◌, Bool, true, false, cond, ◌||◌, List, [], ◌∷◌, ◌++◌, Some, None, Ok, Err, Option, Result, is_some, unwrap_or}
use Rattle.script.specs.declared.wrong.Wrong.{Wrong}
use Rattle.script.specs.declared.wrong.Wrong.TheVariants.{RomTwice, RamTwice, LengthLate, SecondTwice, Outside}
use Rattle.script.specs.Puts.{Put, fits}

pub record Boards : Type 0 where
  pub rom : Option ℕ
  pub ram : Option ℕ
  pub puts : List Put
  -- what is put into the second board alone
  pub second : Option (List Put)

abbrev pub no_boards : Boards
no_boards = record { rom = None; ram = None; puts = []; second = None }

-- Without a line of their own there is no ROM, and 65,536 bytes of RAM.
abbrev pub rom_bytes : Boards → ℕ
rom_bytes b = unwrap_or b.rom 0

abbrev pub ram_bytes : Boards → ℕ
ram_bytes b = unwrap_or b.ram 65536

-- Lengths come before what is put into boards of them.
abbrev pub lengths_settled : Boards → Bool
lengths_settled b = is_some b.second || (elim b.puts [ [] ↦ false | put ∷ more ↦ true ])

abbrev pub rom_said : Boards → ℕ → Result Boards Wrong
rom_said b n = cond (is_some b.rom) (Err RomTwice) (cond (lengths_settled b) (Err LengthLate) (Ok (record b { rom = Some n })))

abbrev pub ram_said : Boards → ℕ → Result Boards Wrong
ram_said b n = cond (is_some b.ram) (Err RamTwice) (cond (lengths_settled b) (Err LengthLate) (Ok (record b { ram = Some n })))

-- Behind `second` puts are for the second board.
abbrev pub with_put : Boards → Put → Boards
with_put b put = elim b.second [ Some puts ↦ record b { second = Some (puts ++ put ∷ []) } | None ↦ record b { puts = b.puts ++ put ∷ [] } ]

abbrev pub put_said : Boards → Put → Result Boards Wrong
put_said b put = cond (fits (rom_bytes b + ram_bytes b) put.at put.what) (Ok (with_put b put)) (Err Outside)

abbrev pub second_said : Boards → Result Boards Wrong
second_said b = cond (is_some b.second) (Err SecondTwice) (Ok (record b { second = Some [] }))
