-- The window that the program's arguments ask for. Assumes nothing.
use Rattle.std.specs.Prelude.{ℕ, cond, List, [], ◌∷◌, ◌++◌, Some, None, Ok, Err, codes, Result, nat_lt}
use Rattle.text.specs.Numbers.{byte_value}
use Rattle.registers.specs.declared.window.Window.{Window}
use Rattle.pagemap.specs.declared.arguments.Place.{Place}
use Rattle.pagemap.specs.declared.arguments.Place.TheVariants.{Cbar, Cbr, Bbr}
use Rattle.pagemap.specs.declared.arguments.BadArgument.{BadArgument}
use Rattle.pagemap.specs.declared.arguments.BadArgument.TheVariants.{NotThree, NotAByte, AboveBase}

-- A byte, in one or two hexadecimal digits.
abbrev pub byte_for : Place → List ℕ → Result ℕ BadArgument
byte_for place text = elim (byte_value text) [ Some b ↦ Ok b | None ↦ Err (NotAByte place) ]

-- A base: a byte that is not above 7FH.
abbrev pub seven_bits : Place → Result ℕ BadArgument → Result ℕ BadArgument
seven_bits place (Ok b) = cond (nat_lt b 128) (Ok b) (Err (AboveBase place))
seven_bits place (Err e) = Err e

abbrev pub base_for : Place → List ℕ → Result ℕ BadArgument
base_for place text = seven_bits place (byte_for place text)

-- The window of three bytes; the first that is wrong is named.
abbrev pub window_from : Result ℕ BadArgument → Result ℕ BadArgument → Result ℕ BadArgument → Result Window BadArgument
window_from (Ok cbar) (Ok cbr) (Ok bbr) = Ok (record { cbar = cbar; cbr = cbr; bbr = bbr })
window_from (Ok cbar) (Ok cbr) (Err e) = Err e
window_from (Ok cbar) (Err e) bbr = Err e
window_from (Err e) cbr bbr = Err e

-- CBAR, CBR and BBR; without arguments the window is as reset leaves it.
abbrev pub window_asked : List (List ℕ) → Result Window BadArgument
window_asked [] = Ok (record { cbar = 0xF0; cbr = 0; bbr = 0 })
window_asked (cbar ∷ []) = Err NotThree
window_asked (cbar ∷ cbr ∷ []) = Err NotThree
window_asked (cbar ∷ cbr ∷ bbr ∷ []) = window_from (byte_for Cbar cbar) (base_for Cbr cbr) (base_for Bbr bbr)
window_asked (cbar ∷ cbr ∷ bbr ∷ one ∷ more) = Err NotThree

abbrev pub place_name : Place → List ℕ
place_name Cbar = codes "CBAR"
place_name Cbr = codes "CBR"
place_name Bbr = codes "BBR"

-- What is printed of a bad argument.
abbrev pub bad_argument_line : BadArgument → List ℕ
bad_argument_line NotThree = codes "give three hexadecimal bytes, CBAR CBR BBR, or none"
bad_argument_line (NotAByte place) = place_name place ++ codes " is not a byte in one or two hexadecimal digits"
bad_argument_line (AboveBase place) = place_name place ++ codes " is above 7F"
