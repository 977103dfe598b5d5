-- What is printed of a line that is wrong. Assumes nothing.
use Rattle.std.specs.Prelude.{ℕ, List, ◌++◌, codes}
use Rattle.command.specs.Forms.{form_line}
use Rattle.command.specs.declared.wrong.Place.{Place}
use Rattle.command.specs.declared.wrong.Place.TheVariants.{Length, Hh, Page, Records, Byte, States, Times, Budget, Cbar, Cbr, Bbr}
use Rattle.command.specs.declared.wrong.Wrong.{Wrong}
use Rattle.command.specs.declared.wrong.Wrong.TheVariants.{NoCommand, Count, NotDecimal, NotAByte, NotAnAddress, NotALogicalAddress, NotAPatch, NotText}
use Rattle.command.specs.declared.unread.Unread.{Unread}
use Rattle.command.specs.declared.unread.Unread.TheVariants as unread

abbrev pub place_name : Place → List ℕ
place_name Length = codes "LENGTH"
place_name Hh = codes "HH"
place_name Page = codes "PAGE"
place_name Records = codes "RECORDS"
place_name Byte = codes "BYTE"
place_name States = codes "STATES"
place_name Times = codes "TIMES"
place_name Budget = codes "BUDGET"
place_name Cbar = codes "CBAR"
place_name Cbr = codes "CBR"
place_name Bbr = codes "BBR"

abbrev pub wrong_line : Wrong → List ℕ
wrong_line NoCommand = codes "unknown command"
wrong_line (Count form) = codes "want: " ++ form_line form
wrong_line (NotDecimal place) = place_name place ++ codes " is not a decimal number up to 4294967295"
wrong_line (NotAByte place) = place_name place ++ codes " is not one or two hexadecimal digits"
wrong_line NotAnAddress = codes "ADDRESS is not one to eight hexadecimal digits"
wrong_line NotALogicalAddress = codes "ADDRESS is not one to four hexadecimal digits"
wrong_line NotAPatch = codes "a patch is written ADDRESS=HH"
wrong_line NotText = codes "FILE is not UTF-8"

-- Want of memory is no fault of the line.
abbrev pub unread_line : Unread → List ℕ
unread_line (unread.Wrong w) = wrong_line w
unread_line unread.NoMemory = codes "no memory for the line"
