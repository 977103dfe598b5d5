-- What is said of a script that is refused. Assumes nothing.
use Rattle.std.specs.Prelude.{ℕ, List, ◌++◌, codes, decimal}
use Rattle.command.specs.Wrongs as line
use Rattle.script.specs.declared.wrong.Wrong.{Wrong}
use Rattle.script.specs.declared.wrong.Wrong.TheVariants.{Line, RomTwice, RamTwice, LengthLate, PanelLate, NotAChain, SecondTwice, Outside, Unreadable, BeforeMake, BehindMake, MakeTwice, NoMake}
use Rattle.script.specs.declared.wrong.BadLine.{BadLine}
use Rattle.script.specs.declared.wrong.Refused.{Refused}
use Rattle.script.specs.declared.wrong.Refused.TheVariants as refused

abbrev pub wrong_text : Wrong → List ℕ
wrong_text (Line w) = line.wrong_line w
wrong_text RomTwice = codes "rom is given twice"
wrong_text RamTwice = codes "ram is given twice"
wrong_text LengthLate = codes "rom and ram come before bytes, fill, image and second"
wrong_text PanelLate = codes "chain or script comes once, before key and latch"
wrong_text NotAChain = codes "key and latch are for a chain panel"
wrong_text SecondTwice = codes "second comes once"
wrong_text Outside = codes "there are bytes outside the board"
wrong_text Unreadable = codes "the file cannot be read"
wrong_text BeforeMake = codes "this comes behind make"
wrong_text BehindMake = codes "this comes before make"
wrong_text MakeTwice = codes "make comes once"
wrong_text NoMake = codes "make is missing"

abbrev pub bad_line : BadLine → List ℕ
bad_line b = codes "line " ++ decimal b.line ++ codes ": " ++ wrong_text b.wrong

abbrev pub refused_text : Refused → List ℕ
refused_text (refused.BadLine b) = bad_line b
refused_text refused.NoMemory = codes "no memory for the script"

abbrev pub outside : ℕ → BadLine
outside line = record { line = line; wrong = Outside }
