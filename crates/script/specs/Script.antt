-- What a script's text says, line by line. Assumes nothing.
use Rattle.std.specs.Prelude.{ℕ, ◌+◌, cond, List, [], ◌∷◌, ◌++◌, Some, None, Ok, Err, Option, Result, nat_eq}
use Rattle.plugs.specs.declared.entry.Page.{Page}
use Rattle.plugs.specs.declared.entry.PatchEntry.{PatchEntry}
use Rattle.command.specs.declared.wrong.Wrong as line
use Rattle.command.specs.Said.{Said}
use Rattle.command.specs.Said as said
use Rattle.command.specs.Commands.{command_of}
use Rattle.script.specs.declared.entry.Entry.{Entry}
use Rattle.script.specs.declared.wrong.BadLine.{BadLine}
use Rattle.script.specs.declared.wrong.Wrong.{Wrong}
use Rattle.script.specs.declared.wrong.Wrong.TheVariants.{Line, NoMake}
use Rattle.script.specs.Puts.{Put}
use Rattle.script.specs.Boards.{rom_bytes, ram_bytes}
use Rattle.script.specs.Panels.{Panel}
use Rattle.script.specs.Setup.{Setup, nothing_set_up, set_up}
use Rattle.script.specs.Entries.{entry_of}

-- What the lines so far say: the setup, and behind `make` the log.
pub record Draft : Type 0 where
  pub setup : Setup
  pub log : Option (List Entry)

abbrev pub nothing_said : Draft
nothing_said = record { setup = nothing_set_up; log = None }

abbrev pub in_setup : Draft → Result Setup Wrong → Result Draft Wrong
in_setup d (Ok s) = Ok (record d { setup = s })
in_setup d (Err w) = Err w

abbrev pub in_log : Draft → List Entry → Result Entry Wrong → Result Draft Wrong
in_log d log (Ok entry) = Ok (record d { log = Some (log ++ entry ∷ []) })
in_log d log (Err w) = Err w

-- One command, on the line of a number.
abbrev pub before_make : ℕ → Draft → Said → Result Draft Wrong
before_make line d said.make = Ok (record d { log = Some [] })
before_make line d c = in_setup d (set_up line d.setup c)

abbrev pub taken : ℕ → Draft → Said → Result Draft Wrong
taken line d c = elim d.log [ Some log ↦ in_log d log (entry_of c) | None ↦ before_make line d c ]

-- One line, which may say nothing.
abbrev pub line_taken : ℕ → Draft → Result (Option Said) line.Wrong → Result Draft Wrong
line_taken number d (Ok (Some c)) = taken number d c
line_taken number d (Ok None) = Ok d
line_taken number d (Err w) = Err (Line w)

-- A script, once it is read.
pub record Script : Type 0 where
  pub rom : ℕ
  pub ram : ℕ
  -- into the first board, as which the second begins
  pub puts : List Put
  -- into the second board alone, if there is one
  pub second : Option (List Put)
  pub protect : List Page
  pub patch : List PatchEntry
  pub panel : Panel
  pub log : List Entry

abbrev pub script : Setup → List Entry → Script
script s log = record {
  rom = rom_bytes s.boards;
  ram = ram_bytes s.boards;
  puts = s.boards.puts;
  second = s.boards.second;
  protect = s.protect;
  patch = s.patch;
  panel = s.plan.panel;
  log = log;
}

-- At the text's end; the number is that of the line behind the last.
abbrev pub finished : ℕ → Draft → Result Script BadLine
finished number d = elim d.log [ Some log ↦ Ok (script d.setup log) | None ↦ Err (record { line = number; wrong = NoMake }) ]

-- The lines from a number on; the first that is wrong is named.
abbrev pub lines_taken : ℕ → Result Draft Wrong → List (List ℕ) → Result Script BadLine
lines_taken number (Err w) lines = Err (record { line = number; wrong = w })
lines_taken number (Ok d) [] = finished (number + 1) d
lines_taken number (Ok d) (line ∷ more) = lines_taken (number + 1) (line_taken (number + 1) d (command_of line)) more

-- The lines of a text: each ends at a line feed or with the text.
abbrev pub first_longer : ℕ → List (List ℕ) → List (List ℕ)
first_longer c [] = (c ∷ []) ∷ []
first_longer c (line ∷ more) = (c ∷ line) ∷ more

abbrev pub lines_of : List ℕ → List (List ℕ)
lines_of [] = []
lines_of (c ∷ text) = cond (nat_eq c 10) ([] ∷ lines_of text) (first_longer c (lines_of text))

abbrev pub script_of : List ℕ → Result Script BadLine
script_of text = lines_taken 0 (Ok nothing_said) (lines_of text)
