-- What the lines before `make` set up. Assumes nothing.
use Rattle.std.specs.Prelude.{ℕ, false, List, [], ◌++◌, Ok, Err, Result}
use Rattle.plugs.specs.declared.entry.Page.{Page}
use Rattle.plugs.specs.declared.entry.PatchEntry.{PatchEntry}
use Rattle.command.specs.Said.{Said}
use Rattle.command.specs.Said as said
use Rattle.script.specs.declared.wrong.Wrong.{Wrong}
use Rattle.script.specs.declared.wrong.Wrong.TheVariants.{BeforeMake}
use Rattle.script.specs.Puts.{Put, What, bytes, fill, image}
use Rattle.script.specs.Boards.{Boards, no_boards, rom_said, ram_said, put_said, second_said}
use Rattle.script.specs.Panels.{Plan, no_plan, chain, script, panel_said, key_said, latch_said}

pub record Setup : Type 0 where
  pub boards : Boards
  pub protect : List Page
  pub patch : List PatchEntry
  pub plan : Plan

abbrev pub nothing_set_up : Setup
nothing_set_up = record { boards = no_boards; protect = []; patch = []; plan = no_plan }

-- A line for the boards, and one for the panel, leaves the rest.
abbrev pub in_boards : Setup → Result Boards Wrong → Result Setup Wrong
in_boards s (Ok b) = Ok (record s { boards = b })
in_boards s (Err w) = Err w

abbrev pub in_plan : Setup → Result Plan Wrong → Result Setup Wrong
in_plan s (Ok p) = Ok (record s { plan = p })
in_plan s (Err w) = Err w

abbrev pub put_at : ℕ → ℕ → What → Put
put_at line at what = record { line = line; at = at; what = what }

-- One line, of a number; all but setup lines come behind `make`.
abbrev pub set_up : ℕ → Setup → Said → Result Setup Wrong
set_up line s (said.rom n) = in_boards s (rom_said s.boards n)
set_up line s (said.ram n) = in_boards s (ram_said s.boards n)
set_up line s (said.bytes at bs) = in_boards s (put_said s.boards (put_at line at (bytes bs)))
set_up line s (said.fill at n b) = in_boards s (put_said s.boards (put_at line at (fill n b)))
set_up line s (said.image at name) = in_boards s (put_said s.boards (put_at line at (image name)))
set_up line s said.second = in_boards s (second_said s.boards)
set_up line s (said.protect pages) = Ok (record s { protect = s.protect ++ pages })
set_up line s (said.patch entries) = Ok (record s { patch = s.patch ++ entries })
set_up line s (said.chain records) = in_plan s (panel_said s.plan (chain records 0 false))
set_up line s (said.script int0_byte threshold reads) = in_plan s (panel_said s.plan (script int0_byte threshold reads))
set_up line s (said.key byte) = in_plan s (key_said s.plan byte)
set_up line s said.latch = in_plan s (latch_said s.plan)
set_up line s said.make = Err BeforeMake
set_up line s (said.step n) = Err BeforeMake
set_up line s (said.run budget n) = Err BeforeMake
set_up line s said.reset = Err BeforeMake
set_up line s (said.look w at n) = Err BeforeMake
set_up line s said.show = Err BeforeMake
