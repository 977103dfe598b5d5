-- What the code's values say, as the definitions have it. Assumes nothing.
use Rattle.std.specs.Prelude.{◌≡◌, List, map, Ok, Err, Result, option_map, string_bytes, vec_items}
use Rattle.std.specs.Global.{Vec}
use Rattle.script.specs.declared.put.Put.{Put}
use Rattle.script.specs.declared.put.What.{What}
use Rattle.script.specs.declared.put.What.TheVariants.{Bytes, Fill, Image}
use Rattle.script.specs.declared.plan.PanelKind.{PanelKind}
use Rattle.script.specs.declared.plan.PanelKind.TheVariants.{Chain, Script}
use Rattle.script.specs.declared.plan.Plan.{Plan}
use Rattle.script.specs.declared.boards.Boards.{Boards}
use Rattle.script.specs.declared.setup.Setup.{Setup}
use Rattle.script.specs.declared.draft.Draft.{Draft}
use Rattle.script.specs.declared.assembled.Script as assembled
use Rattle.script.specs.declared.entry.Entry.{Entry}
use Rattle.script.specs.declared.wrong.BadLine.{BadLine}
use Rattle.script.specs.declared.wrong.Wrong.{Wrong}
use Rattle.script.specs.declared.wrong.Refused.{Refused}
use Rattle.script.specs.declared.wrong.Refused.TheVariants as refused
use Rattle.script.specs.declared.wrong.Untaken.{Untaken}
use Rattle.script.specs.declared.wrong.Untaken.TheVariants as untaken
use Rattle.script.specs.Puts as puts
use Rattle.script.specs.Boards as boards
use Rattle.script.specs.Panels as panels
use Rattle.script.specs.Setup as setup
use Rattle.script.specs.Script as script

abbrev pub what_of : What → puts.What
what_of (Bytes bs) = puts.bytes (vec_items bs)
what_of (Fill n b) = puts.fill n b
what_of (Image name) = puts.image (string_bytes name)

abbrev pub put_of : Put → puts.Put
put_of p = record { line = p.line; at = p.at; what = what_of p.what }

abbrev pub puts_of : Vec Put → List puts.Put
puts_of ps = map put_of (vec_items ps)

abbrev pub boards_of : Boards → boards.Boards
boards_of b = record { rom = b.rom; ram = b.ram; puts = puts_of b.puts; second = option_map puts_of b.second }

abbrev pub panel_of : PanelKind → panels.Panel
panel_of (Chain records key latch) = panels.chain records key latch
panel_of (Script int0_byte threshold reads) = panels.script int0_byte threshold (vec_items reads)

abbrev pub plan_of : Plan → panels.Plan
plan_of p = record { panel = panel_of p.panel; settled = p.settled }

abbrev pub setup_of : Setup → setup.Setup
setup_of s = record { boards = boards_of s.boards; protect = vec_items s.protect; patch = vec_items s.patch; plan = plan_of s.plan }

abbrev pub draft_of : Draft → script.Draft
draft_of d = record { setup = setup_of d.setup; log = option_map (λ (log : Vec Entry). vec_items log) d.log }

abbrev pub shown : assembled.Script → script.Script
shown s = record {
  rom = s.rom;
  ram = s.ram;
  puts = puts_of s.puts;
  second = option_map puts_of s.second;
  protect = vec_items s.protect;
  patch = vec_items s.patch;
  panel = panel_of s.panel;
  log = vec_items s.log;
}

-- What taking a line came to: what the definition answers, and at want of memory nothing is said.
abbrev pub Takes : {U D : Type 0} → Result U Untaken → Result D Wrong → D → Type 0
Takes (Ok u) answer after = Ok after ≡ answer
Takes (Err (untaken.Wrong w)) answer after = Err w ≡ answer
Takes (Err untaken.NoMemory) answer after = Unit {0}

-- The code's answer, as the definition shows it, is the definition's; want of memory alone may come in its place.
abbrev pub Reads : {A B : Type 0} → (A → B) → Result A Refused → Result B BadLine → Type 0
Reads shows (Ok a) answer = Ok (shows a) ≡ answer
Reads shows (Err (refused.BadLine b)) answer = Err b ≡ answer
Reads shows (Err refused.NoMemory) answer = Unit {0}
