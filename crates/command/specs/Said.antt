-- A command, with a list where the code has a vector or a string. Assumes nothing.
use Rattle.std.specs.Prelude.{ℕ, List, string_bytes, vec_items}
use Rattle.registers.specs.declared.window.Window.{Window}
use Rattle.plugs.specs.declared.entry.Page.{Page}
use Rattle.plugs.specs.declared.entry.PatchEntry.{PatchEntry}
use Rattle.command.specs.declared.command.Command.{Command}
use Rattle.command.specs.declared.command.Command.TheVariants.{Rom, Ram, Bytes, Fill, Image, Protect, Patch, Chain, Script, Key, Latch, Second, Make, Step, Run, Reset, Look, Show}

pub data Said : Type 0 where
  rom : ℕ → Said
  ram : ℕ → Said
  bytes : ℕ → List ℕ → Said
  fill : ℕ → ℕ → ℕ → Said
  image : ℕ → List ℕ → Said
  protect : List Page → Said
  patch : List PatchEntry → Said
  chain : ℕ → Said
  script : ℕ → ℕ → List ℕ → Said
  key : ℕ → Said
  latch : Said
  second : Said
  make : Said
  step : ℕ → Said
  run : ℕ → ℕ → Said
  reset : Said
  look : Window → ℕ → ℕ → Said
  show : Said

-- What a command of the code says.
abbrev pub said_of : Command → Said
said_of (Rom n) = rom n
said_of (Ram n) = ram n
said_of (Bytes at bs) = bytes at (vec_items bs)
said_of (Fill at n b) = fill at n b
said_of (Image at file) = image at (string_bytes file)
said_of (Protect pages) = protect (vec_items pages)
said_of (Patch entries) = patch (vec_items entries)
said_of (Chain n) = chain n
said_of (Script b states reads) = script b states (vec_items reads)
said_of (Key b) = key b
said_of Latch = latch
said_of Second = second
said_of Make = make
said_of (Step times) = step times
said_of (Run budget times) = run budget times
said_of Reset = reset
said_of (Look w at n) = look w at n
said_of Show = show
