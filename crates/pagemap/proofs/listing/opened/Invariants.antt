use Rattle.std.proofs.Common.{◌≡◌, ◌++◌, string_bytes}
use Rattle.registers.specs.Window.{opens_on}
use Rattle.pagemap.specs.Listing.{held_text}
use Rattle.pagemap.proofs.listing.opened.Given as goal

abbrev pub invariant-loop-page : goal.invariant-loop-page
invariant-loop-page l = string_bytes l.text ≡ string_bytes l.initial.text ++ held_text (opens_on l.window) l.page
