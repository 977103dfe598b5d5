use Rattle.std.proofs.Common.{◌≡◌, ◌++◌, string_bytes}
use Rattle.pagemap.specs.Listing.{pages_text}
use Rattle.pagemap.proofs.listing.pages.Given as goal

abbrev pub invariant-loop-page : goal.invariant-loop-page
invariant-loop-page g l = string_bytes l.text ≡ string_bytes l.initial.text ++ pages_text (g.M.Memory.memory l.image.memory.now) l.image.bytes l.image.window l.page
