use Rattle.std.proofs.Common.{◌≡◌, ◌++◌, string_bytes}
use Rattle.opened.specs.Pages.{pages_of}
use Rattle.pagemap.specs.Listing.{held_text}
use Rattle.transcript.proofs.pages_line.opened_line.Given as goal

abbrev pub invariant-loop-page : goal.invariant-loop-page
invariant-loop-page l = string_bytes l.text ≡ string_bytes l.initial.text ++ held_text (pages_of l.pages) l.page
