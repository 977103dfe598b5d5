use Rattle.std.proofs.Common.{[], ◌∷◌, codes}
use Rattle.pagemap.specs.Lines.{head_text}
use Rattle.pagemap.specs.Listing.{opened_text, pages_text}
use Rattle.pagemap.proofs.Appending.{five}
use Rattle.pagemap.proofs.listing.map_text.Goals as goal

pub returns : goal.returns
returns g c =
    five (head_text c.args.image.now.bytes c.args.image.now.window) (pages_text (g.M.Memory.memory c.args.image.now.memory.now) c.args.image.now.bytes c.args.image.now.window 16) (codes "opens on") (opened_text c.args.image.now.window) (10 ∷ [])
    _ _ _ _ _ _
    c.new-text.ensures.bytes c.in_ok-write.ensures.bytes c.in_ok-pages.ensures c.in_ok-write-2.ensures.bytes c.in_ok-opened.ensures c.in_ok-writeln.ensures.bytes
