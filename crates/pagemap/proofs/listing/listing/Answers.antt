use Rattle.std.proofs.Common.{◌≡◌, map, length, Ok, string_bytes, arith, rules}
use Rattle.memory.specs.Boards.{bank_memory, board_length}
use Rattle.pagemap.proofs.Asked.{fits, granted}
use Rattle.pagemap.proofs.listing.listing.Goals as goal

pub returns : goal.returns
returns c =
    let image = c.args.image.now in
    let accepted : Ok c.in_ok-size.size.bytes ≡ board_length (length image) = search rules in
    let size = fits (length image) c.in_ok-size.size.bytes accepted in
    record {
      answer = granted (map string_bytes c.args.arguments.now) image (string_bytes c.in_ok-text.text) c.in_ok-window.window (bank_memory c.new-bank.result) size.0 c.in_ok-window.ensures (c.new-bank.ensures.whole (omega (arith, size.1))) c.in_ok-text.ensures;
      same = search rules;
    }
