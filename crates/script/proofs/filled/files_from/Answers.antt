use Rattle.std.proofs.Common.{◌≡◌, ◌<◌, ◌≤◌, length, vec_items, rules}
use Rattle.script.proofs.Behind.{rest_behind}
use Rattle.script.proofs.filled.files_from.Goals as goal

pub returns : goal.returns
returns c =
    let files = c.args.files.now in
    let m = c.min.result in
    let low : m ≤ c.args.place = search rules in
    let inside : m ≤ length files = search rules in
    let same : m < length files → m ≡ c.args.place = search rules in
    rest_behind vec_items files c.args.place m low inside same
