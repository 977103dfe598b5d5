use Rattle.std.proofs.Common.{◌≡◌, ◌<◌, length, get_or, vec_items, ◌∙◌, rules}
use Rattle.script.proofs.OneByOne.{file_there}
use Rattle.script.proofs.laying.file_at.Goals as goal

pub returns-in-Some : goal.returns-in-Some
returns-in-Some c =
    let files = c.args.files.now in
    let inside : c.args.index < length files = search rules in
    let at : c.in-Some.file.now ≡ get_or files c.args.index c.in-Some.file.now = search rules in
    c.as_slice.ensures.value ∙ file_there vec_items files c.args.index c.in-Some.file.now inside at
