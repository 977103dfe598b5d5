use Rattle.std.proofs.Common.{◌*◌, ap, ◌∙◌, arith}
use Rattle.view.specs.Views.{shown}
use Rattle.pagemap.proofs.Filling.{unwrapped}
use Rattle.pagemap.proofs.image.Image.page.Goals as goal

pub returns : goal.returns
returns g c =
    let m = g.M.Memory.memory c.args.self.now.memory.now in
    c.fill_through.ensures
    ∙ ap (λ page. shown m.byte c.args.self.now.window (page * 4096) 4096) c.from.ensures
    ∙ unwrapped m c.args.self.now.window (c.args.page * 4096) 4096 (omega arith)
