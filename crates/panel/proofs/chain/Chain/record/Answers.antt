use Rattle.std.proofs.Common.{Some, ap, ◌∙◌, arith, ◌≤◌}
use Rattle.std.proofs.lemmas.Grind.{common_steps}
use Rattle.std.proofs.lemmas.List.{get_or_read}
use Rattle.panel.specs.Links.{blank}
use Rattle.panel.specs.Shown.{table_of}
use Rattle.panel.proofs.Finding.{record_none, record_some}
use Rattle.panel.proofs.chain.Chain.record.Goals as goal

pub returns-then-not-contains : goal.returns-then-not-contains
returns-then-not-contains c = record_none c.args.self.now c.args.number (grind (arith, common_steps))

pub returns : goal.returns
returns c =
    let self = c.args.self.now in
    let used : c.args.number ≤ self.used = grind (arith, common_steps) in
    ap Some (get_or_read (table_of self) c.args.number c.index.result.now (omega (arith, self.room, used)) c.index.ensures blank)
    ∙ record_some self c.args.number (grind (arith, common_steps)) used
