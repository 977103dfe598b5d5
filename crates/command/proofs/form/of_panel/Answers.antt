use Rattle.std.proofs.Common.{codes, sym, ap, rules, arith}
use Rattle.command.specs.Forms.{form_of_panel}
use Rattle.command.proofs.Spelled.{spelled}
use Rattle.command.proofs.form.of_panel.Goals as goal

pub returns-in-script : goal.returns-in-script
returns-in-script c = ap form_of_panel (sym (spelled c.args.name.now (codes "script") (omega arith) (search rules depth 9)))
