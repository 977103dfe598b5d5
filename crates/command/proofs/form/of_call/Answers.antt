use Rattle.std.proofs.Common.{codes, sym, ap, rules, arith}
use Rattle.command.specs.Forms.{form_of_call}
use Rattle.command.proofs.Spelled.{spelled}
use Rattle.command.proofs.form.of_call.Goals as goal

pub returns-in-second : goal.returns-in-second
returns-in-second c = ap form_of_call (sym (spelled c.args.name.now (codes "second") (omega arith) (search rules depth 9)))
