use Rattle.std.proofs.Common.{codes, sym, ap, rules, arith}
use Rattle.command.specs.Forms.{form_of_memory}
use Rattle.command.proofs.Spelled.{spelled}
use Rattle.command.proofs.form.of_memory.Goals as goal

pub returns-in-protect : goal.returns-in-protect
returns-in-protect c = ap form_of_memory (sym (spelled c.args.name.now (codes "protect") (omega arith) (search rules depth 9)))
