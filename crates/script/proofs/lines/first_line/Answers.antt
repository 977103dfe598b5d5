use Rattle.std.proofs.Common.{sym}
use Rattle.script.proofs.LineFeeds.{ended, unended}
use Rattle.script.proofs.lines.first_line.Goals as goal

pub returns-in-Some-clause-lines : goal.returns-in-Some-clause-lines
returns-in-Some-clause-lines c = ended c.args.text.now c.in-Some.end (sym c.in-Some.ensures)

pub returns-in-None-clause-lines : goal.returns-in-None-clause-lines
returns-in-None-clause-lines c = unended c.args.text.now c.requires (sym c.in-None.ensures)
