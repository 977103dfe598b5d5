use Rattle.transcript.specs.Panels.{script_text}
use Rattle.transcript.proofs.shown.ScriptLineDisplay.fmt.Goals as goal

pub returns-clause-writes : goal.returns-clause-writes
unfolding script_text
returns-clause-writes g c =
    simp (c.place-read.ensures, c.length-length.ensures, c.told-told.ensures, c.acknowledged.ensures, c.last_write.ensures) at c.write.ensures.writes
