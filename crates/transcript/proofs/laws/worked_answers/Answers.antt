use Rattle.std.proofs.Common.{refl}
use Rattle.std.specs.Fmt.{digits}
use Rattle.plot.specs.Lines.{run_line}
use Rattle.pagemap.specs.Listing.{held_text}
use Rattle.transcript.specs.Answers.{run_text, step_text}
use Rattle.transcript.specs.Denials.{denial_text, fault_text}
use Rattle.transcript.proofs.laws.worked_answers.Goals as goal

pub returns : goal.returns
unfolding digits denial_text fault_text held_text run_line run_text step_text
returns c = record { step = refl; denied_step = refl; run = refl; faulted_run = refl; denied_run = refl; reset = refl; look = refl; look_at_nothing = refl; denied_look = refl; denied_making = refl; denied_read = refl; alike = refl; differs = refl; differs_later = refl; opened = refl; none_opened = refl }
