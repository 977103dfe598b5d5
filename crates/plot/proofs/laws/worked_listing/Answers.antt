use Rattle.std.proofs.Common.{refl}
use Rattle.std.specs.Fmt.{digits}
use Rattle.plot.specs.Lines.{record_line, register_line, run_line}
use Rattle.plot.proofs.laws.worked_listing.Goals as goal

pub returns : goal.returns
unfolding digits record_line register_line run_line
returns c = refl
