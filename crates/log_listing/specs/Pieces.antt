-- The calls that are still to be made. Assumes nothing.
use Rattle.std.specs.Prelude.{List, replicate}
use Rattle.processor.specs.Log.{Call}
use Rattle.answers.specs.Answers.{call_of}
use Rattle.log_listing.specs.declared.pieces.Pieces.{Pieces}

abbrev pub calls_of : Pieces → List Call
calls_of p = replicate p.left (call_of p.call)
