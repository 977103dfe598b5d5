use Rattle.std.proofs.Common.{◌≡◌, ◌+◌, ◌≤◌, length, Ok}
use Rattle.script.specs.Shown.{draft_of}
use Rattle.script.specs.Script.{lines_of, lines_taken, script_of}
use Rattle.script.proofs.assembled.parse.Given as goal

abbrev pub invariant-loop-rest : goal.invariant-loop-rest
invariant-loop-rest l = record {
  counted : l.line + length l.rest ≤ length l.fn.text;
  said : lines_taken l.line (Ok (draft_of l.draft)) (lines_of l.rest) ≡ script_of l.fn.text;
}

abbrev pub decreases-loop-rest : goal.decreases-loop-rest
decreases-loop-rest l = length l.rest
