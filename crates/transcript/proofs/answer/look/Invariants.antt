use Rattle.std.proofs.Common.{◌≡◌, ◌++◌, drop, string_bytes}
use Rattle.transcript.specs.Answers.{bytes_text}
use Rattle.transcript.proofs.answer.look.Given as goal

abbrev pub invariant-loop-seen : goal.invariant-loop-seen
invariant-loop-seen l = string_bytes l.text ++ bytes_text (drop l.seen-index l.bytes) ≡ string_bytes l.initial.text ++ bytes_text l.bytes
