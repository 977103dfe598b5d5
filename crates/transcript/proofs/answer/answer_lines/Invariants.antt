use Rattle.std.proofs.Common.{◌≡◌, ◌++◌, drop, map, string_bytes}
use Rattle.answers.specs.Answers.{answer_of}
use Rattle.transcript.specs.Answers.{answers_text}
use Rattle.transcript.proofs.answer.answer_lines.Given as goal

abbrev pub invariant-loop-answer : goal.invariant-loop-answer
invariant-loop-answer l =
    string_bytes l.text ++ answers_text (map answer_of (drop l.answer-index l.answers)) ≡ string_bytes l.initial.text ++ answers_text (map answer_of l.answers)
