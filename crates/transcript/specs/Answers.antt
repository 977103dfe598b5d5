-- The line of an answer. Assumes nothing.
use Rattle.std.specs.Prelude.{ℕ, List, [], ◌∷◌, ◌++◌, Some, None, Ok, Err, Option, codes, decimal}
use Rattle.text.specs.Hexadecimal.{hex_byte}
use Rattle.cycles.specs.Play.{Tally}
use Rattle.processor.specs.Log.{Answer, stepped, ran, was_reset, saw}
use Rattle.processor.specs.Run.{Ran}
use Rattle.processor.specs.Step.{Faulted}
use Rattle.plot.specs.Lines.{line, run_line}
use Rattle.transcript.specs.Denials.{denial_text, fault_text}

-- What a step took; both sums are decimal.
unfoldable pub step_text : Tally → List ℕ
step_text t = codes "step cycles=" ++ (decimal t.cycles ++ (codes " states=" ++ decimal t.states))

-- A run as the listing of a plot has it; if a fault stopped it, that fault stands behind.
abbrev pub with_fault : List ℕ → Option Faulted → List ℕ
with_fault text None = text
with_fault text (Some f) = text ++ (codes " " ++ fault_text f)

unfoldable pub run_text : Ran → List ℕ
run_text r = codes "run " ++ with_fault (run_line r) r.fault

-- The bytes that a look saw, each in two digits behind a blank.
abbrev pub bytes_text : List ℕ → List ℕ
bytes_text [] = []
bytes_text (b ∷ bs) = (32 ∷ hex_byte b) ++ bytes_text bs

abbrev pub answer_text : Answer → List ℕ
answer_text (stepped (Ok t)) = step_text t
answer_text (stepped (Err f)) = fault_text f
answer_text (ran (Ok r)) = run_text r
answer_text (ran (Err d)) = denial_text d
answer_text was_reset = codes "reset"
answer_text (saw (Ok bytes)) = codes "look" ++ bytes_text bytes
answer_text (saw (Err d)) = denial_text d

-- A line for each answer.
abbrev pub answers_text : List Answer → List ℕ
answers_text [] = []
answers_text (a ∷ rest) = line (answer_text a) ++ answers_text rest
