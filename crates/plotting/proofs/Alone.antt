-- A log of one run, and what it came to. Assumes nothing.
use Rattle.std.proofs.Common.{◌≡◌, ℕ, ◌-◌, ◌≤◌, Bool, true, cond, List, [], ◌∷◌, ◌++◌, length, take, replicate, Ok, Err, sym, ap, ◌∙◌, ap₂, take_all}
use Rattle.memory.specs.Memory.{Mem}
use Rattle.panel.specs.Chains.{State, chain_make}
use Rattle.processor.specs.Log as log
use Rattle.processor.specs.Log.{made, after_run, line, serve}
use Rattle.processor.specs.Run.{Ran, is_budget, run}
use Rattle.processor.specs.Step.{Model}
use Rattle.denial.specs.Denials.{numbered}
use Rattle.plot.specs.Listing.{text_of_plot}
use Rattle.card_log.specs.Replays.{SoFar, reached}
use Rattle.plotting.specs.Plotting.{filled, run_for, run_text}

-- the run's answer in an answer, or another
in_answer : Ran → log.Answer → Ran
in_answer d (log.stepped r) = d
in_answer d (log.ran (Ok r)) = r
in_answer d (log.ran (Err why)) = d
in_answer d log.was_reset = d
in_answer d (log.saw r) = d

in_answers : Ran → List log.Answer → Ran
in_answers d [] = d
in_answers d (a ∷ rest) = in_answer d a

-- the text by a run's answer and the card after it
abbrev text_of : Ran → Model State → List ℕ
text_of r c = text_of_plot r c.processor.cpu c.processor.window c.panel

-- a served run, by whether its budget is one
abbrev came : ℕ → Model State → Bool → SoFar State
came states c b =
    let l = cond b (after_run (run chain_make states c)) (line (log.ran (Err (numbered 6))) c []) in
    record { answers = l.answer ∷ []; card = l.card }

pub listed : (states : ℕ) (m : Mem) (s : State) (answers : List log.Answer) (c : Model State) (r : Ran) (calls : List log.Call) → is_budget states ≡ true → calls ≡ log.running states ∷ [] → record { answers = answers; card = c } ≡ reached chain_make calls (made m s) → answers ≡ log.ran (Ok r) ∷ [] → text_of r c ≡ run_text (run_for states (made m s))
unfolding run_for in_answer in_answers
listed states m s answers c r calls budget one all alone =
    let e : record { answers = answers; card = c } ≡ came states (made m s) true =
    all ∙ (ap (λ (cs : List log.Call). reached chain_make cs (made m s)) one ∙ ap (came states (made m s)) budget) in
    let answer : r ≡ (run chain_make states (made m s)).answer =
    ap (in_answers r) (sym alone ∙ ap (λ (f : SoFar State). f.answers) e) in
    let card : c ≡ (run chain_make states (made m s)).card = ap (λ (f : SoFar State). f.card) e in
    ap₂ text_of answer card

-- an image, then zeros
pub filling : (image bytes all : List ℕ) (n : ℕ) → length image ≤ 65536 → bytes ≡ image → n ≡ length image → all ≡ take 65536 bytes ++ replicate (65536 - n) 0 → all ≡ filled image
filling image bytes all n short same size made =
    made ∙ ap₂ (λ (xs : List ℕ) (k : ℕ). xs ++ replicate (65536 - k) 0) (ap (λ (xs : List ℕ). take 65536 xs) same ∙ take_all 65536 image short) size
