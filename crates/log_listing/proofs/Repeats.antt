-- A call that is repeated, in two parts. Assumes nothing.
use Rattle.std.proofs.Common.{◌≡◌, ℕ, zero, suc, ◌+◌, ◌-◌, ◌≤◌, List, ◌∷◌, ◌++◌, map, replicate, refl, ap, ◌∙◌, arith}
use Rattle.std.proofs.lemmas.List.{replicate-append-replicate}
use Rattle.processor.specs.Log as log
use Rattle.answers.specs.declared.call.Call.{Call}
use Rattle.answers.specs.Answers.{call_of}

all_alike : (n : ℕ) (call : Call) → map call_of (replicate n call) ≡ replicate n (call_of call)
all_alike zero call = refl
all_alike (suc n) call = ap (λ (rest : List log.Call). call_of call ∷ rest) (all_alike n call)

pub parted : (count left : ℕ) (call : Call) (piece : List Call) → count ≤ left → piece ≡ replicate count call → map call_of piece ++ replicate (left - count) (call_of call) ≡ replicate left (call_of call)
parted count left call piece within is =
    let whole : count + (left - count) ≡ left = omega arith in
    ap (λ (calls : List Call). map call_of calls ++ replicate (left - count) (call_of call)) is
    ∙ (ap (λ (calls : List log.Call). calls ++ replicate (left - count) (call_of call)) (all_alike count call)
    ∙ (replicate-append-replicate count (left - count) (call_of call) ∙ ap (λ (n : ℕ). replicate n (call_of call)) whole))
