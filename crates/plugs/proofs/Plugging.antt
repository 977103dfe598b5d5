-- A plug whose entries are in their places is the plug that was asked for. Assumes nothing.
use Rattle.std.proofs.Common.{◌≡◌, ℕ, None, Ok, Option, sym, ap, ◌∙◌}
use Rattle.denial.specs.Denials.{Told}
use Rattle.memory.specs.Memory.{Mem}
use Rattle.plugs.specs.Plugs.{plugged}

pub plugged_in : {E M : Type 0} (plug : (ℕ → Option E) → Mem) (below : M) (asked kept : ℕ → Option E) (denial : Option Told) → denial ≡ None → kept ≡ asked → Ok (plug kept) ≡ plugged denial (plug asked) below
plugged_in plug below asked kept denial none same =
    ap (λ f. Ok (plug f)) same ∙ ap (λ d. plugged d (plug asked) below) (sym none)
