-- The entries of a plug: a list in which each names something by its key, and the last naming counts. Assumes nothing.
use Rattle.std.specs.Prelude.{ℕ, ◌+◌, Bool, false, cond, ◌||◌, List, [], ◌∷◌, Some, None, Option, ◌==◌, nat_le}
use Rattle.std.specs.List.{list_all}
use Rattle.denial.specs.Denials.{Told, numbered}

-- How many different keys are named, beside those in seen.
abbrev pub different_beside : {E : Type 0} → (E → ℕ) → (ℕ → Bool) → List E → ℕ
different_beside key seen [] = 0
different_beside key seen (e ∷ es) =
    cond (seen (key e)) (different_beside key seen es) (1 + different_beside key (λ k. (key e == k) || seen k) es)

abbrev pub different : {E : Type 0} → (E → ℕ) → List E → ℕ
different key es = different_beside key (λ _. false) es

-- The last entry that names the key k, or else what was there before.
abbrev pub latest_or : {E : Type 0} → (E → ℕ) → Option E → List E → ℕ → Option E
latest_or key before [] k = before
latest_or key before (e ∷ es) k = latest_or key (cond (key e == k) (Some e) before) es k

abbrev pub latest : {E : Type 0} → (E → ℕ) → List E → ℕ → Option E
latest key es k = latest_or key None es k

-- Why a plug with these entries is denied, if it is: 2 for an entry out of range, wherever it stands, before 3 for a 33rd
-- different one.
abbrev pub plug_denial : {E : Type 0} → (E → ℕ) → (E → Bool) → List E → Option Told
plug_denial key in_range es =
    cond (list_all in_range es) (cond (nat_le (different key es) 32) None (Some (numbered 3))) (Some (numbered 2))
