-- A name by its letters. Assumes nothing.
use Rattle.std.proofs.Common.{◌≡◌, ℕ, suc, List, [], ◌∷◌, length, get_or, refl, arith}

-- the letters of xs from i on
abbrev pub Letters : List ℕ → ℕ → List ℕ → Type 0
Letters xs i [] = Unit {0}
Letters xs i (y ∷ ys) = (get_or xs i 0 ≡ y) × Letters xs (suc i) ys

behind : (x : ℕ) (xs ys : List ℕ) (i : ℕ) → Letters (x ∷ xs) (suc i) ys → Letters xs i ys
behind x xs [] i h = tt
behind x xs (y ∷ ys) i h = (h.0, behind x xs ys (suc i) h.1)

pub spelled : (xs ys : List ℕ) → length xs ≡ length ys → Letters xs 0 ys → xs ≡ ys
spelled [] [] same h = refl
spelled [] (y ∷ ys) same h = absurd (omega arith)
spelled (x ∷ xs) [] same h = absurd (omega arith)
spelled (x ∷ xs) (y ∷ ys) same h = λ i. h.0 i ∷ spelled xs ys (omega arith) (behind x xs ys 0 h.1) i
