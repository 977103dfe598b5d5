-- What stands behind a place of a list. Assumes nothing.
use Rattle.std.proofs.Common.{◌≡◌, ℕ, zero, suc, ◌-◌, ◌<◌, ◌≤◌, List, [], ◌∷◌, map, length, take, drop, length-drop, take_all, refl, ap, ◌∙◌, arith}

-- as a slice to the end
pub rest : {X : Type 0} (xs : List X) (n : ℕ) → take (length xs - n) (drop n xs) ≡ drop n xs
rest xs n = take_all (length xs - n) (drop n xs) (omega (arith, length-drop n xs))

module _ {X Y : Type 0} (f : X → Y) where
  -- m is n, or the list's end
  behind : (xs : List X) (n m : ℕ) → m ≤ n → m ≤ length xs → (m < length xs → m ≡ n) → map f (drop m xs) ≡ drop n (map f xs)
  behind [] zero zero a b same = refl
  behind [] zero (suc m) a b same = absurd (omega arith)
  behind [] (suc n) zero a b same = refl
  behind [] (suc n) (suc m) a b same = absurd (omega arith)
  behind (x ∷ xs) zero zero a b same = refl
  behind (x ∷ xs) zero (suc m) a b same = absurd (omega arith)
  behind (x ∷ xs) (suc n) zero a b same = absurd (let z : 0 ≡ suc n = same (omega arith) in omega arith)
  behind (x ∷ xs) (suc n) (suc m) a b same = behind xs n m (omega arith) (omega arith) (λ h. let z : suc m ≡ suc n = same (omega arith) in omega arith)

  pub rest_behind : (xs : List X) (n m : ℕ) → m ≤ n → m ≤ length xs → (m < length xs → m ≡ n) → map f (take (length xs - m) (drop m xs)) ≡ drop n (map f xs)
  rest_behind xs n m a b same = ap (map f) (rest xs m) ∙ behind xs n m a b same
