-- Puts laid one by one, each with the file at its place. Assumes nothing.
use Rattle.std.proofs.Common.{◌≡◌, ℕ, zero, suc, ◌+◌, ◌<◌, ◌≤◌, List, [], ◌∷◌, map, length, get_or, drop, add-one, Ok, Result, refl, sym, ap, ap₂, ◌∙◌, arith}
use Rattle.script.specs.declared.wrong.BadLine.{BadLine}
use Rattle.script.specs.Puts.{Put}
use Rattle.script.specs.Laid.{all_laid, first_file, laid, other_files}

module _ {X Y : Type 0} (f : X → Y) where
  next : (xs : List X) (i : ℕ) (x : X) → i < length xs → x ≡ get_or xs i x → drop i (map f xs) ≡ f x ∷ drop (suc i) (map f xs)
  next [] i x h e = absurd (omega arith)
  next (y ∷ ys) zero x h e = ap (λ z. f z ∷ map f ys) (sym e)
  next (y ∷ ys) (suc i) x h e = next ys i x (omega arith) e

  pub past_end : (xs : List X) (i : ℕ) → length xs ≤ i → drop i (map f xs) ≡ []
  past_end [] zero h = refl
  past_end [] (suc i) h = refl
  past_end (y ∷ ys) zero h = absurd (omega arith)
  past_end (y ∷ ys) (suc i) h = past_end ys i (omega arith)

pub file_there : {X : Type 0} (f : X → List ℕ) (xs : List X) (i : ℕ) (x : X) → i < length xs → x ≡ get_or xs i x → f x ≡ first_file (drop i (map f xs))
file_there f xs i x h e = ap first_file (sym (next f xs i x h e))

others : (files : List (List ℕ)) (i : ℕ) → other_files (drop i files) ≡ drop (suc i) files
others [] zero = refl
others [] (suc i) = refl
others (file ∷ files) zero = refl
others (file ∷ files) (suc i) = others files i

pub one_laid : {X : Type 0} (f : X → Put) (puts : List X) (files : List (List ℕ)) (i : ℕ) (p : X) (file board : List ℕ) (answer : Result (List ℕ) BadLine) → i < length puts → p ≡ get_or puts i p → file ≡ first_file (drop i files) → all_laid (Ok board) (drop i (map f puts)) (drop i files) ≡ answer → all_laid (laid (f p) file board) (drop (i + 1) (map f puts)) (drop (i + 1) files) ≡ answer
one_laid f puts files i p file board answer h here own so_far =
    rw add-one
    (ap₂ (λ (bs : List ℕ) (others : List (List ℕ)). all_laid (laid (f p) bs board) (drop (suc i) (map f puts)) others) own (sym (others files i))
    ∙ ap (λ (ps : List Put). all_laid (Ok board) ps (drop i files)) (sym (next f puts i p h here))
    ∙ so_far)
