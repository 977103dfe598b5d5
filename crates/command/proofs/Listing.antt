-- A list that is read word by word. Assumes nothing.
use Rattle.std.proofs.Common.{◌≡◌, ℕ, ◌+◌, ◌<◌, ◌≤◌, List, [], ◌∷◌, ◌++◌, length, drop, get_or, map, Ok, Err, Result, refl, sym, ap, ◌∙◌, append_assoc, append-nil}
use Rattle.std.specs.Borrow.{Bor}
use Rattle.std.proofs.lemmas.List.{at_drop_all, at_drop_more}
use Rattle.command.specs.Counts.{Word}
use Rattle.command.specs.Words.{one, two, all_read}
use Rattle.command.specs.declared.wrong.Wrong.{Wrong}

-- what is read behind what was read
abbrev pub behind : {A : Type 0} → List A → Result (List A) Wrong → Result (List A) Wrong
behind xs r = one (λ ys. xs ++ ys) r

pub begun : {A : Type 0} (r : Result (List A) Wrong) → behind [] r ≡ r
begun (Ok ys) = refl
begun (Err e) = refl

one_more : {A : Type 0} (xs : List A) (x : A) (r : Result (List A) Wrong) → behind xs (two (λ y ys. y ∷ ys) (Ok x) r) ≡ behind (xs ++ x ∷ []) r
one_more xs x (Ok ys) = ap Ok (sym (append_assoc xs (x ∷ []) ys))
one_more xs x (Err e) = refl

-- what the words from the i-th on say
abbrev pub left : {A : Type 0} → (Word → Result A Wrong) → List (Bor Word) → ℕ → Result (List A) Wrong
left read words i = all_read read (map (λ w. w.now) (drop i words))

module _ {A : Type 0} (read : Word → Result A Wrong) (words : List (Bor Word)) (xs : List A) (i : ℕ) where
  pub ended : length words ≤ i → behind xs (left read words i) ≡ Ok xs
  ended all = at_drop_all (λ ws. behind xs (all_read read (map (λ w. w.now) ws))) words i all ∙ ap Ok (append-nil xs)

  first : (r : Result A Wrong) (d : Bor Word) → i < length words → r ≡ read (get_or words i d).now → behind xs (left read words i) ≡ behind xs (two (λ y ys. y ∷ ys) r (left read words (i + 1)))
  first r d some is =
      at_drop_more (λ ws. behind xs (all_read read (map (λ w. w.now) ws))) words i d some
      ∙ ap (λ s. behind xs (two (λ y ys. y ∷ ys) s (left read words (i + 1)))) (sym is)

  pub more : (x : A) (d : Bor Word) → i < length words → Ok x ≡ read (get_or words i d).now → behind xs (left read words i) ≡ behind (xs ++ x ∷ []) (left read words (i + 1))
  more x d some is = first (Ok x) d some is ∙ one_more xs x (left read words (i + 1))

  pub stopped : (e : Wrong) (d : Bor Word) → i < length words → Err e ≡ read (get_or words i d).now → behind xs (left read words i) ≡ Err e
  stopped e d some is = first (Err e) d some is
