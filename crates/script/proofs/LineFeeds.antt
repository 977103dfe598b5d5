-- The first line of a text, by where its line feed stands. Assumes nothing.
use Rattle.std.proofs.Common.{◌≡◌, ℕ, zero, suc, ◌+◌, ◌-◌, ◌<◌, ◌≤◌, Bool, true, false, cond, nat_eq, nat_lt, List, [], ◌∷◌, length, get_or, take, drop, add-one, Some, None, position, refl, ap, ◌∙◌, arith}
use Rattle.std.specs.List.{position_or_len}
use Rattle.std.proofs.lemmas.List.Quantifiers.{position-Some}
use Rattle.std.proofs.lemmas.List.Sums.{fails_before_first}
use Rattle.std.proofs.lemmas.Bool.Decides.{nat_tests}
use Rattle.script.proofs.Behind.{rest}
use Rattle.script.specs.Script.{first_longer, lines_of}

abbrev feed : ℕ → Bool
feed c = nat_eq c 10

-- the lines, by whether the first character is a line feed
abbrev begun : ℕ → List ℕ → Bool → List (List ℕ)
begun c cs b = cond b ([] ∷ lines_of cs) (first_longer c (lines_of cs))

cut : (text : List ℕ) (n : ℕ) → n < length text → feed (get_or text n 0) ≡ true → ((k : ℕ) → k < n → feed (get_or text k 0) ≡ false) → lines_of text ≡ take n text ∷ lines_of (drop (suc n) text)
cut [] n h here before = absurd (omega arith)
cut (c ∷ cs) zero h here before = ap (begun c cs) here
cut (c ∷ cs) (suc n) h here before =
    ap (begun c cs) (before 0 (omega arith))
    ∙ ap (first_longer c) (cut cs n (omega arith) here (λ k l. before (suc k) (omega arith)))

whole : (text : List ℕ) → 0 < length text → ((k : ℕ) → k < length text → feed (get_or text k 0) ≡ false) → lines_of text ≡ text ∷ []
whole [] h none = absurd (omega arith)
whole (c ∷ []) h none = ap (begun c []) (none 0 (omega arith))
whole (c ∷ d ∷ cs) h none =
    ap (begun c (d ∷ cs)) (none 0 (omega arith))
    ∙ ap (first_longer c) (whole (d ∷ cs) (omega arith) (λ k l. none (suc k) (omega arith)))

pub ended : (text : List ℕ) (n : ℕ) → position feed text ≡ Some n → lines_of text ≡ take n text ∷ lines_of (take (length text - (n + 1)) (drop (n + 1) text))
ended text n found =
    let at = position-Some feed text n 0 found in
    rw (rest text (n + 1)) (rw add-one (cut text n at.0 at.1 at.2))

past : (a b : ℕ) (t : Bool) → nat_lt a b ≡ t → cond t (Some a) None ≡ None → b ≤ a
past a b true e h = cc
past a b false e h = grind (arith, nat_tests, e)

pub unended : (text : List ℕ) → 0 < length text → position feed text ≡ None → lines_of text ≡ text ∷ []
unended text h none =
    let all : length text ≤ position_or_len feed text = past (position_or_len feed text) (length text) (nat_lt (position_or_len feed text) (length text)) refl none in
    whole text h (λ k l. fails_before_first feed text k 0 (omega arith))
