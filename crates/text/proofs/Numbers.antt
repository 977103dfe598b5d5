-- Numbers as their digits are read. Assumes nothing.
use Rattle.std.proofs.Common.{◌≡◌, ℕ, suc, ◌+◌, ◌*◌, ◌^◌, ◌<◌, ◌≤◌, drop, get_or, Bool, true, false, cond, List, [], ◌∷◌, length, Some, None, Option, nat_le, nat_lt, refl, sym, ap, ◌∙◌, arith}
use Rattle.std.specs.Option.{option_and_then}
use Rattle.std.proofs.lemmas.Bool.Decides.{nat_tests}
use Rattle.std.proofs.lemmas.List.{at_drop_all, at_drop_more}
use Rattle.std.proofs.Math.Nat.{mul-le-mul_right, mul_assoc, pow-le-pow_right, pow-succ'}
use Rattle.text.specs.Numbers.{below, digit_value, digits_behind, hexadecimal_value, number_value}

-- what is below a limit is below it
within : (limit n : ℕ) (o : Option ℕ) → below limit o ≡ Some n → (n < limit) × (o ≡ Some n)
within limit n None is = absurd (cc)
within limit n (Some m) is = way (nat_lt m limit) refl is
  where
    way : (b : Bool) → nat_lt m limit ≡ b → cond b (Some m) None ≡ Some n → (n < limit) × (Some m ≡ Some n)
    way true e is = (grind (arith, nat_tests), is)
    way false e is = absurd (cc)

none : (limit n : ℕ) → limit ≤ n → below limit (Some n) ≡ None
none limit n large = grind (arith, nat_tests)

-- a number that 32 bits don't hold stays so behind any more digits
pub too_large : (radix n : ℕ) (cs : List ℕ) → 0 < radix → 2 ^ 32 ≤ n → below (2 ^ 32) (digits_behind radix n cs) ≡ None
too_large radix n [] some large = none (2 ^ 32) n large
too_large radix n (c ∷ cs) some large = way (λ k. too_large radix (n * radix + k) cs some) (below radix (digit_value c))
  where
    larger : (k : ℕ) → 2 ^ 32 ≤ n * radix + k
    larger k = grind arith

    way : ((k : ℕ) → 2 ^ 32 ≤ n * radix + k → below (2 ^ 32) (digits_behind radix (n * radix + k) cs) ≡ None) → (d : Option ℕ) → below (2 ^ 32) (option_and_then (λ k. digits_behind radix (n * radix + k) cs) d) ≡ None
    way further None = refl
    way further (Some k) = further k (larger k)

-- a word of one character or more
pub of_some : (radix : ℕ) (word : List ℕ) → 0 < length word → below (2 ^ 32) (digits_behind radix 0 word) ≡ number_value radix word
of_some radix [] some = absurd (omega arith)
of_some radix (c ∷ cs) some = refl

-- reading stops at the digit with which the number no longer fits
pub stopped : (radix n d i : ℕ) (word : List ℕ) → 0 < radix → i < length word → Some d ≡ below radix (digit_value (get_or word i 0)) → None ≡ below (2 ^ 32) (Some (n * radix + d)) → below (2 ^ 32) (digits_behind radix n (drop i word)) ≡ None
stopped radix n d i word some more digit full =
    at_drop_more (λ cs. below (2 ^ 32) (digits_behind radix n cs)) word i 0 more
    ∙ ap (λ o. below (2 ^ 32) (option_and_then (λ k. digits_behind radix (n * radix + k) (drop (i + 1) word)) o)) (sym digit)
    ∙ too_large radix (n * radix + d) (drop (i + 1) word) some (grind (arith, nat_tests, full))

-- or at the end
pub ended : (radix n i : ℕ) (word : List ℕ) → n < 2 ^ 32 → length word ≤ i → Some n ≡ below (2 ^ 32) (digits_behind radix n (drop i word))
ended radix n i word small all = sym (at_drop_all (λ cs. below (2 ^ 32) (digits_behind radix n cs)) word i all ∙ grind (arith, nat_tests))

-- hexadecimal digits behind those that spelled n
bounded : (n m : ℕ) (cs : List ℕ) → digits_behind 16 n cs ≡ Some m → m < (n + 1) * 16 ^ length cs
bounded n m [] is = let same : n ≡ m = cc in omega arith
bounded n m (c ∷ cs) is = way (λ d. bounded (n * 16 + d) m cs) (below 16 (digit_value c)) refl is
  where
    way : ((d : ℕ) → digits_behind 16 (n * 16 + d) cs ≡ Some m → m < (n * 16 + d + 1) * 16 ^ length cs) → (o : Option ℕ) → below 16 (digit_value c) ≡ o → option_and_then (λ d. digits_behind 16 (n * 16 + d) cs) o ≡ Some m → m < (n + 1) * 16 ^ suc (length cs)
    way further None e is = absurd (cc)
    way further (Some d) e is =
        let digit = within 16 d (digit_value c) e in
        let small : n * 16 + d + 1 ≤ (n + 1) * 16 = omega arith in
        let least : m < (n * 16 + d + 1) * 16 ^ length cs = further d is in
        let most : (n * 16 + d + 1) * 16 ^ length cs ≤ (n + 1) * 16 * 16 ^ length cs = mul-le-mul_right (16 ^ length cs) small in
        rw (pow-succ' 16 (length cs), ← mul_assoc (n + 1) 16 (16 ^ length cs)) (omega (arith, least, most))

-- a word of at most k hexadecimal digits spells a number below 16 ^ k
pub fits : (k m : ℕ) (word : List ℕ) → hexadecimal_value k word ≡ Some m → m < 16 ^ k
fits k m word is = way (nat_le (length word) k) refl is
  where
    some : (w : List ℕ) → number_value 16 w ≡ Some m → m < 16 ^ length w
    some [] is = absurd (cc)
    some (c ∷ cs) is = omega (arith, bounded 0 m (c ∷ cs) (within (2 ^ 32) m (digits_behind 16 0 (c ∷ cs)) is).1)

    way : (b : Bool) → nat_le (length word) k ≡ b → cond b (number_value 16 word) None ≡ Some m → m < 16 ^ k
    way true e is =
        let short : length word ≤ k = grind (arith, nat_tests) in
        omega (arith, some word is, pow-le-pow_right {n = 16} (omega arith) short)
    way false e is = absurd (cc)
