-- What is printed of a number is read back. Assumes nothing.
use Rattle.std.proofs.Common.{◌≡◌, ℕ, zero, suc, ◌+◌, ◌*◌, ◌/◌, ◌%◌, ◌^◌, ◌<◌, ◌≤◌, Bool, true, false, cond, List, [], ◌∷◌, ◌++◌, length, Some, None, Option, nat_lt, refl, sym, ap, ◌∙◌, arith, decimal, zero-add}
use Rattle.std.specs.Option.{option_and_then}
use Rattle.std.proofs.lemmas.Bool.{cases_lt}
use Rattle.std.proofs.lemmas.Bool.Decides.{nat_tests}
use Rattle.std.proofs.lemmas.Fmt.{decimal_digit, decimal_nonempty, decimal_step}
use Rattle.std.proofs.Common.{⊎_elim}
use Rattle.text.specs.Hexadecimal.{hex_byte, hex_digit, hex_long, hex_word}
use Rattle.text.specs.Numbers.{below, byte_value, decimal_value, digit_value, digits_behind, long_value, word_value}
use Rattle.text.proofs.Numbers.{of_some}

digit_back : (n : ℕ) → digit_value (hex_digit n) ≡ Some (n % 16)
digit_back n = way (nat_lt (n % 16) 10) refl
  where
    way : (b : Bool) → nat_lt (n % 16) 10 ≡ b → digit_value (cond b (48 + n % 16) (55 + n % 16)) ≡ Some (n % 16)
    way true e = grind (arith, nat_tests, e)
    way false e = grind (arith, nat_tests, e)

-- one hexadecimal digit more
one_more : (m n : ℕ) (cs : List ℕ) → digits_behind 16 m (hex_digit n ∷ cs) ≡ digits_behind 16 (m * 16 + n % 16) cs
one_more m n cs =
    ap (λ o. option_and_then (λ d. digits_behind 16 (m * 16 + d) cs) (below 16 o)) (digit_back n)
    ∙ ap (option_and_then (λ d. digits_behind 16 (m * 16 + d) cs)) (fits (n % 16) (omega arith))
  where
    fits : (d : ℕ) → d < 16 → below 16 (Some d) ≡ Some d
    fits d small = grind (arith, nat_tests)

fits : (n : ℕ) → n < 2 ^ 32 → below (2 ^ 32) (Some n) ≡ Some n
fits n small = grind (arith, nat_tests)

two_more : (m n : ℕ) (cs : List ℕ) → n < 256 → digits_behind 16 m (hex_digit (n / 16) ∷ hex_digit n ∷ cs) ≡ digits_behind 16 (m * 256 + n) cs
two_more m n cs small =
    one_more m (n / 16) (hex_digit n ∷ cs)
    ∙ one_more (m * 16 + n / 16 % 16) n cs
    ∙ ap (λ k. digits_behind 16 k cs) (omega arith)

four_more : (m n : ℕ) (cs : List ℕ) → n < 65536 → digits_behind 16 m (hex_word n ++ cs) ≡ digits_behind 16 (m * 65536 + n) cs
four_more m n cs small =
    two_more m (n / 256) (hex_byte (n % 256) ++ cs) (omega arith)
    ∙ two_more (m * 256 + n / 256) (n % 256) cs (omega arith)
    ∙ ap (λ k. digits_behind 16 k cs) (omega arith)

pub byte_back : (n : ℕ) → n < 256 → byte_value (hex_byte n) ≡ Some n
byte_back n small = ap (below (2 ^ 32)) (two_more 0 n [] small ∙ ap Some (zero-add n)) ∙ fits n (omega arith)

pub word_back : (n : ℕ) → n < 65536 → word_value (hex_word n) ≡ Some n
word_back n small = ap (below (2 ^ 32)) (four_more 0 n [] small ∙ ap Some (zero-add n)) ∙ fits n (omega arith)

pub long_back : (n : ℕ) → n < 2 ^ 32 → long_value (hex_long n) ≡ Some n
long_back n small =
    ap (below (2 ^ 32)) (four_more 0 (n / 65536) (hex_word (n % 65536)) (omega arith)
    ∙ four_more (0 * 65536 + n / 65536) (n % 65536) [] (omega arith)
    ∙ ap Some (omega arith))
    ∙ fits n small

-- digits in two parts
parts : (radix m : ℕ) (cs ds : List ℕ) → digits_behind radix m (cs ++ ds) ≡ option_and_then (λ k. digits_behind radix k ds) (digits_behind radix m cs)
parts radix m [] ds = refl
parts radix m (c ∷ cs) ds = way (λ d. parts radix (m * radix + d) cs ds) (below radix (digit_value c))
  where
    way : ((d : ℕ) → digits_behind radix (m * radix + d) (cs ++ ds) ≡ option_and_then (λ k. digits_behind radix k ds) (digits_behind radix (m * radix + d) cs)) → (o : Option ℕ) → option_and_then (λ d. digits_behind radix (m * radix + d) (cs ++ ds)) o ≡ option_and_then (λ k. digits_behind radix k ds) (option_and_then (λ d. digits_behind radix (m * radix + d) cs) o)
    way further None = refl
    way further (Some d) = further d

last : (m d : ℕ) → d < 10 → digits_behind 10 m ((48 + d) ∷ []) ≡ Some (m * 10 + d)
last m d small = ap (option_and_then (λ k. Some (m * 10 + k))) digit
  where
    digit : below 10 (digit_value (48 + d)) ≡ Some d
    digit = grind (arith, nat_tests)

decimal_digits : (fuel n : ℕ) → n < fuel → n < 2 ^ 64 → digits_behind 10 0 (decimal n) ≡ Some n
decimal_digits zero n less small = absurd (omega arith)
decimal_digits (suc fuel) n less small = ⊎_elim one (more (decimal_digits fuel (n / 10))) (cases_lt n 10)
  where
    one : n < 10 → digits_behind 10 0 (decimal n) ≡ Some n
    one h = ap (digits_behind 10 0) (decimal_digit n h) ∙ last 0 n h ∙ ap Some (zero-add n)

    more : (n / 10 < fuel → n / 10 < 2 ^ 64 → digits_behind 10 0 (decimal (n / 10)) ≡ Some (n / 10)) → 10 ≤ n → digits_behind 10 0 (decimal n) ≡ Some n
    more front h =
        ap (digits_behind 10 0) (decimal_step n h small)
        ∙ parts 10 0 (decimal (n / 10)) ((48 + n % 10) ∷ [])
        ∙ ap (option_and_then (λ k. digits_behind 10 k ((48 + n % 10) ∷ []))) (front (omega arith) (omega arith))
        ∙ last (n / 10) (n % 10) (omega arith)
        ∙ ap Some (omega arith)

pub decimal_back : (n : ℕ) → n < 2 ^ 32 → decimal_value (decimal n) ≡ Some n
decimal_back n small =
    let some : 0 < length (decimal n) = decimal_nonempty n (omega arith) in
    sym (of_some 10 (decimal n) some) ∙ ap (below (2 ^ 32)) (decimal_digits (suc n) n (omega arith) (omega arith)) ∙ fits n small
