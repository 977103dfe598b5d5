-- What std writes of a number with `{:02X}`, `{:04X}`, `{:05X}`, `{:08X}` and `{:>4}` is the text of the definitions. Assumes nothing.
use Rattle.std.proofs.Common.{◌≡◌, ℕ, zero, suc, ◌+◌, ◌-◌, ◌/◌, ◌%◌, ◌^◌, ◌<◌, ◌≤◌, Bool, true, false, cond, List, [], ◌∷◌, ◌++◌, length, replicate, refl, sym, ap, ◌∙◌, append-nil, arith, decimal, ◌==◌, nat_lt, length-append, ⊎_elim, Some}
use Rattle.std.specs.Fmt.{char_count, digits, digits_onto, digits_output, format_spec, padded_integral, radix_prefix, shown_prefix, styled_digits_output}
use Rattle.std.specs.Option.{option_map}
use Rattle.std.proofs.lemmas.Bool.{cases_lt, eqb-true, eqb-false}
use Rattle.std.proofs.lemmas.Fmt.{hex_one_digit, decimal_digit, decimal_nonempty, decimal_step}
use Rattle.std.specs.List.{repeat}
use lib.Utf8.{encode}
use Rattle.text.specs.Hexadecimal.{hex_address, hex_byte, hex_digit, hex_long, hex_word}
use Rattle.text.specs.Columns.{blanks, right_4}

-- the last k digits of n, before what stands behind them
last_digits : ℕ → ℕ → List ℕ → List ℕ
last_digits zero n behind = behind
last_digits (suc k) n behind = last_digits k (n / 16) (hex_digit n ∷ behind)

-- n has at most k digits
Fits : ℕ → ℕ → Type 0
Fits zero n = n ≡ 0
Fits (suc k) n = Fits k (n / 16)

zeros_on : (k : ℕ) (behind : List ℕ) → replicate (suc k) 48 ++ behind ≡ replicate k 48 ++ (48 ∷ behind)
zeros_on zero behind = refl
zeros_on (suc k) behind = ap (λ l. 48 ∷ l) (zeros_on k behind)

zeros : (k : ℕ) (behind : List ℕ) → replicate k 48 ++ behind ≡ last_digits k 0 behind
unfolding last_digits
zeros zero behind = refl
zeros (suc k) behind = zeros_on k behind ∙ zeros k (48 ∷ behind)

some_digits : (k n : ℕ) → Fits k n → 1 ≤ n → 0 < k
unfolding Fits
some_digits zero n fits some = absurd (omega (arith, fits))
some_digits (suc k) n fits some = omega arith

onto : (k fuel n : ℕ) (behind : List ℕ) → 0 < k → k ≤ fuel → Fits k n → replicate (k + length behind - length (digits_onto fuel 16 true n behind)) 48 ++ digits_onto fuel 16 true n behind ≡ last_digits k n behind
unfolding last_digits Fits
onto zero fuel n behind some room fits = absurd (omega arith)
onto (suc k) zero n behind some room fits = absurd (omega arith)
onto (suc k) (suc fuel) n behind some room fits = way (n / 16 == 0) refl (λ more. onto k fuel (n / 16) (hex_digit n ∷ behind) more (omega arith) fits)
  where
    padded : List ℕ → List ℕ
    padded ds = replicate (suc k + length behind - length ds) 48 ++ ds

    further : List ℕ
    further = digits_onto fuel 16 true (n / 16) (hex_digit n ∷ behind)

    way : (b : Bool) → (n / 16 == 0) ≡ b → (0 < k → replicate (k + length (hex_digit n ∷ behind) - length further) 48 ++ further ≡ last_digits k (n / 16) (hex_digit n ∷ behind)) → padded (cond b (hex_digit n ∷ behind) further) ≡ last_digits k (n / 16) (hex_digit n ∷ behind)
    way true e on =
        let none : n / 16 ≡ 0 = eqb-true _ _ e in
        let left : suc k + length behind - length (hex_digit n ∷ behind) ≡ k = omega arith in
        ap (λ j. replicate j 48 ++ (hex_digit n ∷ behind)) left ∙ zeros k (hex_digit n ∷ behind) ∙ ap (λ m. last_digits k m (hex_digit n ∷ behind)) (sym none)
    way false e on =
        let some : n / 16 ≡ 0 → ⊥ = eqb-false _ _ e in
        let left : suc k + length behind - length further ≡ k + length (hex_digit n ∷ behind) - length further = omega arith in
        ap (λ j. replicate j 48 ++ further) left ∙ on (some_digits k (n / 16) fits (omega arith))

-- zeros before a number that is short of the width
padding : (k : ℕ) (ds : List ℕ) → padded_integral (format_spec 32 0 4 k (2 ^ 64 - 1)) false [] ds ≡ replicate (k - length ds) 48 ++ ds
unfolding padded_integral char_count
padding k ds = simp (append-nil) (ap (λ j. replicate j 48 ++ ds) (omega arith))

spelled : (n : ℕ) → digits 16 true n ≡ digits_onto 64 16 true n []
unfolding digits
spelled n = refl

-- `{n:0kX}` writes the last k digits of a number that has no more
written : (k n : ℕ) → 0 < k → k ≤ 64 → Fits k n → padded_integral (format_spec 32 0 4 k (2 ^ 64 - 1)) false [] (digits 16 true n) ≡ last_digits k n []
written k n some room fits =
    let ds = digits_onto 64 16 true n [] in
    let none : k - length ds ≡ k + length {A = ℕ} [] - length ds = omega arith in
    padding k (digits 16 true n) ∙ ap (λ l. replicate (k - length l) 48 ++ l) (spelled n) ∙ ap (λ j. replicate j 48 ++ ds) none ∙ onto k 64 n [] some room fits

same_digit : (a b : ℕ) → a % 16 ≡ b % 16 → hex_digit a ≡ hex_digit b
same_digit a b same = ap (λ d. cond (nat_lt d 10) (48 + d) (55 + d)) same

same_four : (a b c d e f g h : ℕ) → a % 16 ≡ e % 16 → b % 16 ≡ f % 16 → c % 16 ≡ g % 16 → d % 16 ≡ h % 16 → {behind : List ℕ} → hex_digit a ∷ hex_digit b ∷ hex_digit c ∷ hex_digit d ∷ behind ≡ hex_digit e ∷ hex_digit f ∷ hex_digit g ∷ hex_digit h ∷ behind
same_four a b c d e f g h p q r s {behind} i = same_digit a e p i ∷ same_digit b f q i ∷ same_digit c g r i ∷ same_digit d h s i ∷ behind

-- one digit
pub digit_written : (n : ℕ) → digits 16 true (n % 16) ≡ hex_digit n ∷ []
digit_written n = hex_one_digit true (n % 16) (omega arith)

pub byte_written : (n : ℕ) → n < 256 → padded_integral (format_spec 32 0 4 2 (2 ^ 64 - 1)) false [] (digits 16 true n) ≡ hex_byte n
unfolding last_digits Fits
byte_written n small = written 2 n (omega arith) (omega arith) (omega arith)

-- two bytes are four digits
word_digits : (n : ℕ) (behind : List ℕ) → last_digits 4 n behind ≡ hex_word n ++ behind
unfolding last_digits
word_digits n behind = same_four (n / 16 / 16 / 16) (n / 16 / 16) (n / 16) n (n / 256 / 16) (n / 256) (n % 256 / 16) (n % 256) (omega arith) (omega arith) (omega arith) (omega arith)

pub word_written : (n : ℕ) → n < 65536 → padded_integral (format_spec 32 0 4 4 (2 ^ 64 - 1)) false [] (digits 16 true n) ≡ hex_word n
unfolding Fits
word_written n small = written 4 n (omega arith) (omega arith) (omega arith) ∙ word_digits n [] ∙ append-nil (hex_word n)

-- and five are a digit and a word, as eight are two words
pub address_written : (n : ℕ) → n < 1048576 → padded_integral (format_spec 32 0 4 5 (2 ^ 64 - 1)) false [] (digits 16 true n) ≡ hex_address n
unfolding Fits last_digits
address_written n small =
    written 5 n (omega arith) (omega arith) (omega arith)
    ∙ (λ i. same_digit (n / 16 / 16 / 16 / 16) (n / 65536) (omega arith) i ∷ same_four (n / 16 / 16 / 16) (n / 16 / 16) (n / 16) n (n % 65536 / 256 / 16) (n % 65536 / 256) (n % 65536 % 256 / 16) (n % 65536 % 256) (omega arith) (omega arith) (omega arith) (omega arith) {behind = []} i)

pub long_written : (n : ℕ) → n < 2 ^ 32 → padded_integral (format_spec 32 0 4 8 (2 ^ 64 - 1)) false [] (digits 16 true n) ≡ hex_long n
unfolding Fits last_digits
long_written n small =
    written 8 n (omega arith) (omega arith) (omega arith)
    ∙ same_four (n / 16 / 16 / 16 / 16 / 16 / 16 / 16) (n / 16 / 16 / 16 / 16 / 16 / 16) (n / 16 / 16 / 16 / 16 / 16) (n / 16 / 16 / 16 / 16) (n / 65536 / 256 / 16) (n / 65536 / 256) (n / 65536 % 256 / 16) (n / 65536 % 256) (omega arith) (omega arith) (omega arith) (omega arith)
    ∙ (λ i. hex_word (n / 65536) ++ same_four (n / 16 / 16 / 16) (n / 16 / 16) (n / 16) n (n % 65536 / 256 / 16) (n % 65536 / 256) (n % 65536 % 256 / 16) (n % 65536 % 256) (omega arith) (omega arith) (omega arith) (omega arith) {behind = []} i)

no_blanks : (ds : List ℕ) (p q : ℕ) → p ≡ 0 → q ≡ 0 → (((repeat p (32 ∷ []) ++ []) ++ []) ++ []) ++ (ds ++ repeat q (32 ∷ [])) ≡ ds
no_blanks ds p q e f = (λ i. (((repeat (e i) (32 ∷ []) ++ []) ++ []) ++ []) ++ (ds ++ repeat (f i) (32 ∷ []))) ∙ append-nil ds

-- blanks before a number that is short of four columns
standing : (ds : List ℕ) → padded_integral (format_spec 32 3 0 4 (2 ^ 64 - 1)) false [] ds ≡ replicate (4 - length ds) 32 ++ ds
unfolding padded_integral char_count encode
standing [] = refl
standing (a ∷ []) = refl
standing (a ∷ b ∷ []) = refl
standing (a ∷ b ∷ c ∷ []) = refl
standing (a ∷ b ∷ c ∷ d ∷ more) =
    let ds = a ∷ b ∷ c ∷ d ∷ more in
    let p = 4 - length ds - 0 - 0 in
    let none : 0 ≡ 4 - length ds = omega arith in
    no_blanks ds p (p - p) (omega arith) (omega arith) ∙ ap (λ j. replicate j 32 ++ ds) none

one_column : (n : ℕ) → n < 10 → length (decimal n) ≡ 1
one_column n small = ap length (decimal_digit n small)

more_columns : (n k : ℕ) → 10 ≤ n → n < 2 ^ 64 → length (decimal (n / 10)) ≡ k → length (decimal n) ≡ k + 1
more_columns n k some small before = ap length (decimal_step n some small) ∙ length-append (decimal (n / 10)) ((48 + n % 10) ∷ []) ∙ ap (λ j. j + 1) before

columns : (n : ℕ) → n < 2 ^ 64 → replicate (4 - length (decimal n)) 32 ≡ blanks n
columns n small = ⊎_elim one (λ a. ⊎_elim (two a) (λ b. ⊎_elim (three b) four (cases_lt n 1000)) (cases_lt n 100)) (cases_lt n 10)
  where
    one : n < 10 → replicate (4 - length (decimal n)) 32 ≡ blanks n
    one h = let e = one_column n h in grind arith

    two : 10 ≤ n → n < 100 → replicate (4 - length (decimal n)) 32 ≡ blanks n
    two a h = let e = more_columns n 1 a small (one_column (n / 10) (omega arith)) in grind arith

    three : 100 ≤ n → n < 1000 → replicate (4 - length (decimal n)) 32 ≡ blanks n
    three a h = let e = more_columns n 2 (omega arith) small (more_columns (n / 10) 1 (omega arith) (omega arith) (one_column (n / 10 / 10) (omega arith))) in grind arith

    four : 1000 ≤ n → replicate (4 - length (decimal n)) 32 ≡ blanks n
    four a =
        let m = n / 10 / 10 / 10 in
        let some : 0 < length (decimal m) = decimal_nonempty m (omega arith) in
        let e : length (decimal n) ≡ length (decimal m) + 1 + 1 + 1 = more_columns n _ (omega arith) small (more_columns (n / 10) _ (omega arith) (omega arith) (more_columns (n / 10 / 10) _ (omega arith) (omega arith) refl)) in
        let none : 4 - length (decimal n) ≡ 0 = omega arith in
        grind (arith, none)

pub right_written : (n : ℕ) → n < 2 ^ 64 → padded_integral (format_spec 32 3 0 4 (2 ^ 64 - 1)) false [] (decimal n) ≡ right_4 n
right_written n small = standing (decimal n) ∙ ap (λ l. l ++ decimal n) (columns n small)

-- all of these, for a function that prints such numbers
pub ruleset printed = (digit_written, byte_written, word_written, address_written, long_written, right_written)

-- a hole with options, by the number that it holds
hole : (d : _) (s t : _) (n : ℕ) (text : List ℕ) → digits_output d ≡ Some (digits 16 true n) → s ≡ t → ((prefix : List ℕ) → shown_prefix t prefix ≡ []) → padded_integral t false [] (digits 16 true n) ≡ text → styled_digits_output d s ≡ Some text
hole d s t n text number spec bare is =
    (λ i. option_map (padded_integral (spec i) false (shown_prefix (spec i) (radix_prefix d.base))) (number i))
    ∙ ap (λ prefix. Some (padded_integral t false prefix (digits 16 true n))) (bare (radix_prefix d.base))
    ∙ ap Some is

pub byte_hole : (d : _) (s : _) (n : ℕ) → digits_output d ≡ Some (digits 16 true n) → s ≡ format_spec 32 0 4 2 (2 ^ 64 - 1) → n < 256 → styled_digits_output d s ≡ Some (hex_byte n)
byte_hole d s n number spec small = hole d s (format_spec 32 0 4 2 (2 ^ 64 - 1)) n (hex_byte n) number spec (λ _. refl) (byte_written n small)

pub address_hole : (d : _) (s : _) (n : ℕ) → digits_output d ≡ Some (digits 16 true n) → s ≡ format_spec 32 0 4 5 (2 ^ 64 - 1) → n < 1048576 → styled_digits_output d s ≡ Some (hex_address n)
address_hole d s n number spec small = hole d s (format_spec 32 0 4 5 (2 ^ 64 - 1)) n (hex_address n) number spec (λ _. refl) (address_written n small)

pub long_hole : (d : _) (s : _) (n : ℕ) → digits_output d ≡ Some (digits 16 true n) → s ≡ format_spec 32 0 4 8 (2 ^ 64 - 1) → n < 2 ^ 32 → styled_digits_output d s ≡ Some (hex_long n)
long_hole d s n number spec small = hole d s (format_spec 32 0 4 8 (2 ^ 64 - 1)) n (hex_long n) number spec (λ _. refl) (long_written n small)
