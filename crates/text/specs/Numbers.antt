-- Numbers as a word spells them. Assumes nothing.
use Rattle.std.specs.Prelude.{ℕ, ◌+◌, ◌-◌, ◌*◌, ◌^◌, cond, ◌&&◌, List, [], ◌∷◌, length, Some, None, Option, nat_le, nat_lt}
use Rattle.std.specs.Option.{option_and_then}

-- What a character stands for as a digit; letters of either case.
abbrev pub digit_value : ℕ → Option ℕ
digit_value c =
    cond (nat_le 48 c && nat_le c 57) (Some (c - 48))
    (cond (nat_le 65 c && nat_le c 70) (Some (c - 55))
    (cond (nat_le 97 c && nat_le c 102) (Some (c - 87)) None))

-- A number, if it is below a limit.
abbrev pub below : ℕ → Option ℕ → Option ℕ
below limit None = None
below limit (Some n) = cond (nat_lt n limit) (Some n) None

-- The number that digits spell behind those that spelled n.
abbrev pub digits_behind : ℕ → ℕ → List ℕ → Option ℕ
digits_behind radix n [] = Some n
digits_behind radix n (c ∷ cs) = option_and_then (λ d. digits_behind radix (n * radix + d) cs) (below radix (digit_value c))

-- The number of 32 bits that a word spells: one digit or more, and no other character.
abbrev pub number_value : ℕ → List ℕ → Option ℕ
number_value radix [] = None
number_value radix (c ∷ cs) = below (2 ^ 32) (digits_behind radix 0 (c ∷ cs))

abbrev pub decimal_value : List ℕ → Option ℕ
decimal_value word = number_value 10 word

-- In hexadecimal a word has at most so many digits.
abbrev pub hexadecimal_value : ℕ → List ℕ → Option ℕ
hexadecimal_value most word = cond (nat_le (length word) most) (number_value 16 word) None

-- One or two digits for a byte, up to four for a word of 16 bits, up to eight for one of 32 bits.
abbrev pub byte_value : List ℕ → Option ℕ
byte_value word = hexadecimal_value 2 word

abbrev pub word_value : List ℕ → Option ℕ
word_value word = hexadecimal_value 4 word

abbrev pub long_value : List ℕ → Option ℕ
long_value word = hexadecimal_value 8 word
