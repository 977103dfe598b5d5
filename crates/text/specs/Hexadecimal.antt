-- Numbers in hexadecimal, as ASCII writes them. Assumes nothing.
use Rattle.std.specs.Prelude.{ℕ, ◌+◌, ◌/◌, ◌%◌, cond, List, [], ◌∷◌, ◌++◌, nat_lt}

-- The last digit of n: 0 to 9, A to F.
abbrev pub hex_digit : ℕ → ℕ
hex_digit n = cond (nat_lt (n % 16) 10) (48 + n % 16) (55 + n % 16)

-- Two digits for a byte, four for a word of 16 bits, five for a physical address, eight for a word of 32 bits.
abbrev pub hex_byte : ℕ → List ℕ
hex_byte n = hex_digit (n / 16) ∷ hex_digit n ∷ []

abbrev pub hex_word : ℕ → List ℕ
hex_word n = hex_byte (n / 256) ++ hex_byte (n % 256)

abbrev pub hex_address : ℕ → List ℕ
hex_address n = (hex_digit (n / 65536) ∷ []) ++ hex_word (n % 65536)

abbrev pub hex_long : ℕ → List ℕ
hex_long n = hex_word (n / 65536) ++ hex_word (n % 65536)
