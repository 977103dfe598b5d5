-- What is printed is read back: numbers by their digits, and words by the blanks between them. Assumes nothing.
use Rattle.std.specs.Prelude.{◌≡◌, ℕ, ◌^◌, ◌<◌, ◌==◌, Bool, true, ◌&&◌, ◌||◌, not, List, Some, decimal, length}
use Rattle.std.specs.List.{join_with_byte, list_all}
use Rattle.text.specs.Hexadecimal.{hex_byte, hex_long, hex_word}
use Rattle.text.specs.Numbers.{byte_value, decimal_value, long_value, word_value}
use Rattle.text.specs.Words.{is_blank, words_of}

-- What neither ends a word nor begins a comment; and a word, which has one character or more.
abbrev pub stands_in_words : ℕ → Bool
stands_in_words c = not (is_blank c || c == 35)

abbrev pub is_word : List ℕ → Bool
is_word w = not (length w == 0) && list_all stands_in_words w

pub record ReadBack : Type 0 where
  pub byte : (n : ℕ) → n < 256 → byte_value (hex_byte n) ≡ Some n
  pub word : (n : ℕ) → n < 65536 → word_value (hex_word n) ≡ Some n
  pub long : (n : ℕ) → n < 2 ^ 32 → long_value (hex_long n) ≡ Some n
  pub plain : (n : ℕ) → n < 2 ^ 32 → decimal_value (decimal n) ≡ Some n
  pub words : (ws : List (List ℕ)) → list_all is_word ws ≡ true → words_of (join_with_byte 32 ws) ≡ ws
