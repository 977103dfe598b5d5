-- Whether a word is UTF-8. Assumes nothing.
use Rattle.std.proofs.Common.{◌≡◌, ℕ, Bool, true, false, cond, List, Ok, Err, refl, ap}
use Rattle.std.specs.Str.{IsUtf8, is_utf8}
use Rattle.std.proofs.lemmas.Str.{IsUtf8-from_is_utf8, is_utf8-from_IsUtf8}
use Rattle.command.specs.Words.{text}
use Rattle.command.specs.declared.wrong.Wrong.TheVariants.{NotText}

pub is_text : (word : List ℕ) → IsUtf8 word → text word ≡ Ok word
is_text word is = ap (λ b. cond b (Ok word) (Err NotText)) (is_utf8-from_IsUtf8 word is)

pub no_text : (word : List ℕ) → ¬ (IsUtf8 word) → text word ≡ Err NotText
no_text word is = way (is_utf8 word) refl
  where
    way : (b : Bool) → is_utf8 word ≡ b → cond b (Ok word) (Err NotText) ≡ Err NotText
    way true e = absurd (is (IsUtf8-from_is_utf8 word e))
    way false e = refl
