-- Written words are words, and say what was written. Assumes nothing.
use Rattle.std.proofs.Common.{◌≡◌, ℕ, zero, suc, ◌+◌, ◌/◌, ◌%◌, ◌^◌, ◌<◌, ◌≤◌, ◌==◌, Bool, true, false, cond, not, ◌&&◌, List, [], ◌∷◌, ◌++◌, length, map, Some, None, Ok, Err, Result, refl, ap, ◌∙◌, ap₂, arith, decimal, nat_lt, ⊎_elim, one-add}
use Rattle.std.specs.List.{join_with_byte, list_all, prefix_len}
use Rattle.std.specs.Option.{ok_or}
use Rattle.std.proofs.lemmas.Bool.{cases_lt}
use Rattle.std.proofs.lemmas.Bool.Decides.{nat_tests}
use Rattle.std.proofs.lemmas.Fmt.{decimal_digit, decimal_nonempty, decimal_step}
use Rattle.std.proofs.lemmas.List.Folds.{list_all-append}
use Rattle.text.specs.Hexadecimal.{hex_byte, hex_digit, hex_long, hex_word}
use Rattle.text.specs.Laws.{is_word, stands_in_words}
use Rattle.text.proofs.Readings.{byte_back, decimal_back, long_back, word_back}
use Rattle.text.proofs.Splitting.{reread}
use Rattle.plugs.specs.declared.entry.Page.{Page}
use Rattle.plugs.specs.declared.entry.PatchEntry.{PatchEntry}
use Rattle.command.specs.Commands.{command_of, said_in}
use Rattle.command.specs.Counts.{Word}
use Rattle.command.specs.Said.{Said, rom, ram, bytes, fill, image, protect, patch, chain, script, key, latch, second, make, step, run, reset, look, show}
use Rattle.command.specs.Words.{address, all_read, byte, listed_byte, listed_page, listed_patch, logical, one, patch_at, text, three, two, window}
use Rattle.command.specs.Words as words
use Rattle.command.specs.Written.{Writable, is_byte, is_page_byte, is_patch_long, page_word, patch_word, words_for}
use Rattle.command.specs.declared.wrong.Place.{Place}
use Rattle.command.specs.declared.wrong.Place.TheVariants as place
use Rattle.command.specs.declared.wrong.Wrong.{Wrong}
use Rattle.command.specs.declared.wrong.Wrong.TheVariants.{NotDecimal, NotAByte, NotAnAddress, NotALogicalAddress, NotText}

both : (a b : Bool) → (a && b) ≡ true → (a ≡ true) × (b ≡ true)
both true b is = (refl, is)
both false b is = absurd (cc)

and : (a b : Bool) → a ≡ true → b ≡ true → (a && b) ≡ true
and a b p q = ap₂ (λ x y. x && y) p q

below : (n limit : ℕ) → nat_lt n limit ≡ true → n < limit
below n limit is = grind (arith, nat_tests)

stands : (c : ℕ) → 36 ≤ c → stands_in_words c ≡ true
stands c some = grind (arith, nat_tests)

-- digits are 0 to 9 and A to F
digit_stands : (n : ℕ) → (stands_in_words (hex_digit n) ≡ true) × ((hex_digit n == 61) ≡ false)
digit_stands n = way (nat_lt (n % 16) 10) refl
  where
    small : (d : ℕ) → d < 10 → (stands_in_words (48 + d) ≡ true) × (((48 + d) == 61) ≡ false)
    small d h = (stands (48 + d) (omega arith), grind (arith, nat_tests))

    large : (d : ℕ) → 10 ≤ d → (stands_in_words (55 + d) ≡ true) × (((55 + d) == 61) ≡ false)
    large d h = (stands (55 + d) (omega arith), grind (arith, nat_tests))

    way : (b : Bool) → nat_lt (n % 16) 10 ≡ b → (stands_in_words (cond b (48 + n % 16) (55 + n % 16)) ≡ true) × ((cond b (48 + n % 16) (55 + n % 16) == 61) ≡ false)
    way true e = small (n % 16) (grind (arith, nat_tests, e))
    way false e = large (n % 16) (grind (arith, nat_tests, e))

abbrev stand : List ℕ → Bool
stand w = list_all stands_in_words w

byte_stands : (n : ℕ) (behind : List ℕ) → stand behind ≡ true → stand (hex_byte n ++ behind) ≡ true
byte_stands n behind is =
    and _ _ (digit_stands (n / 16)).0 (and _ _ (digit_stands n).0 is)

word_stands : (n : ℕ) (behind : List ℕ) → stand behind ≡ true → stand (hex_word n ++ behind) ≡ true
word_stands n behind is = byte_stands (n / 256) (hex_byte (n % 256) ++ behind) (byte_stands (n % 256) behind is)

long_stands : (n : ℕ) (behind : List ℕ) → stand behind ≡ true → stand (hex_long n ++ behind) ≡ true
long_stands n behind is = word_stands (n / 65536) (hex_word (n % 65536) ++ behind) (word_stands (n % 65536) behind is)

decimal_stands : (fuel n : ℕ) → n < fuel → n < 2 ^ 64 → stand (decimal n) ≡ true
decimal_stands zero n less small = absurd (omega arith)
decimal_stands (suc fuel) n less small = ⊎_elim only (more (decimal_stands fuel (n / 10))) (cases_lt n 10)
  where
    only : n < 10 → stand (decimal n) ≡ true
    only h = ap stand (decimal_digit n h) ∙ and _ _ (stands (48 + n) (omega arith)) refl

    more : (n / 10 < fuel → n / 10 < 2 ^ 64 → stand (decimal (n / 10)) ≡ true) → 10 ≤ n → stand (decimal n) ≡ true
    more front h =
        ap stand (decimal_step n h small)
        ∙ list_all-append stands_in_words (decimal (n / 10)) ((48 + n % 10) ∷ [])
        ∙ and _ _ (front (omega arith) (omega arith)) (and _ _ (stands (48 + n % 10) (omega arith)) refl)

decimal_word : (n : ℕ) → n < 2 ^ 32 → is_word (decimal n) ≡ true
decimal_word n small =
    let some : 0 < length (decimal n) = decimal_nonempty n (omega arith) in
    and _ _ (holds (length (decimal n)) some) (decimal_stands (suc n) n (omega arith) (omega arith))
  where
    holds : (k : ℕ) → 0 < k → not (k == 0) ≡ true
    holds k some = grind (arith, nat_tests)

byte_word : (n : ℕ) → is_word (hex_byte n) ≡ true
byte_word n = byte_stands n [] refl

word_word : (n : ℕ) → is_word (hex_word n) ≡ true
word_word n = word_stands n [] refl

long_word : (n : ℕ) → is_word (hex_long n) ≡ true
long_word n = long_stands n [] refl

decimal_said : (p : Place) (n : ℕ) → n < 2 ^ 32 → words.decimal p (decimal n) ≡ Ok n
decimal_said p n small = ap (λ o. ok_or o (NotDecimal p)) (decimal_back n small)

byte_said : (p : Place) (n : ℕ) → n < 256 → byte p (hex_byte n) ≡ Ok n
byte_said p n small = ap (λ o. ok_or o (NotAByte p)) (byte_back n small)

long_said : (n : ℕ) → n < 2 ^ 32 → address (hex_long n) ≡ Ok n
long_said n small = ap (λ o. ok_or o NotAnAddress) (long_back n small)

word_said : (n : ℕ) → n < 65536 → logical (hex_word n) ≡ Ok n
word_said n small = ap (λ o. ok_or o NotALogicalAddress) (word_back n small)

-- lists, word by word
module _ {A : Type 0} (read : Word → Result A Wrong) (write : A → Word) (fits : A → Bool) where
  listed_said : ((x : A) → fits x ≡ true → read (write x) ≡ Ok x) → (xs : List A) → list_all fits xs ≡ true → all_read read (map write xs) ≡ Ok xs
  listed_said back [] is = refl
  listed_said back (x ∷ xs) is =
      let now = both (fits x) (list_all fits xs) is in
      ap (λ r. two (λ y ys. y ∷ ys) r (all_read read (map write xs))) (back x now.0) ∙ ap (one (λ ys. x ∷ ys)) (listed_said back xs now.1)

listed_words : {A : Type 0} (write : A → Word) → ((x : A) → is_word (write x) ≡ true) → (xs : List A) → list_all is_word (map write xs) ≡ true
listed_words write word [] = refl
listed_words write word (x ∷ xs) = and _ _ (word x) (listed_words write word xs)

-- a patch: no digit is an equals sign, so that the first one stands behind the address
abbrev no_sign : ℕ → Bool
no_sign c = not (c == 61)

sign_behind : (ds zs : List ℕ) → list_all no_sign ds ≡ true → prefix_len no_sign (ds ++ (61 ∷ zs)) ≡ length ds
sign_behind [] zs is = refl
sign_behind (d ∷ ds) zs is =
    let now = both (no_sign d) (list_all no_sign ds) is in
    ap (λ b. cond b (1 + prefix_len no_sign (ds ++ (61 ∷ zs))) 0) now.0 ∙ ap (λ k. 1 + k) (sign_behind ds zs now.1) ∙ one-add (length ds)

digit_no_sign : (n : ℕ) → no_sign (hex_digit n) ≡ true
digit_no_sign n = ap not (digit_stands n).1

byte_no_sign : (n : ℕ) (behind : List ℕ) → list_all no_sign behind ≡ true → list_all no_sign (hex_byte n ++ behind) ≡ true
byte_no_sign n behind is = and _ _ (digit_no_sign (n / 16)) (and _ _ (digit_no_sign n) is)

word_no_sign : (n : ℕ) (behind : List ℕ) → list_all no_sign behind ≡ true → list_all no_sign (hex_word n ++ behind) ≡ true
word_no_sign n behind is = byte_no_sign (n / 256) (hex_byte (n % 256) ++ behind) (byte_no_sign (n % 256) behind is)

long_no_sign : (n : ℕ) → list_all no_sign (hex_long n) ≡ true
long_no_sign n = word_no_sign (n / 65536) (hex_word (n % 65536)) (word_no_sign (n % 65536) [] refl)

patch_said : (e : PatchEntry) → is_patch_long e ≡ true → listed_patch (patch_word e) ≡ Ok e
patch_said e is =
    let now = both (nat_lt e.address (2 ^ 32)) (nat_lt e.byte 256) is in
    let w = patch_word e in
    ap (λ k. patch_at w (cond (nat_lt k (length w)) (Some k) None)) (sign_behind (hex_long e.address) (hex_byte e.byte) (long_no_sign e.address))
    ∙ (λ i. two (λ a b. record { address = a; byte = b }) (long_said e.address (below _ _ now.0) i) (byte_said place.Hh e.byte (below _ _ now.1) i))

patch_is_word : (e : PatchEntry) → is_word (patch_word e) ≡ true
patch_is_word e = long_stands e.address (61 ∷ hex_byte e.byte) (byte_stands e.byte [] refl)

page_said : (p : Page) → is_page_byte p ≡ true → listed_page (page_word p) ≡ Ok p
page_said p is = ap (one (λ n. record { number = n })) (byte_said place.Page p.number (below _ _ is))

listed_byte_said : (n : ℕ) → is_byte n ≡ true → listed_byte (hex_byte n) ≡ Ok n
listed_byte_said n is = byte_said place.Hh n (below _ _ is)

-- words that are words, one by one
row : (w : Word) (ws : List Word) → is_word w ≡ true → list_all is_word ws ≡ true → list_all is_word (w ∷ ws) ≡ true
row w ws p q = and _ _ p q

-- a line of words that say it
line_said : (said : Said) (ws : List Word) → list_all is_word ws ≡ true → said_in ws ≡ Ok (Some said) → command_of (join_with_byte 32 ws) ≡ Ok (Some said)
line_said said ws are says = ap said_in (reread ws are) ∙ says

-- a name and one decimal number
number_words : (n : ℕ) → n < 2 ^ 32 → list_all is_word (decimal n ∷ []) ≡ true
number_words n small = row (decimal n) [] (decimal_word n small) refl

pub read_as_written : (said : Said) → Writable said → command_of (join_with_byte 32 (words_for said)) ≡ Ok (Some said)
read_as_written (rom n) h = line_said (rom n) (words_for (rom n)) (number_words n h) (ap (λ r. one Some (one rom r)) (decimal_said place.Length n h))
read_as_written (ram n) h = line_said (ram n) (words_for (ram n)) (number_words n h) (ap (λ r. one Some (one ram r)) (decimal_said place.Length n h))
read_as_written (bytes at []) h = absurd (let none : 0 < 0 = h.1 in omega arith)
read_as_written (bytes at (b ∷ bs)) h =
    line_said (bytes at (b ∷ bs)) (words_for (bytes at (b ∷ bs)))
    (row (hex_long at) (map hex_byte (b ∷ bs)) (long_word at) (listed_words hex_byte byte_word (b ∷ bs)))
    (λ i. one Some (two bytes (long_said at h.0 i) (listed_said listed_byte hex_byte is_byte listed_byte_said (b ∷ bs) h.2 i)))
read_as_written (fill at n b) h =
    line_said (fill at n b) (words_for (fill at n b))
    (row (hex_long at) (decimal n ∷ hex_byte b ∷ []) (long_word at) (row (decimal n) (hex_byte b ∷ []) (decimal_word n h.1) (row (hex_byte b) [] (byte_word b) refl)))
    (λ i. one Some (three fill (long_said at h.0 i) (decimal_said place.Length n h.1 i) (byte_said place.Hh b h.2 i)))
read_as_written (image at file) h =
    line_said (image at file) (words_for (image at file))
    (row (hex_long at) (file ∷ []) (long_word at) (row file [] h.1 refl))
    (λ i. one Some (two image (long_said at h.0 i) (cond (h.2 i) (Ok file) (Err NotText))))
read_as_written (protect []) h = absurd (let none : 0 < 0 = h.0 in omega arith)
read_as_written (protect (p ∷ ps)) h =
    line_said (protect (p ∷ ps)) (words_for (protect (p ∷ ps)))
    (listed_words page_word (λ q. byte_word q.number) (p ∷ ps))
    (ap (λ r. one Some (one protect r)) (listed_said listed_page page_word is_page_byte page_said (p ∷ ps) h.1))
read_as_written (patch []) h = absurd (let none : 0 < 0 = h.0 in omega arith)
read_as_written (patch (e ∷ es)) h =
    line_said (patch (e ∷ es)) (words_for (patch (e ∷ es)))
    (listed_words patch_word patch_is_word (e ∷ es))
    (ap (λ r. one Some (one patch r)) (listed_said listed_patch patch_word is_patch_long patch_said (e ∷ es) h.1))
read_as_written (chain n) h = line_said (chain n) (words_for (chain n)) (number_words n h) (ap (λ r. one Some (one chain r)) (decimal_said place.Records n h))
read_as_written (script b states reads) h =
    line_said (script b states reads) (words_for (script b states reads))
    (row (hex_byte b) (decimal states ∷ map hex_byte reads) (byte_word b) (row (decimal states) (map hex_byte reads) (decimal_word states h.1) (listed_words hex_byte byte_word reads)))
    (λ i. one Some (three script (byte_said place.Byte b h.0 i) (decimal_said place.States states h.1 i) (listed_said listed_byte hex_byte is_byte listed_byte_said reads h.2 i)))
read_as_written (key b) h = line_said (key b) (words_for (key b)) (row (hex_byte b) [] (byte_word b) refl) (ap (λ r. one Some (one key r)) (byte_said place.Hh b h))
read_as_written latch h = line_said latch (words_for latch) refl refl
read_as_written second h = line_said second (words_for second) refl refl
read_as_written make h = line_said make (words_for make) refl refl
read_as_written (step n) h = line_said (step n) (words_for (step n)) (number_words n h) (ap (λ r. one Some (one step r)) (decimal_said place.Times n h))
read_as_written (run budget n) h =
    line_said (run budget n) (words_for (run budget n))
    (row (decimal budget) (decimal n ∷ []) (decimal_word budget h.0) (number_words n h.1))
    (λ i. one Some (two run (decimal_said place.Budget budget h.0 i) (decimal_said place.Times n h.1 i)))
read_as_written reset h = line_said reset (words_for reset) refl refl
read_as_written (look w at n) h =
    line_said (look w at n) (words_for (look w at n))
    (row (hex_byte w.cbar) (hex_byte w.cbr ∷ hex_byte w.bbr ∷ hex_word at ∷ decimal n ∷ []) (byte_word w.cbar)
    (row (hex_byte w.cbr) (hex_byte w.bbr ∷ hex_word at ∷ decimal n ∷ []) (byte_word w.cbr)
    (row (hex_byte w.bbr) (hex_word at ∷ decimal n ∷ []) (byte_word w.bbr)
    (row (hex_word at) (decimal n ∷ []) (word_word at) (number_words n h.4)))))
    (λ i. one Some (three look
    (three (λ c r b. record { cbar = c; cbr = r; bbr = b }) (byte_said place.Cbar w.cbar h.0 i) (byte_said place.Cbr w.cbr h.1 i) (byte_said place.Bbr w.bbr h.2 i))
    (word_said at h.3 i) (decimal_said place.Length n h.4 i)))
read_as_written show h = line_said show (words_for show) refl refl
