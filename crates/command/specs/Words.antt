-- What a word says at its place in a command. Assumes nothing.
use Rattle.std.specs.Prelude.{ℕ, ◌+◌, ◌==◌, cond, List, [], ◌∷◌, drop, position, take, Some, None, Ok, Err, Option, Result}
use Rattle.std.specs.Option.{ok_or}
use Rattle.std.specs.Str.{is_utf8}
use Rattle.text.specs.Numbers.{byte_value, decimal_value, long_value, word_value}
use Rattle.registers.specs.declared.window.Window.{Window}
use Rattle.plugs.specs.declared.entry.Page.{Page}
use Rattle.plugs.specs.declared.entry.PatchEntry.{PatchEntry}
use Rattle.command.specs.Counts.{Word}
use Rattle.command.specs.declared.wrong.Place.{Place}
use Rattle.command.specs.declared.wrong.Place.TheVariants as place
use Rattle.command.specs.declared.wrong.Wrong.{Wrong}
use Rattle.command.specs.declared.wrong.Wrong.TheVariants.{NotDecimal, NotAByte, NotAnAddress, NotALogicalAddress, NotAPatch, NotText}

-- What is made of one, two or three answers; the first that is wrong is named.
abbrev pub one : {A B : Type 0} → (A → B) → Result A Wrong → Result B Wrong
one f (Ok a) = Ok (f a)
one f (Err e) = Err e

abbrev pub two : {A B C : Type 0} → (A → B → C) → Result A Wrong → Result B Wrong → Result C Wrong
two f (Ok a) b = one (f a) b
two f (Err e) b = Err e

abbrev pub three : {A B C D : Type 0} → (A → B → C → D) → Result A Wrong → Result B Wrong → Result C Wrong → Result D Wrong
three f (Ok a) b c = two (f a) b c
three f (Err e) b c = Err e

abbrev pub decimal : Place → Word → Result ℕ Wrong
decimal place word = ok_or (decimal_value word) (NotDecimal place)

abbrev pub byte : Place → Word → Result ℕ Wrong
byte place word = ok_or (byte_value word) (NotAByte place)

-- A physical address, of 32 bits so that one beyond memory can be told; and a logical one.
abbrev pub address : Word → Result ℕ Wrong
address word = ok_or (long_value word) NotAnAddress

abbrev pub logical : Word → Result ℕ Wrong
logical word = ok_or (word_value word) NotALogicalAddress

-- A file's name, which is UTF-8.
abbrev pub text : Word → Result Word Wrong
text word = cond (is_utf8 word) (Ok word) (Err NotText)

abbrev pub window : Word → Word → Word → Result Window Wrong
window cbar cbr bbr =
    three (λ c r b. record { cbar = c; cbr = r; bbr = b }) (byte place.Cbar cbar) (byte place.Cbr cbr) (byte place.Bbr bbr)

-- The words of a list, each of one kind: bytes, pages, or patches, which are written ADDRESS=HH.
abbrev pub all_read : {A : Type 0} → (Word → Result A Wrong) → List Word → Result (List A) Wrong
all_read read [] = Ok []
all_read read (w ∷ ws) = two (λ x xs. x ∷ xs) (read w) (all_read read ws)

abbrev pub listed_byte : Word → Result ℕ Wrong
listed_byte word = byte place.Hh word

abbrev pub listed_page : Word → Result Page Wrong
listed_page word = one (λ n. record { number = n }) (byte place.Page word)

abbrev pub patch_at : Word → Option ℕ → Result PatchEntry Wrong
patch_at word (Some i) = two (λ a b. record { address = a; byte = b }) (address (take i word)) (byte place.Hh (drop (i + 1) word))
patch_at word None = Err NotAPatch

abbrev pub listed_patch : Word → Result PatchEntry Wrong
listed_patch word = patch_at word (position (λ c. c == 61) word)
