-- How a command is written: each that can be is read back. Assumes nothing.
use Rattle.std.specs.Prelude.{◌≡◌, ℕ, ◌^◌, ◌<◌, true, ◌&&◌, Bool, List, [], ◌∷◌, ◌++◌, Some, Ok, codes, decimal, length, map, nat_lt}
use Rattle.std.specs.List.{join_with_byte, list_all}
use Rattle.std.specs.Str.{is_utf8}
use Rattle.text.specs.Hexadecimal.{hex_byte, hex_long, hex_word}
use Rattle.text.specs.Laws.{is_word}
use Rattle.plugs.specs.declared.entry.Page.{Page}
use Rattle.plugs.specs.declared.entry.PatchEntry.{PatchEntry}
use Rattle.command.specs.Commands.{command_of}
use Rattle.command.specs.Counts.{Word}
use Rattle.command.specs.Said.{Said, rom, ram, bytes, fill, image, protect, patch, chain, script, key, latch, second, make, step, run, reset, look, show}

abbrev pub page_word : Page → Word
page_word p = hex_byte p.number

abbrev pub patch_word : PatchEntry → Word
patch_word e = hex_long e.address ++ (61 ∷ hex_byte e.byte)

abbrev pub words_for : Said → List Word
words_for (rom n) = codes "rom" ∷ decimal n ∷ []
words_for (ram n) = codes "ram" ∷ decimal n ∷ []
words_for (bytes at bs) = codes "bytes" ∷ hex_long at ∷ map hex_byte bs
words_for (fill at n b) = codes "fill" ∷ hex_long at ∷ decimal n ∷ hex_byte b ∷ []
words_for (image at file) = codes "image" ∷ hex_long at ∷ file ∷ []
words_for (protect pages) = codes "protect" ∷ map page_word pages
words_for (patch entries) = codes "patch" ∷ map patch_word entries
words_for (chain n) = codes "chain" ∷ decimal n ∷ []
words_for (script b states reads) = codes "script" ∷ hex_byte b ∷ decimal states ∷ map hex_byte reads
words_for (key b) = codes "key" ∷ hex_byte b ∷ []
words_for latch = codes "latch" ∷ []
words_for second = codes "second" ∷ []
words_for make = codes "make" ∷ []
words_for (step times) = codes "step" ∷ decimal times ∷ []
words_for (run budget times) = codes "run" ∷ decimal budget ∷ decimal times ∷ []
words_for reset = codes "reset" ∷ []
words_for (look w at n) = codes "look" ∷ hex_byte w.cbar ∷ hex_byte w.cbr ∷ hex_byte w.bbr ∷ hex_word at ∷ decimal n ∷ []
words_for show = codes "show" ∷ []

-- Its numbers are as wide as the code's, its lists hold something, and a file's name is one word of UTF-8.
abbrev pub is_byte : ℕ → Bool
is_byte n = nat_lt n 256

abbrev pub is_page_byte : Page → Bool
is_page_byte p = nat_lt p.number 256

abbrev pub is_patch_long : PatchEntry → Bool
is_patch_long e = nat_lt e.address (2 ^ 32) && nat_lt e.byte 256

abbrev pub Writable : Said → Type 0
Writable (rom n) = n < 2 ^ 32
Writable (ram n) = n < 2 ^ 32
Writable (bytes at bs) = (at < 2 ^ 32) × (0 < length bs) × (list_all is_byte bs ≡ true)
Writable (fill at n b) = (at < 2 ^ 32) × (n < 2 ^ 32) × (b < 256)
Writable (image at file) = (at < 2 ^ 32) × (is_word file ≡ true) × (is_utf8 file ≡ true)
Writable (protect pages) = (0 < length pages) × (list_all is_page_byte pages ≡ true)
Writable (patch entries) = (0 < length entries) × (list_all is_patch_long entries ≡ true)
Writable (chain n) = n < 2 ^ 32
Writable (script b states reads) = (b < 256) × (states < 2 ^ 32) × (list_all is_byte reads ≡ true)
Writable (key b) = b < 256
Writable latch = Unit {0}
Writable second = Unit {0}
Writable make = Unit {0}
Writable (step times) = times < 2 ^ 32
Writable (run budget times) = (budget < 2 ^ 32) × (times < 2 ^ 32)
Writable reset = Unit {0}
Writable (look w at n) = (w.cbar < 256) × (w.cbr < 256) × (w.bbr < 256) × (at < 65536) × (n < 2 ^ 32)
Writable show = Unit {0}

abbrev pub ReadAsWritten : Type 0
ReadAsWritten = (said : Said) → Writable said → command_of (join_with_byte 32 (words_for said)) ≡ Ok (Some said)
