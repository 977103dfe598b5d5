-- The bytes that each page defines are exactly those of the data book's maps. Assumes nothing.
use Rattle.std.specs.Prelude.{◌≡◌, ℕ, ◌+◌, [], ◌∷◌, length, Option}
use Rattle.registers.specs.declared.operand.Index.{Index}
use Rattle.registers.specs.declared.operand.Index.TheVariants.{Ix, Iy}
use Rattle.decoder.specs.Cb as cb
use Rattle.decoder.specs.Ed as ed
use Rattle.decoder.specs.Indexed as indexed
use Rattle.decoder.specs.IndexedCb as indexed_cb
use Rattle.decoder.specs.Main as main
use Rattle.instructions.specs.declared.instruction.Instruction.{Instruction}
use Rattle.decoder.specs.declared.page.First.TheVariants.{Prefix}
use Rattle.decoder.specs.declared.page.Page.TheVariants.{Bits, Extended, Indexed}
use Rattle.decoder.specs.declared.page.Second.TheVariants.{BitsPrefix}
use Rattle.instructions_laws.specs.Bytes.{bytes_that, of_first, of_second, is_instruction, is_none}

-- The main page has no undefined byte: all but four are instructions, and those lead to other pages.
abbrev pub MainPage : Type 0
MainPage =
    (bytes_that (λ b. is_none (of_first (main.decoded b))) ≡ 0xCB ∷ 0xDD ∷ 0xED ∷ 0xFD ∷ [])
    × (main.decoded 0xCB ≡ Prefix Bits)
    × (main.decoded 0xDD ≡ Prefix (Indexed Ix))
    × (main.decoded 0xED ≡ Prefix Extended)
    × (main.decoded 0xFD ≡ Prefix (Indexed Iy))

-- Behind CBH only these are undefined.
abbrev pub CbPage : Type 0
CbPage =
    bytes_that (λ b. is_none (cb.decoded b)) ≡
    0x30 ∷ 0x31 ∷ 0x32 ∷ 0x33 ∷ 0x34 ∷ 0x35 ∷ 0x36 ∷ 0x37 ∷ []

-- Behind EDH only these are instructions.
abbrev pub EdPage : Type 0
EdPage =
    bytes_that (λ b. is_instruction (ed.decoded b)) ≡
    0x00 ∷ 0x01 ∷ 0x04 ∷ 0x08 ∷ 0x09 ∷ 0x0C ∷
    0x10 ∷ 0x11 ∷ 0x14 ∷ 0x18 ∷ 0x19 ∷ 0x1C ∷
    0x20 ∷ 0x21 ∷ 0x24 ∷ 0x28 ∷ 0x29 ∷ 0x2C ∷
    0x34 ∷ 0x38 ∷ 0x39 ∷ 0x3C ∷
    0x40 ∷ 0x41 ∷ 0x42 ∷ 0x43 ∷ 0x44 ∷ 0x45 ∷ 0x46 ∷ 0x47 ∷ 0x48 ∷ 0x49 ∷ 0x4A ∷ 0x4B ∷ 0x4C ∷ 0x4D ∷ 0x4F ∷
    0x50 ∷ 0x51 ∷ 0x52 ∷ 0x53 ∷ 0x56 ∷ 0x57 ∷ 0x58 ∷ 0x59 ∷ 0x5A ∷ 0x5B ∷ 0x5C ∷ 0x5E ∷ 0x5F ∷
    0x60 ∷ 0x61 ∷ 0x62 ∷ 0x63 ∷ 0x64 ∷ 0x67 ∷ 0x68 ∷ 0x69 ∷ 0x6A ∷ 0x6B ∷ 0x6C ∷ 0x6F ∷
    0x72 ∷ 0x73 ∷ 0x74 ∷ 0x76 ∷ 0x78 ∷ 0x79 ∷ 0x7A ∷ 0x7B ∷ 0x7C ∷
    0x83 ∷ 0x8B ∷
    0x93 ∷ 0x9B ∷
    0xA0 ∷ 0xA1 ∷ 0xA2 ∷ 0xA3 ∷ 0xA8 ∷ 0xA9 ∷ 0xAA ∷ 0xAB ∷
    0xB0 ∷ 0xB1 ∷ 0xB2 ∷ 0xB3 ∷ 0xB8 ∷ 0xB9 ∷ 0xBA ∷ 0xBB ∷ []

-- Behind DDH and FDH only these are instructions, and CBH leads on.
abbrev pub IndexedPage : Type 0
IndexedPage =
    (i : Index) →
    (indexed.decoded i 0xCB ≡ BitsPrefix)
    × (bytes_that (λ b. is_instruction (of_second (indexed.decoded i b))) ≡
    0x09 ∷
    0x19 ∷
    0x21 ∷ 0x22 ∷ 0x23 ∷ 0x29 ∷ 0x2A ∷ 0x2B ∷
    0x34 ∷ 0x35 ∷ 0x36 ∷ 0x39 ∷
    0x46 ∷ 0x4E ∷
    0x56 ∷ 0x5E ∷
    0x66 ∷ 0x6E ∷
    0x70 ∷ 0x71 ∷ 0x72 ∷ 0x73 ∷ 0x74 ∷ 0x75 ∷ 0x77 ∷ 0x7E ∷
    0x86 ∷ 0x8E ∷
    0x96 ∷ 0x9E ∷
    0xA6 ∷ 0xAE ∷
    0xB6 ∷ 0xBE ∷
    0xE1 ∷ 0xE3 ∷ 0xE5 ∷ 0xE9 ∷
    0xF9 ∷ [])

-- Behind DDH CBH d and FDH CBH d only these are instructions.
abbrev pub IndexedCbPage : Type 0
IndexedCbPage =
    (i : Index) →
    bytes_that (λ b. is_instruction (indexed_cb.decoded i b)) ≡
    0x06 ∷ 0x0E ∷
    0x16 ∷ 0x1E ∷
    0x26 ∷ 0x2E ∷
    0x3E ∷
    0x46 ∷ 0x4E ∷
    0x56 ∷ 0x5E ∷
    0x66 ∷ 0x6E ∷
    0x76 ∷ 0x7E ∷
    0x86 ∷ 0x8E ∷
    0x96 ∷ 0x9E ∷
    0xA6 ∷ 0xAE ∷
    0xB6 ∷ 0xBE ∷
    0xC6 ∷ 0xCE ∷
    0xD6 ∷ 0xDE ∷
    0xE6 ∷ 0xEE ∷
    0xF6 ∷ 0xFE ∷ []

-- How many instructions a page has; there are 731 in all.
abbrev pub many : (ℕ → Option Instruction) → ℕ
many decoded = length (bytes_that (λ b. is_instruction (decoded b)))

abbrev pub AllPages : Type 0
AllPages =
    many (λ b. of_first (main.decoded b))
    + many cb.decoded
    + many ed.decoded
    + many (λ b. of_second (indexed.decoded Ix b))
    + many (λ b. of_second (indexed.decoded Iy b))
    + many (indexed_cb.decoded Ix)
    + many (indexed_cb.decoded Iy)
    ≡ 731
