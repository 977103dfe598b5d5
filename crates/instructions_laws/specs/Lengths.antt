-- Each form has the length that the data book prints. Assumes nothing.
use Rattle.std.specs.Prelude.{◌≡◌, ℕ, suc, Bool, false, cond, ◌||◌, List, [], ◌∷◌, Some, None, Option, ◌==◌}
use Rattle.registers.specs.declared.operand.Index.{Index}
use Rattle.decoder.specs.Cb as cb
use Rattle.decoder.specs.Ed as ed
use Rattle.decoder.specs.Indexed as indexed
use Rattle.decoder.specs.IndexedCb as indexed_cb
use Rattle.instructions.specs.Length as instruction
use Rattle.decoder.specs.Main as main
use Rattle.instructions.specs.declared.instruction.Instruction.{Instruction}
use Rattle.instructions_laws.specs.Bytes.{of_first, of_second, each_byte}

-- The length of an instruction; of none, what is given.
abbrev pub length_or : ℕ → Option Instruction → ℕ
length_or given (Some i) = instruction.length i
length_or given None = given

abbrev pub listed : ℕ → List ℕ → Bool
listed b [] = false
listed b (a ∷ others) = b == a || listed b others

-- What the length is on a page whose shortest forms have n bytes, and which lists those with one byte more and with two.
abbrev pub printed : ℕ → List ℕ → List ℕ → ℕ → ℕ
printed n longer longest b = cond (listed b longer) (suc n) (cond (listed b longest) (suc (suc n)) n)

-- Every instruction of the page has that length.
abbrev pub Lengths : (ℕ → ℕ) → (ℕ → Option Instruction) → Type 0
Lengths printed decoded = each_byte (λ b. length_or (printed b) (decoded b)) ≡ each_byte printed

-- Main page: two bytes, three bytes, and else one.
abbrev pub main_2 : List ℕ
main_2 =
    0x06 ∷ 0x0E ∷
    0x10 ∷ 0x16 ∷ 0x18 ∷ 0x1E ∷
    0x20 ∷ 0x26 ∷ 0x28 ∷ 0x2E ∷
    0x30 ∷ 0x36 ∷ 0x38 ∷ 0x3E ∷
    0xC6 ∷ 0xCE ∷
    0xD3 ∷ 0xD6 ∷ 0xDB ∷ 0xDE ∷
    0xE6 ∷ 0xEE ∷
    0xF6 ∷ 0xFE ∷ []

abbrev pub main_3 : List ℕ
main_3 =
    0x01 ∷
    0x11 ∷
    0x21 ∷ 0x22 ∷ 0x2A ∷
    0x31 ∷ 0x32 ∷ 0x3A ∷
    0xC2 ∷ 0xC3 ∷ 0xC4 ∷ 0xCA ∷ 0xCC ∷ 0xCD ∷
    0xD2 ∷ 0xD4 ∷ 0xDA ∷ 0xDC ∷
    0xE2 ∷ 0xE4 ∷ 0xEA ∷ 0xEC ∷
    0xF2 ∷ 0xF4 ∷ 0xFA ∷ 0xFC ∷ []

abbrev pub MainPage : Type 0
MainPage = Lengths (printed 1 main_2 main_3) (λ b. of_first (main.decoded b))

-- Behind CBH: always two.
abbrev pub CbPage : Type 0
CbPage = Lengths (printed 2 [] []) cb.decoded

-- Behind EDH: three bytes, four bytes, and else two.
abbrev pub ed_3 : List ℕ
ed_3 =
    0x00 ∷ 0x01 ∷ 0x08 ∷ 0x09 ∷
    0x10 ∷ 0x11 ∷ 0x18 ∷ 0x19 ∷
    0x20 ∷ 0x21 ∷ 0x28 ∷ 0x29 ∷
    0x38 ∷ 0x39 ∷
    0x64 ∷
    0x74 ∷ []

abbrev pub ed_4 : List ℕ
ed_4 =
    0x43 ∷ 0x4B ∷
    0x53 ∷ 0x5B ∷
    0x63 ∷ 0x6B ∷
    0x73 ∷ 0x7B ∷ []

abbrev pub EdPage : Type 0
EdPage = Lengths (printed 2 ed_3 ed_4) ed.decoded

-- Behind DDH and FDH: three bytes, four bytes, and else two.
abbrev pub indexed_3 : List ℕ
indexed_3 =
    0x34 ∷ 0x35 ∷
    0x46 ∷ 0x4E ∷
    0x56 ∷ 0x5E ∷
    0x66 ∷ 0x6E ∷
    0x70 ∷ 0x71 ∷ 0x72 ∷ 0x73 ∷ 0x74 ∷ 0x75 ∷ 0x77 ∷ 0x7E ∷
    0x86 ∷ 0x8E ∷
    0x96 ∷ 0x9E ∷
    0xA6 ∷ 0xAE ∷
    0xB6 ∷ 0xBE ∷ []

abbrev pub indexed_4 : List ℕ
indexed_4 =
    0x21 ∷ 0x22 ∷ 0x2A ∷
    0x36 ∷ []

abbrev pub IndexedPage : Type 0
IndexedPage = (i : Index) → Lengths (printed 2 indexed_3 indexed_4) (λ b. of_second (indexed.decoded i b))

-- Behind DDH CBH d and FDH CBH d: always four.
abbrev pub IndexedCbPage : Type 0
IndexedCbPage = (i : Index) → Lengths (printed 4 [] []) (indexed_cb.decoded i)
