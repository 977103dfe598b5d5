-- CRC-32 as IEEE 802.3 has it: polynomial EDB88320H, the lowest bit first, all ones before and after. Assumes nothing.
use Rattle.std.specs.Prelude.{◌≡◌, ℕ, zero, suc, ◌/◌, ◌%◌, cond, List, [], ◌∷◌, codes, ◌==◌, bit_xor}

-- One bit: a one that falls out brings the polynomial in.
abbrev pub crc_bit : ℕ → ℕ
crc_bit c = cond (c % 2 == 1) (bit_xor (c / 2) 0xEDB88320) (c / 2)

-- So many bits.
unfoldable pub crc_bits : ℕ → ℕ → ℕ
crc_bits zero c = c
crc_bits (suc k) c = crc_bit (crc_bits k c)

abbrev pub crc_byte : ℕ → ℕ → ℕ
crc_byte c b = crc_bits 8 (bit_xor c b)

abbrev pub crc_after : ℕ → List ℕ → ℕ
crc_after c [] = c
crc_after c (b ∷ bs) = crc_after (crc_byte c b) bs

-- Before the first byte, and after the last.
abbrev pub crc_begun : ℕ
crc_begun = 0xFFFFFFFF

abbrev pub crc_ended : ℕ → ℕ
crc_ended c = bit_xor c 0xFFFFFFFF

abbrev pub crc_32 : List ℕ → ℕ
crc_32 bytes = crc_ended (crc_after crc_begun bytes)

-- The published check value.
abbrev pub CheckValue : Type 0
CheckValue = crc_32 (codes "123456789") ≡ 0xCBF43926
