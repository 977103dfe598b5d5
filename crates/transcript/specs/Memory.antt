-- What is printed of a memory. Assumes nothing.
use Rattle.std.specs.Prelude.{ℕ, zero, suc, min, List, [], ◌∷◌, ◌++◌, codes}
use Rattle.text.specs.Hexadecimal.{hex_long}
use Rattle.memory.specs.Memory.{Mem}
use Rattle.pagemap.specs.Crc.{crc_32}

-- The bytes at the addresses below n.
unfoldable pub bytes_below : Mem → ℕ → List ℕ
bytes_below m zero = []
bytes_below m (suc n) = bytes_below m n ++ (m.byte n ∷ [])

-- The CRC-32 of the bytes of a board of so many, as they are read; from 524,288 on there is no address.
abbrev pub board_crc : Mem → ℕ → ℕ
board_crc m length = crc_32 (bytes_below m (min length 524288))

unfoldable pub crc_text : ℕ → List ℕ
crc_text crc = codes "memory crc=" ++ hex_long crc

abbrev pub memory_text : Mem → ℕ → List ℕ
memory_text m length = crc_text (board_crc m length)
