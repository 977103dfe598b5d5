-- A CRC goes on with the byte at the next address. Assumes nothing.
use Rattle.std.proofs.Common.{◌≡◌, ℕ, ◌+◌, List, [], ◌∷◌, ◌++◌, refl, sym, ap, ◌∙◌, add-one}
use Rattle.memory.specs.Memory.{Mem}
use Rattle.pagemap.specs.Crc.{crc_after, crc_begun, crc_byte}
use Rattle.transcript.specs.Memory.{bytes_below}

with_last : (c b : ℕ) (bytes : List ℕ) → crc_byte (crc_after c bytes) b ≡ crc_after c (bytes ++ (b ∷ []))
with_last c b [] = refl
with_last c b (x ∷ xs) = with_last (crc_byte c x) b xs

pub one_more : (m : Mem) (n : ℕ) → crc_byte (crc_after crc_begun (bytes_below m n)) (m.byte n) ≡ crc_after crc_begun (bytes_below m (n + 1))
unfolding bytes_below
one_more m n = with_last crc_begun (m.byte n) (bytes_below m n) ∙ ap (λ k. crc_after crc_begun (bytes_below m k)) (sym (add-one n))
