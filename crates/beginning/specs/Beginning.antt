-- What a run of bytes begins with. Assumes nothing.
use Rattle.std.specs.Prelude.{ℕ, cond, List, length, Some, None, Option, nat_le, nat_lt, slice_index}
use Rattle.registers.specs.declared.operand.Index.{Index}
use Rattle.decoder.specs.Cb as cb
use Rattle.decoder.specs.Ed as ed
use Rattle.decoder.specs.Indexed as indexed
use Rattle.decoder.specs.IndexedCb as indexed_cb
use Rattle.instructions.specs.Length as instruction
use Rattle.decoder.specs.Main as main
use Rattle.beginning.specs.declared.Beginning.{Beginning}
use Rattle.beginning.specs.declared.Beginning.TheVariants.{Instruction, UndefinedSecond, UndefinedThird, CutEnd}
use Rattle.instructions.specs.declared.instruction as form
use Rattle.decoder.specs.declared.page.First.{First}
use Rattle.decoder.specs.declared.page.First.TheVariants as first
use Rattle.decoder.specs.declared.page.Page.{Page}
use Rattle.decoder.specs.declared.page.Page.TheVariants as page
use Rattle.decoder.specs.declared.page.Second.{Second}
use Rattle.decoder.specs.declared.page.Second.TheVariants as second

-- The instruction, if the bytes hold it whole.
abbrev pub whole : List ℕ → form.Instruction.Instruction → Beginning
whole bytes i = cond (nat_le (instruction.length i) (length bytes)) (Instruction i) CutEnd

abbrev pub whole_or : Beginning → List ℕ → Option form.Instruction.Instruction → Beginning
whole_or undefined bytes (Some i) = whole bytes i
whole_or undefined bytes None = undefined

-- Byte n, as something is made of it; past the end, a cut end.
abbrev pub by_byte : ℕ → List ℕ → (ℕ → Beginning) → Beginning
by_byte n bytes f = cond (nat_lt n (length bytes)) (f (slice_index bytes n)) CutEnd

-- Behind DDH CBH or FDH CBH: the opcode byte stands behind the displacement.
abbrev pub displaced : Index → List ℕ → Beginning
displaced i bytes = by_byte 3 bytes (λ b. whole_or UndefinedThird bytes (indexed_cb.decoded i b))

-- Behind DDH or FDH.
abbrev pub behind_index : Index → List ℕ → Second → Beginning
behind_index i bytes (second.Instruction form) = whole bytes form
behind_index i bytes second.BitsPrefix = displaced i bytes
behind_index i bytes second.Undefined = UndefinedSecond

-- Behind a first byte that leads to a page.
abbrev pub behind : Page → List ℕ → ℕ → Beginning
behind page.Bits bytes b = whole_or UndefinedSecond bytes (cb.decoded b)
behind page.Extended bytes b = whole_or UndefinedSecond bytes (ed.decoded b)
behind (page.Indexed i) bytes b = behind_index i bytes (indexed.decoded i b)

abbrev pub from_first : List ℕ → First → Beginning
from_first bytes (first.Instruction form) = whole bytes form
from_first bytes (first.Prefix page) = by_byte 1 bytes (λ b. behind page bytes b)

abbrev pub beginning : List ℕ → Beginning
beginning bytes = by_byte 0 bytes (λ b. from_first bytes (main.decoded b))

-- How many bytes it has; of a cut end nothing is said.
abbrev pub bytes_of : Beginning → Option ℕ
bytes_of (Instruction i) = Some (instruction.length i)
bytes_of UndefinedSecond = Some 2
bytes_of UndefinedThird = Some 4
bytes_of CutEnd = None
