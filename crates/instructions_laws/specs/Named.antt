-- Each byte that a page defines is the opcode of the form that it is decoded to. So no two bytes are one form.
-- Assumes nothing.
use Rattle.std.specs.Prelude.{◌≡◌, ℕ, List, Some, None, Option}
use Rattle.registers.specs.declared.operand.Index.{Index}
use Rattle.decoder.specs.Cb as cb
use Rattle.decoder.specs.Ed as ed
use Rattle.decoder.specs.Indexed as indexed
use Rattle.decoder.specs.IndexedCb as indexed_cb
use Rattle.decoder.specs.Main as main
use Rattle.instructions.specs.declared.instruction.Instruction.{Instruction}
use Rattle.instructions_laws.specs.Bytes.{of_first, of_second, each_byte}
use Rattle.instructions_laws.specs.Opcode as opcode

-- The opcode of an instruction; of none, what is given.
abbrev pub opcode_or : List ℕ → Option Instruction → List ℕ
opcode_or given (Some i) = opcode.opcode i
opcode_or given None = given

-- On a page whose opcodes are formed so, each byte's opcode is its own.
abbrev pub Named : (ℕ → List ℕ) → (ℕ → Option Instruction) → Type 0
Named formed decoded = each_byte (λ b. opcode_or (formed b) (decoded b)) ≡ each_byte formed

abbrev pub MainPage : Type 0
MainPage = Named opcode.main (λ b. of_first (main.decoded b))

abbrev pub CbPage : Type 0
CbPage = Named opcode.cb cb.decoded

abbrev pub EdPage : Type 0
EdPage = Named opcode.ed ed.decoded

abbrev pub IndexedPage : Type 0
IndexedPage = (i : Index) → Named (opcode.indexed i) (λ b. of_second (indexed.decoded i b))

abbrev pub IndexedCbPage : Type 0
IndexedCbPage = (i : Index) → Named (opcode.indexed_cb i) (indexed_cb.decoded i)
