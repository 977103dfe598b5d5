-- A step's machine cycles, as a tree: each node is one cycle, and what follows it may depend on the byte it brought.
-- Assumes nothing.
use Rattle.std.specs.Prelude.{ℕ, suc}
use Rattle.panel.specs.declared.line.Line.{Line}

-- A byte of an instruction is fetched as an opcode, which R counts, or as an operand.
pub data Code : Type 0 where
  opcode_byte : Code
  operand_byte : Code

-- A port is internal, with the byte that it reads as, or one of the panel's, by its 16-bit number. Which it is stands in the
-- node, since ICR decides it before the cycle.
pub data Port : Type 0 where
  internal_port : ℕ → Port
  panel_port : ℕ → Port

-- The index is how many bytes may still be written: a tree at 2 writes at most two. Addresses are logical.
pub data Cycles (A : Type 0) : ℕ → Type 0 where
  -- no more cycles; this is what they came to
  done : {n : ℕ} → A → Cycles A n
  -- a byte of the instruction
  fetch : {n : ℕ} → Code → ℕ → (ℕ → Cycles A n) → Cycles A n
  -- a byte of data
  read : {n : ℕ} → ℕ → (ℕ → Cycles A n) → Cycles A n
  write : {n : ℕ} → ℕ → ℕ → Cycles A n → Cycles A (suc n)
  input : {n : ℕ} → Port → (ℕ → Cycles A n) → Cycles A n
  output : {n : ℕ} → Port → ℕ → Cycles A n → Cycles A n
  -- the acknowledgement of a line, in so many states
  acknowledge : {n : ℕ} → Line → ℕ → Cycles A n → Cycles A n
  -- nothing outside the processor, for so many states
  internal : {n : ℕ} → ℕ → Cycles A n → Cycles A n
