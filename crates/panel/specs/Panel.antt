-- What a panel means: states, and functions over them that fix every answer and every state after. Assumes nothing.
use Rattle.std.specs.Prelude.{ℕ, Bool, cond, Ok, Err, Result}
use Rattle.denial.specs.Denials.{Told, numbered}
use Rattle.panel.specs.declared.line.Line.{Line}
use Rattle.panel.specs.declared.line.Line.TheVariants.{Nmi, Int0, Int1, Int2}

-- The four lines, in the order in which the processor accepts them.
abbrev pub line_number : Line → ℕ
line_number Nmi = 0
line_number Int0 = 1
line_number Int1 = 2
line_number Int2 = 3

-- A make of panel over its states S. The state alone fixes the first four; the state and what is handed over fix the state
-- after each of the others. Ports have 16 bits.
pub record Make (S : Type 0) : Type 0 where
  -- whether it is full
  pub full : S → Bool
  -- whether it asks for a line
  pub asks : S → Line → Bool
  -- the byte that it gives when INT0 is acknowledged
  pub int0_byte : S → ℕ
  -- what a read of a port answers
  pub answer : S → ℕ → ℕ
  -- the state after a read of a port
  pub read : S → ℕ → S
  -- after a write of a byte to a port, while it is not full
  pub written : S → ℕ → ℕ → S
  -- after the acknowledgement of a line, also of one that it does not ask for
  pub acknowledged : S → Line → S
  -- after it is told that so many states have passed
  pub told : S → ℕ → S

-- What a write answers: 8 exactly while the panel is full.
abbrev pub accepted : {S : Type 0} → Make S → S → Result (Unit {0}) Told
accepted make s = cond (make.full s) (Err (numbered 8)) (Ok tt)

-- The state after a write: one that is denied changes nothing.
abbrev pub wrote : {S : Type 0} → Make S → S → ℕ → ℕ → S
wrote make s port byte = cond (make.full s) s (make.written s port byte)
