-- The bytes that pass a test, what a function gives for each byte, and tests of what a byte is. Assumes nothing.
use Rattle.std.specs.Prelude.{ℕ, zero, suc, Bool, true, false, List, [], ◌∷◌, Some, None, Option}
use Rattle.instructions.specs.declared.instruction.Instruction.{Instruction}
use Rattle.decoder.specs.declared.page.First.{First}
use Rattle.decoder.specs.declared.page.First.TheVariants as first
use Rattle.decoder.specs.declared.page.Second.{Second}
use Rattle.decoder.specs.declared.page.Second.TheVariants as second

abbrev pub with : Bool → ℕ → List ℕ → List ℕ
with true n others = n ∷ others
with false n others = others

-- Those of the numbers n, n + 1 and so on, so many in all, that pass the test.
abbrev pub passing : ℕ → ℕ → (ℕ → Bool) → List ℕ
passing zero n test = []
passing (suc many) n test = with (test n) n (passing many (suc n) test)

abbrev pub bytes_that : (ℕ → Bool) → List ℕ
bytes_that test = passing 256 0 test

-- What a function gives for n, n + 1 and so on, so many in all.
abbrev pub values : {A : Type 0} → ℕ → ℕ → (ℕ → A) → List A
values zero n f = []
values (suc many) n f = f n ∷ values many (suc n) f

abbrev pub each_byte : {A : Type 0} → (ℕ → A) → List A
each_byte f = values 256 0 f

-- The instruction that a byte of the main page, or one behind DDH or FDH, is.
abbrev pub of_first : First → Option Instruction
of_first (first.Instruction i) = Some i
of_first (first.Prefix page) = None

abbrev pub of_second : Second → Option Instruction
of_second (second.Instruction i) = Some i
of_second second.BitsPrefix = None
of_second second.Undefined = None

abbrev pub is_instruction : Option Instruction → Bool
is_instruction (Some i) = true
is_instruction None = false

abbrev pub is_none : Option Instruction → Bool
is_none (Some i) = false
is_none None = true
