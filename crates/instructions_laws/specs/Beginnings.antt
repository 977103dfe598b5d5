-- What a run of bytes begins with lies within the run, and more bytes behind it change nothing. Assumes nothing.
use Rattle.std.specs.Prelude.{◌≡◌, ℕ, ◌≤◌, List, ◌++◌, length}
use Rattle.beginning.specs.Beginning.{beginning}
use Rattle.instructions.specs.Length as instruction
use Rattle.beginning.specs.declared.Beginning.{Beginning}
use Rattle.beginning.specs.declared.Beginning.TheVariants.{Instruction, UndefinedSecond, UndefinedThird, CutEnd}

-- It has at most n bytes; of a cut end nothing is said.
abbrev pub Within : ℕ → Beginning → Type 0
Within n (Instruction i) = instruction.length i ≤ n
Within n UndefinedSecond = 2 ≤ n
Within n UndefinedThird = 4 ≤ n
Within n CutEnd = Unit {0}

-- What was found first is found later too, unless it was a cut end.
abbrev pub Stands : Beginning → Beginning → Type 0
Stands (Instruction i) later = later ≡ Instruction i
Stands UndefinedSecond later = later ≡ UndefinedSecond
Stands UndefinedThird later = later ≡ UndefinedThird
Stands CutEnd later = Unit {0}

pub record BeginningLaws : Type 0 where
  pub within : (bytes : List ℕ) → Within (length bytes) (beginning bytes)
  pub stands : (bytes more : List ℕ) → Stands (beginning bytes) (beginning (bytes ++ more))
