-- Tables by opcode byte. Assumes nothing.
use Rattle.std.specs.Prelude.{ℕ, zero, suc, ◌+◌, ◌/◌, ◌%◌, Bool, true, false, not, ◌&&◌, ◌||◌, List, [], ◌∷◌, Ok, Err, Result, ◌==◌, nat_le, slice_index, slice_index_or}
use Rattle.arithmetic.specs.Flags.{bit}
use Rattle.cycles.specs.Play.{Tally}
use Rattle.processor.specs.Step.{Faulted}

-- A page of the opcode map: a row for each high digit, with an entry for each low digit. An entry is written as cycles in
-- front of two digits of states, so 309 is 3 cycles of 9 states together, and 0 says that the byte is no instruction.
abbrev pub Grid : Type 0
Grid = List (List ℕ)

abbrev pub entry : Grid → ℕ → ℕ
entry grid b = slice_index (slice_index_or grid (b / 16) []) (b % 16)

-- Whether a step's answer is what an entry says.
abbrev pub is_entry : ℕ → Result Tally Faulted → Bool
is_entry e (Ok t) = t.cycles == e / 100 && t.states == e % 100
is_entry e (Err f) = false

-- Whether a byte lies in one of the ranges, each given by its first and last.
abbrev pub in_ranges : List (ℕ × ℕ) → ℕ → Bool
in_ranges [] b = false
in_ranges (r ∷ rs) b = nat_le r.0 b && nat_le b r.1 || in_ranges rs b

abbrev pub is_instruction : Grid → ℕ → Bool
is_instruction grid b = not (entry grid b == 0)

-- Whether a test holds of every number below n, and of how many.
abbrev pub upto : ℕ → (ℕ → Bool) → Bool
upto zero test = true
upto (suc n) test = test n && upto n test

abbrev pub how_many : ℕ → (ℕ → Bool) → ℕ
how_many zero test = 0
how_many (suc n) test = bit (test n) + how_many n test
