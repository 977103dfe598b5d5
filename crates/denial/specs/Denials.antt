-- The list of denials: each cause with its number and its layer. Assumes nothing.
use Rattle.std.specs.Prelude.{ℕ, cond, Ok, Err, Result, nat_le}
use Rattle.denial.specs.declared.Denial.{Denial}
use Rattle.denial.specs.declared.Denial.TheVariants.{MemoryTooLong, EntryOutOfRange, TooManyEntries, TableLength, AddressBeyondMemory, BudgetOutOfRange, LookOutOfRange, PanelFull, NoRestartByte}
use Rattle.denial.specs.declared.Layer.{Layer}
use Rattle.denial.specs.declared.Layer.TheVariants.{Making, Memory, Card, Panel}

-- What a denial tells the caller.
pub record Told : Type 0 where
  pub number : ℕ
  pub layer : Layer

-- The layer of a number.
abbrev pub layer_of : ℕ → Layer
layer_of n = cond (nat_le n 4) Making (cond (nat_le n 5) Memory (cond (nat_le n 7) Card Panel))

abbrev pub numbered : ℕ → Told
numbered n = record { number = n; layer = layer_of n }

-- The one list. What a contract says of a denial goes by it.
abbrev pub told : Denial → Told
told MemoryTooLong = numbered 1
told EntryOutOfRange = numbered 2
told TooManyEntries = numbered 3
told TableLength = numbered 4
told AddressBeyondMemory = numbered 5
told BudgetOutOfRange = numbered 6
told LookOutOfRange = numbered 7
told PanelFull = numbered 8
told NoRestartByte = numbered 9

-- An answer as the caller reads it: what was given, or the number and the layer of the denial.
abbrev pub answered : {A : Type 0} → Result A Denial → Result A Told
answered (Ok a) = Ok a
answered (Err d) = Err (told d)

-- The same, with what was given seen through a function.
abbrev pub answered_by : {A B : Type 0} → (A → B) → Result A Denial → Result B Told
answered_by f (Ok a) = Ok (f a)
answered_by f (Err d) = Err (told d)
