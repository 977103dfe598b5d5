-- The published totals of cycles and states hold of every instruction on every page. Assumes nothing.
use Rattle.std.specs.Prelude.{◌≡◌, ℕ, ◌+◌, ◌*◌, ◌%◌, Bool, true, false, cond, ◌||◌, List, [], ◌∷◌, ◌==◌, nat_eq, nat_lt}
use Rattle.arithmetic.specs.Flags.{bit}
use Rattle.registers.specs.declared.registers.Registers.{Registers}
use Rattle.registers.specs.Operands.{with_bc}
use Rattle.registers.specs.Registers.{with_a}
use Rattle.processor_laws.specs.Bench.{at_start, condition_flags, stepped}
use Rattle.processor_laws.specs.CbPage as cb
use Rattle.processor_laws.specs.EdPage as ed
use Rattle.processor_laws.specs.IndexedPage as indexed
use Rattle.processor_laws.specs.IndexedCbPage as indexed_cb
use Rattle.processor_laws.specs.MainPage as main
use Rattle.processor_laws.specs.Table.{Grid, entry, how_many, in_ranges, is_entry, is_instruction, upto}

-- A byte that is an instruction takes what the grid says. What bytes stand in front of it, and what the registers are, is given
-- for each byte.
abbrev pub takes : Grid → (ℕ → Registers) → (ℕ → List ℕ) → ℕ → Bool
takes grid s bytes b = cond (is_instruction grid b) (is_entry (entry grid b) (stepped (s b) (bytes b)).answer) true

abbrev pub Takes : Grid → (ℕ → Registers) → (ℕ → List ℕ) → Type 0
Takes grid s bytes = upto 256 (takes grid s bytes) ≡ true

-- Conditional forms: the condition holds or does not, and B is 2 or 1, which DJNZ lowers.
abbrev pub conditional : Bool → ℕ → Registers
conditional taken b = condition_flags taken b (with_bc (cond taken 0x0200 0x0100) at_start)

pub record MainTotals : Type 0 where
  pub not_taken : Takes main.shorter (conditional false) (λ b. b ∷ [])
  pub taken : Takes main.longer (conditional true) (λ b. b ∷ [])

-- Repeating forms: BC is 2 or 1, which the blocks of memory count in, or B is 2 or 1, which the blocks of ports count in. The
-- byte in memory is 0, and A is not, so that a comparison does not end a block.
abbrev pub counting : ℕ → ℕ → ℕ → Registers
counting memory port b = with_a 0x55 (with_bc (cond (nat_lt (b % 8) 2) memory port) at_start)

pub record EdTotals : Type 0 where
  pub ending : Takes ed.ending (counting 0x0001 0x0100) (λ b. 0xED ∷ b ∷ [])
  pub repeating : Takes ed.repeating (counting 0x0002 0x0200) (λ b. 0xED ∷ b ∷ [])

pub record Totals : Type 0 where
  pub cb : Takes cb.totals (λ b. at_start) (λ b. 0xCB ∷ b ∷ [])
  pub dd : Takes indexed.totals (λ b. at_start) (λ b. 0xDD ∷ b ∷ [])
  pub fd : Takes indexed.totals (λ b. at_start) (λ b. 0xFD ∷ b ∷ [])
  pub dd_cb : Takes indexed_cb.totals (λ b. at_start) (λ b. 0xDD ∷ 0xCB ∷ 0x05 ∷ b ∷ [])
  pub fd_cb : Takes indexed_cb.totals (λ b. at_start) (λ b. 0xFD ∷ 0xCB ∷ 0x05 ∷ b ∷ [])

-- Each byte of a page is an instruction, or undefined, or leads to another page, and never two of them.
abbrev pub Sorted : Grid → List (ℕ × ℕ) → (ℕ → Bool) → Type 0
Sorted grid undefined leads =
    upto 256 (λ b. nat_eq (bit (is_instruction grid b) + bit (in_ranges undefined b) + bit (leads b)) 1) ≡ true

abbrev pub instructions : Grid → ℕ
instructions grid = how_many 256 (is_instruction grid)

pub record Pages : Type 0 where
  pub main_page : Sorted main.shorter [] (λ b. (b == 0xCB) || b == 0xDD || b == 0xED || b == 0xFD)
  pub cb_page : Sorted cb.totals cb.undefined (λ b. false)
  pub ed_page : Sorted ed.ending ed.undefined (λ b. false)
  pub indexed_page : Sorted indexed.totals indexed.undefined (λ b. nat_eq b 0xCB)
  pub indexed_cb_page : Sorted indexed_cb.totals indexed_cb.undefined (λ b. false)
  -- IX and IY have pages of their own
  pub all :
      instructions main.shorter + instructions cb.totals + instructions ed.ending
      + 2 * instructions indexed.totals + 2 * instructions indexed_cb.totals ≡ 731
