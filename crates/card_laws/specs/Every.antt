-- Every instruction takes its published total on every card, whatever its registers, memory and panel are; one that goes two ways
-- takes the longer exactly when it should. Assumes nothing.
use Rattle.std.specs.Prelude.{◌≡◌, ℕ, zero, suc, ◌-◌, ◌/◌, ◌%◌, ◌<◌, Bool, true, false, cond, not, ◌&&◌, Ok, ◌==◌, nat_eq, nat_lt}
use Rattle.arithmetic.specs.Block.{lowered}
use Rattle.panel.specs.Panel.{Make}
use Rattle.registers.specs.declared.operand.Condition.{Condition}
use Rattle.registers.specs.Operands.{bc, hl, holds}
use Rattle.registers.specs.Registers.{down, up}
use Rattle.registers.specs.Window.{physical_of}
use Rattle.decoder.specs.Field.{condition, y, z}
use Rattle.cycles.specs.Play.{Tally}
use Rattle.processor.specs.Step.{Model, step}
use Rattle.processor_laws.specs.CbPage as cb
use Rattle.processor_laws.specs.EdPage as ed
use Rattle.card_laws.specs.Executes.{Executes}
use Rattle.processor_laws.specs.IndexedPage as indexed
use Rattle.processor_laws.specs.IndexedCbPage as indexed_cb
use Rattle.processor_laws.specs.MainPage as main
use Rattle.processor_laws.specs.Table.{Grid, entry, is_instruction}

-- The byte that stands so many places behind PC.
abbrev pub places_on : ℕ → ℕ → ℕ
places_on a zero = a
places_on a (suc n) = up (places_on a n) 1

abbrev pub behind_pc : {S : Type 0} → Model S → ℕ → ℕ
behind_pc c n = c.mem.byte (physical_of c.processor.window (places_on c.processor.cpu.pc n))

abbrev pub at_hl : {S : Type 0} → Model S → ℕ
at_hl c = c.mem.byte (physical_of c.processor.window (hl c.processor.cpu))

abbrev pub total : ℕ → Tally
total e = record { cycles = e / 100; states = e % 100 }

-- A step takes what an entry says.
abbrev pub Takes : {S : Type 0} → Make S → Model S → ℕ → Type 0
Takes make c e = (step make c).answer ≡ Ok (total e)

-- A byte of a page that is an instruction, and goes one way only: both grids say the same of it.
pub record Plain (shorter longer : Grid) (b : ℕ) : Type 0 where
  pub small : b < 256
  pub defined : is_instruction shorter b ≡ true
  pub one_way : nat_eq (entry shorter b) (entry longer b) ≡ true

-- A step that executes, by the bytes at PC; the displacement behind DDH CBH and FDH CBH is any.
pub record Every {S : Type 0} (make : Make S) : Type 0 where
  pub main_page :
      (c : Model S) (b : ℕ) → Executes make c → Plain main.shorter main.longer b → behind_pc c 0 ≡ b → Takes make c (entry main.shorter b)
  pub cb_page :
      (c : Model S) (b : ℕ) → Executes make c → Plain cb.totals cb.totals b → behind_pc c 0 ≡ 0xCB → behind_pc c 1 ≡ b → Takes make c (entry cb.totals b)
  pub ed_page :
      (c : Model S) (b : ℕ) → Executes make c → Plain ed.ending ed.repeating b → behind_pc c 0 ≡ 0xED → behind_pc c 1 ≡ b → Takes make c (entry ed.ending b)
  pub dd_page :
      (c : Model S) (b : ℕ) → Executes make c → Plain indexed.totals indexed.totals b → behind_pc c 0 ≡ 0xDD → behind_pc c 1 ≡ b → Takes make c (entry indexed.totals b)
  pub fd_page :
      (c : Model S) (b : ℕ) → Executes make c → Plain indexed.totals indexed.totals b → behind_pc c 0 ≡ 0xFD → behind_pc c 1 ≡ b → Takes make c (entry indexed.totals b)
  pub dd_cb_page :
      (c : Model S) (b : ℕ) → Executes make c → Plain indexed_cb.totals indexed_cb.totals b → behind_pc c 0 ≡ 0xDD → behind_pc c 1 ≡ 0xCB → behind_pc c 3 ≡ b → Takes make c (entry indexed_cb.totals b)
  pub fd_cb_page :
      (c : Model S) (b : ℕ) → Executes make c → Plain indexed_cb.totals indexed_cb.totals b → behind_pc c 0 ≡ 0xFD → behind_pc c 1 ≡ 0xCB → behind_pc c 3 ≡ b → Takes make c (entry indexed_cb.totals b)

-- The condition that a byte of the main page names: JR has two bits for it, JP, CALL and RET have three.
abbrev pub named : ℕ → Condition
named b = condition (cond (nat_lt b 0x40) (y b - 4) (y b))

-- Whether a repeating form has more to do, by the low three bits of its byte: a transfer while BC, once lowered, is not 0; a
-- comparison while also A is not the byte at (HL); a form for ports while B, once lowered, is not 0.
abbrev pub more_to_do : {S : Type 0} → Model S → ℕ → Bool
more_to_do c b =
    cond (z b == 0) (not (down (bc c.processor.cpu) 1 == 0))
    (cond (z b == 1) (not (down (bc c.processor.cpu) 1 == 0) && not (c.processor.cpu.main.a == at_hl c))
    (not (lowered c.processor.cpu.main.b == 0)))

-- Conditional forms take the longer way exactly if their condition holds, DJNZ if B, once lowered, is not 0, and repeating forms,
-- those of which the two grids differ, while there is more to do.
pub record Branches {S : Type 0} (make : Make S) : Type 0 where
  pub conditional :
      (c : Model S) (b : ℕ) → Executes make c → b < 256 → is_instruction main.shorter b && not (b == 0x10) ≡ true → behind_pc c 0 ≡ b →
      Takes make c (entry (cond (holds (named b) c.processor.cpu.main.f) main.longer main.shorter) b)
  pub count :
      (c : Model S) → Executes make c → behind_pc c 0 ≡ 0x10 →
      Takes make c (entry (cond (lowered c.processor.cpu.main.b == 0) main.shorter main.longer) 0x10)
  pub repeated :
      (c : Model S) (b : ℕ) → Executes make c → b < 256 → (entry ed.ending b == entry ed.repeating b) ≡ false → behind_pc c 0 ≡ 0xED → behind_pc c 1 ≡ b →
      Takes make c (entry (cond (more_to_do c b) ed.repeating ed.ending) b)
