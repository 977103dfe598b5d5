-- Every undefined byte traps. Assumes nothing.
use Rattle.std.specs.Prelude.{◌≡◌, ℕ, Bool, true, cond, ◌&&◌, List, [], ◌∷◌, ◌==◌}
use Rattle.panel.specs.Script.{State}
use Rattle.registers.specs.declared.registers.Registers.{Registers}
use Rattle.registers.specs.Operands.{with_af, with_bc, with_de, with_hl}
use Rattle.registers.specs.Registers.{with_ief2, with_ix, with_r}
use Rattle.processor.specs.Step.{Turn}
use Rattle.processor_laws.specs.Bench.{at_start, stepped}
use Rattle.processor_laws.specs.CbPage as cb
use Rattle.processor_laws.specs.EdPage as ed
use Rattle.processor_laws.specs.IndexedPage as indexed
use Rattle.processor_laws.specs.IndexedCbPage as indexed_cb
use Rattle.processor_laws.specs.Table.{in_ranges, is_entry, upto}

-- Registers that a trap is to leave alone; R stands before a turn of its low seven bits.
abbrev pub marked : Registers
marked = with_r 0xFE (with_ief2 true (with_ix 0x4321 (with_af 0x12FF (with_bc 0x3456 (with_de 0x789A (with_hl 0xBCDE at_start))))))

-- PC, SP, ITC and R are these; so is the word on the stack, whose high byte is that of 1000H.
abbrev pub trapped : ℕ → ℕ → ℕ → Turn State → Bool
trapped itc low r t =
    (t.card.processor.cpu.pc == 0x0000)
    && t.card.processor.cpu.sp == 0x8FFE
    && t.card.processor.cpu.itc == itc
    && t.card.processor.cpu.r == r
    && t.card.mem.byte 0x8FFF == 0x10
    && t.card.mem.byte 0x8FFE == low

-- A trap on the second opcode byte takes 4 cycles and 12 states, one on the third 6 and 18. UFO tells them apart, and the address
-- on the stack is that of the byte, with a displacement not counted. R counts opcode bytes only.
abbrev pub traps_second : List (ℕ × ℕ) → (ℕ → List ℕ) → ℕ → Bool
traps_second undefined bytes b =
    cond (in_ranges undefined b)
    (is_entry 412 (stepped marked (bytes b)).answer && trapped 0xB9 0x01 0x80 (stepped marked (bytes b)))
    true

abbrev pub traps_third : List (ℕ × ℕ) → (ℕ → List ℕ) → ℕ → Bool
traps_third undefined bytes b =
    cond (in_ranges undefined b)
    (is_entry 618 (stepped marked (bytes b)).answer && trapped 0xF9 0x02 0x81 (stepped marked (bytes b)))
    true

pub record Traps : Type 0 where
  pub cb : upto 256 (traps_second cb.undefined (λ b. 0xCB ∷ b ∷ [])) ≡ true
  pub ed : upto 256 (traps_second ed.undefined (λ b. 0xED ∷ b ∷ [])) ≡ true
  pub dd : upto 256 (traps_second indexed.undefined (λ b. 0xDD ∷ b ∷ [])) ≡ true
  pub fd : upto 256 (traps_second indexed.undefined (λ b. 0xFD ∷ b ∷ [])) ≡ true
  pub dd_cb : upto 256 (traps_third indexed_cb.undefined (λ b. 0xDD ∷ 0xCB ∷ 0x05 ∷ b ∷ [])) ≡ true
  pub fd_cb : upto 256 (traps_third indexed_cb.undefined (λ b. 0xFD ∷ 0xCB ∷ 0x05 ∷ b ∷ [])) ≡ true
