-- Cards set up to be stepped once: at 1000H stand the bytes of an instruction, and zeros elsewhere. Assumes nothing.
use Rattle.std.specs.Prelude.{ℕ, ◌+◌, ◌-◌, ◌/◌, Bool, true, cond, ◌&&◌, List, [], ◌∷◌, length, ◌==◌, nat_le, nat_lt, slice_index}
use Rattle.arithmetic.specs.Flags.{alike, from, odd}
use Rattle.memory.specs.Memory.{Mem}
use Rattle.panel.specs.Script.{State, new_script, script_make}
use Rattle.registers.specs.declared.registers.Registers.{Registers}
use Rattle.registers.specs.Registers.{fresh_registers, fresh_window, with_f, with_pc, with_sp, word}
use Rattle.processor.specs.Step.{Model, Turn, step}

abbrev pub start : ℕ
start = 0x1000

-- Bytes from the start on, and single ones elsewhere, by physical address. All addresses take writes.
abbrev pub placed : List (ℕ × ℕ) → ℕ → ℕ
placed [] a = 0
placed (x ∷ xs) a = cond (a == x.0) x.1 (placed xs a)

abbrev pub memory_with : List ℕ → List (ℕ × ℕ) → Mem
memory_with bytes singles =
    record { byte = λ a. cond (nat_le start a && nat_lt a (start + length bytes)) (slice_index bytes (a - start)) (placed singles a); takes = λ _. true }

-- A panel that asks for nothing in a card's first step.
abbrev pub quiet : State
quiet = new_script [] 1 0xFF

-- The registers of a new card, but for PC and SP.
abbrev pub at_start : Registers
at_start = with_pc start (with_sp 0x9000 fresh_registers)

abbrev pub card : {S : Type 0} → Registers → Mem → S → Model S
card s m panel = record { processor = record { cpu = s; window = fresh_window }; mem = m; panel = panel }

abbrev pub stepped : Registers → List ℕ → Turn State
stepped s bytes = step script_make (card s (memory_with bytes []) quiet)

-- The word that the stack pointer stands at.
abbrev pub stacked : {S : Type 0} → Turn S → ℕ
stacked t = word (t.card.mem.byte (t.card.processor.cpu.sp + 1)) (t.card.mem.byte t.card.processor.cpu.sp)

-- F by which the condition in bits 5 to 3 of a byte holds, or does not: the even ones ask for a 0, the odd ones for a 1.
abbrev pub condition_flags : Bool → ℕ → Registers → Registers
condition_flags taken b s = with_f (cond (alike taken (odd (b / 8))) (from 0xFF) (from 0x00)) s
