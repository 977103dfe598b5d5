-- All that a trap changes, on every card. Assumes nothing.
use Rattle.std.specs.Prelude.{◌≡◌, ℕ, ◌+◌, ◌*◌, ◌/◌, ◌%◌, ◌<◌, true, false, Ok}
use Rattle.memory.specs.Memory.{Mem, store}
use Rattle.panel.specs.Panel.{Make}
use Rattle.registers.specs.declared.registers.Mode.TheVariants.{Running}
use Rattle.registers.specs.declared.registers.Registers.{Registers}
use Rattle.registers.specs.Registers.{Processor, counted, down, up, with_ei, with_itc, with_mode, with_pc, with_r, with_sp}
use Rattle.registers.specs.Window.{physical_of}
use Rattle.processor.specs.Step.{Model, Turn, step}
use Rattle.processor_laws.specs.CbPage as cb
use Rattle.processor_laws.specs.EdPage as ed
use Rattle.card_laws.specs.Every.{behind_pc, total}
use Rattle.card_laws.specs.Executes.{Executes}
use Rattle.processor_laws.specs.IndexedPage as indexed
use Rattle.processor_laws.specs.IndexedCbPage as indexed_cb
use Rattle.processor_laws.specs.Table.{in_ranges}

-- The registers: ITC, SP, PC, R and the flag of an EI before are new, and a card that was asleep is awake.
abbrev pub registers_after : ℕ → ℕ → Registers → Registers
registers_after ufo r s =
    with_itc (128 + ufo * 64 + s.itc % 64) (with_sp (down s.sp 2) (with_pc 0 (with_r r (with_ei false (with_mode Running s)))))

-- The memory: two bytes on the stack, where they take writes.
abbrev pub memory_after : ℕ → Processor → Mem → Mem
memory_after address p m =
    store (store m (physical_of p.window (down p.cpu.sp 1)) (address / 256)) (physical_of p.window (down p.cpu.sp 2)) (address % 256)

-- The step: its time, and the card, whose panel was told the states.
abbrev pub trap : {S : Type 0} → Make S → ℕ → ℕ → ℕ → ℕ → Model S → Turn S
trap make ufo r address time c = record {
  answer = Ok (total time);
  card = record {
    processor = record { cpu = registers_after ufo r c.processor.cpu; window = c.processor.window };
    mem = memory_after address c.processor c.mem;
    panel = make.told c.panel (time % 100);
  };
}

-- On the second opcode byte 4 cycles and 12 states, and R has counted two; on the third 6 and 18, and R has counted three. The
-- address on the stack is that of the byte, with a displacement not counted.
abbrev pub second_trap : {S : Type 0} → Make S → Model S → Turn S
second_trap make c = trap make 0 (counted (counted c.processor.cpu.r)) (up c.processor.cpu.pc 1) 412 c

abbrev pub third_trap : {S : Type 0} → Make S → Model S → Turn S
third_trap make c = trap make 1 (counted (counted (counted c.processor.cpu.r))) (up c.processor.cpu.pc 2) 618 c

-- Where a step executes an instruction, every undefined byte traps, and the trap changes nothing else.
pub record Frame {S : Type 0} (make : Make S) : Type 0 where
  pub cb_page :
      (c : Model S) (b : ℕ) → Executes make c → b < 256 → in_ranges cb.undefined b ≡ true → behind_pc c 0 ≡ 0xCB → behind_pc c 1 ≡ b → step make c ≡ second_trap make c
  pub ed_page :
      (c : Model S) (b : ℕ) → Executes make c → b < 256 → in_ranges ed.undefined b ≡ true → behind_pc c 0 ≡ 0xED → behind_pc c 1 ≡ b → step make c ≡ second_trap make c
  pub dd_page :
      (c : Model S) (b : ℕ) → Executes make c → b < 256 → in_ranges indexed.undefined b ≡ true → behind_pc c 0 ≡ 0xDD → behind_pc c 1 ≡ b → step make c ≡ second_trap make c
  pub fd_page :
      (c : Model S) (b : ℕ) → Executes make c → b < 256 → in_ranges indexed.undefined b ≡ true → behind_pc c 0 ≡ 0xFD → behind_pc c 1 ≡ b → step make c ≡ second_trap make c
  pub dd_cb_page :
      (c : Model S) (b : ℕ) → Executes make c → b < 256 → in_ranges indexed_cb.undefined b ≡ true → behind_pc c 0 ≡ 0xDD → behind_pc c 1 ≡ 0xCB → behind_pc c 3 ≡ b → step make c ≡ third_trap make c
  pub fd_cb_page :
      (c : Model S) (b : ℕ) → Executes make c → b < 256 → in_ranges indexed_cb.undefined b ≡ true → behind_pc c 0 ≡ 0xFD → behind_pc c 1 ≡ 0xCB → behind_pc c 3 ≡ b → step make c ≡ third_trap make c
