-- Interrupts, idle steps and waking, each on a card that is set up for it. Assumes nothing.
use Rattle.std.specs.Prelude.{◌≡◌, ℕ, Bool, true, false, [], ◌∷◌, Some, None, Ok, Err, Option}
use Rattle.denial.specs.Denials.{numbered}
use Rattle.panel.specs.declared.line.Line.{Line}
use Rattle.panel.specs.declared.line.Line.TheVariants.{Int0, Int1, Int2, Nmi}
use Rattle.panel.specs.Panel.{Make}
use Rattle.registers.specs.declared.registers.InterruptMode.TheVariants.{One, Two}
use Rattle.registers.specs.declared.registers.Mode.{Mode}
use Rattle.registers.specs.declared.registers.Mode.TheVariants.{Asleep, Halted, Running}
use Rattle.registers.specs.declared.registers.Registers.{Registers}
use Rattle.registers.specs.Registers.{with_ei, with_i, with_ief1, with_ief2, with_il, with_im, with_itc, with_mode, with_r}
use Rattle.processor.specs.Step.{Turn, step}
use Rattle.processor_laws.specs.Bench.{at_start, card, memory_with, stacked}

-- A panel that asks for the lines whose flags are up, whatever is acknowledged, and keeps the last acknowledgement and the
-- states it was told.
pub record Asking : Type 0 where
  pub nmi : Bool
  pub int0 : Bool
  pub int1 : Bool
  pub int2 : Bool
  pub full : Bool
  pub byte : ℕ
  pub acknowledged : Option Line
  pub told : ℕ

abbrev pub asks : Asking → Line → Bool
asks s Nmi = s.nmi
asks s Int0 = s.int0
asks s Int1 = s.int1
asks s Int2 = s.int2

abbrev pub after : Option Line → ℕ → Asking → Asking
after line states s =
    record { nmi = s.nmi; int0 = s.int0; int1 = s.int1; int2 = s.int2; full = s.full; byte = s.byte; acknowledged = line; told = states }

abbrev pub asking_make : Make Asking
asking_make = record {
  full = λ s. s.full;
  asks = asks;
  int0_byte = λ s. s.byte;
  answer = λ s port. 0xFF;
  read = λ s port. s;
  written = λ s port b. s;
  acknowledged = λ s line. after (Some line) s.told s;
  told = λ s states. after s.acknowledged states s;
}

-- Which lines it asks for, in the order of acceptance, and its INT0 byte.
abbrev pub panel_asks : Bool → Bool → Bool → Bool → ℕ → Asking
panel_asks nmi int0 int1 int2 byte =
    record { nmi = nmi; int0 = int0; int1 = int1; int2 = int2; full = false; byte = byte; acknowledged = None; told = 0 }

-- IEF1 = 1, I = 20H, IL = E0H, R = 7FH, and all three lines enabled; the instruction at PC is NOP. From 20E0H on stand the
-- words 1111H and 2222H, and across 20FFH and 2100H 4433H.
abbrev pub ready : Registers
ready = with_ief1 true (with_i 0x20 (with_il 0xE0 (with_r 0x7F (with_itc 0x3F at_start))))

abbrev pub stepping : Registers → Asking → Turn Asking
stepping s panel =
    step asking_make
    (card s (memory_with [] ((0x20E0, 0x11) ∷ (0x20E1, 0x11) ∷ (0x20E2, 0x22) ∷ (0x20E3, 0x22) ∷ (0x20FF, 0x33) ∷ (0x2100, 0x44) ∷ [])) panel)

-- What an entry leaves: the time, the line that was acknowledged, PC, the flip-flops, and the states that the panel was told. PC
-- is on the stack, the card runs, and no opcode byte was counted.
pub record Enters (line : Line) (cycles : ℕ) (states : ℕ) (pc : ℕ) (ief2 : Bool) (t : Turn Asking) : Type 0 where
  pub time : t.answer ≡ Ok (record { cycles = cycles; states = states })
  pub acknowledged : t.card.panel.acknowledged ≡ Some line
  pub told : t.card.panel.told ≡ states
  pub pc_after : t.card.processor.cpu.pc ≡ pc
  pub ief1_after : t.card.processor.cpu.ief1 ≡ false
  pub ief2_after : t.card.processor.cpu.ief2 ≡ ief2
  pub sp_after : t.card.processor.cpu.sp ≡ 0x8FFE
  pub pushed : stacked t ≡ 0x1000
  pub mode_after : t.card.processor.cpu.mode ≡ Running
  pub r_after : t.card.processor.cpu.r ≡ 0x7F
  pub ei_after : t.card.processor.cpu.ei ≡ false

-- What the NOP leaves: no line was acknowledged.
pub record Executes (t : Turn Asking) : Type 0 where
  pub time : t.answer ≡ Ok (record { cycles = 1; states = 3 })
  pub acknowledged : t.card.panel.acknowledged ≡ None
  pub pc_after : t.card.processor.cpu.pc ≡ 0x1001
  pub mode_after : t.card.processor.cpu.mode ≡ Running
  pub r_after : t.card.processor.cpu.r ≡ 0x00

-- What an idle step leaves: nothing was read, and the card stays as it is.
pub record Idles (mode : Mode) (t : Turn Asking) : Type 0 where
  pub time : t.answer ≡ Ok (record { cycles = 1; states = 3 })
  pub acknowledged : t.card.panel.acknowledged ≡ None
  pub told : t.card.panel.told ≡ 3
  pub pc_after : t.card.processor.cpu.pc ≡ 0x1000
  pub mode_after : t.card.processor.cpu.mode ≡ mode
  pub r_after : t.card.processor.cpu.r ≡ 0x7F

abbrev pub nobody : Asking
nobody = panel_asks false false false false 0xFF

abbrev pub everybody : Asking
everybody = panel_asks true true true true 0xFF

-- A full panel.
abbrev pub full_panel : Asking
full_panel = record { nmi = true; int0 = true; int1 = true; int2 = true; full = true; byte = 0xC3; acknowledged = None; told = 0 }

pub record Entries : Type 0 where
  -- NMI comes first, and IEF2 keeps IEF1; a second one loses it
  pub nmi : Enters Nmi 3 11 0x0066 true (stepping ready everybody)
  pub nmi_again : Enters Nmi 3 11 0x0066 false (stepping (with_ief1 false (with_ief2 true ready)) everybody)
  -- INT0 in mode 0 acts as the restart that its byte is
  pub mode_0 : Enters Int0 3 11 0x0018 false (stepping (with_ief2 true ready) (panel_asks false true true true 0xDF))
  pub mode_0_first : Enters Int0 3 11 0x0000 false (stepping ready (panel_asks false true false false 0xC7))
  pub mode_1 : Enters Int0 3 11 0x0038 false (stepping (with_ief2 true (with_im One ready)) (panel_asks false true true true 0x00))
  -- in mode 2 the byte is used whole, also an odd one
  pub mode_2 : Enters Int0 5 18 0x4433 false (stepping (with_ief2 true (with_im Two ready)) (panel_asks false true true true 0xFF))
  pub mode_2_even : Enters Int0 5 18 0x2222 false (stepping (with_im Two ready) (panel_asks false true false false 0xE2))
  -- INT1 and INT2 go by I and IL in every mode
  pub int1 : Enters Int1 5 18 0x1111 false (stepping (with_ief2 true ready) (panel_asks false false true true 0xFF))
  pub int1_mode_1 : Enters Int1 5 18 0x1111 false (stepping (with_im One ready) (panel_asks false false true true 0xFF))
  pub int2 : Enters Int2 5 18 0x2222 false (stepping (with_ief2 true ready) (panel_asks false false false true 0xFF))
  -- a line that ITC does not enable is passed over
  pub passes_int0 : Enters Int1 5 18 0x1111 false (stepping (with_itc 0x3E ready) (panel_asks false true true true 0xFF))
  pub passes_int1 : Enters Int2 5 18 0x2222 false (stepping (with_itc 0x3C ready) (panel_asks false true true true 0xFF))
  -- an entry wakes a card that is halted or asleep
  pub halted_int0 : Enters Int0 3 11 0x0038 false (stepping (with_mode Halted (with_im One ready)) (panel_asks false true false false 0xFF))
  pub asleep_int1 : Enters Int1 5 18 0x1111 false (stepping (with_mode Asleep ready) (panel_asks false false true false 0xFF))
  pub asleep_nmi : Enters Nmi 3 11 0x0066 false (stepping (with_mode Asleep (with_ief1 false ready)) everybody)
  -- EI before shuts out the others, but not NMI
  pub ei_nmi : Enters Nmi 3 11 0x0066 true (stepping (with_ei true ready) everybody)

pub record Instead : Type 0 where
  -- no line is accepted: none is asked for, none enabled, IEF1 is 0, or the step before was EI
  pub none_asked : Executes (stepping ready nobody)
  pub none_enabled : Executes (stepping (with_itc 0x38 ready) (panel_asks false true true true 0xFF))
  pub ief1_down : Executes (stepping (with_ief1 false ready) (panel_asks false true true true 0xFF))
  pub ei_before : Executes (stepping (with_ei true ready) (panel_asks false true true true 0xFF))
  -- asleep with IEF1 = 0, an enabled line wakes the card, and is not accepted
  pub wakes_int0 : Executes (stepping (with_mode Asleep (with_ief1 false ready)) (panel_asks false true false false 0x00))
  pub wakes_int1 : Executes (stepping (with_mode Asleep (with_ief1 false ready)) (panel_asks false false true false 0xFF))
  pub wakes_int2 : Executes (stepping (with_mode Asleep (with_ief1 false ready)) (panel_asks false false false true 0xFF))
  -- nothing wakes these
  pub halted : Idles Halted (stepping (with_mode Halted ready) nobody)
  pub halted_masked : Idles Halted (stepping (with_mode Halted (with_ief1 false ready)) (panel_asks false true true true 0xFF))
  pub asleep : Idles Asleep (stepping (with_mode Asleep ready) nobody)
  pub asleep_disabled : Idles Asleep (stepping (with_mode Asleep (with_itc 0x38 (with_ief1 false ready))) (panel_asks false true true true 0xFF))
  -- denied: a full panel before all else, and in mode 0 a byte that is no restart; the card stays
  pub full_answer : (stepping ready full_panel).answer ≡ Err (record { denial = numbered 8; pc = 0x1000 })
  pub full_card : (stepping ready full_panel).card.processor.cpu ≡ ready
  pub jump_answer : (stepping ready (panel_asks false true false false 0xC3)).answer ≡ Err (record { denial = numbered 9; pc = 0x1000 })
  pub jump_card : (stepping ready (panel_asks false true false false 0xC3)).card.processor.cpu ≡ ready
  pub jump_panel : (stepping ready (panel_asks false true false false 0xC3)).card.panel ≡ panel_asks false true false false 0xC3
