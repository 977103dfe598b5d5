-- Worked numbers, one statement over all of them. Assumes nothing.
use Rattle.std.specs.Prelude.{◌≡◌, ℕ, List, [], ◌∷◌, Some, Ok}
use Rattle.arithmetic.specs.Block.{port_zero}
use Rattle.arithmetic.specs.Decimal.{adjust}
use Rattle.arithmetic.specs.Flags.{byte, from}
use Rattle.arithmetic.specs.Operation.{apply}
use Rattle.arithmetic.specs.declared.flags.Flags.{Flags}
use Rattle.arithmetic.specs.declared.operation.Operation.TheVariants.{Add}
use Rattle.panel.specs.Panel.{Make}
use Rattle.panel.specs.Script.{script_make}
use Rattle.registers.specs.declared.registers.Registers.{Registers}
use Rattle.registers.specs.declared.window.Area.TheVariants.{Common0, Common1}
use Rattle.registers.specs.Operands.{af, hl, with_af, with_bc, with_hl}
use Rattle.registers.specs.Registers.{fresh_window}
use Rattle.registers.specs.Window.{area_of, physical_of, window_48, window_84}
use Rattle.processor.specs.Step.{Turn, step}
use Rattle.processor_laws.specs.Bench.{at_start, card, memory_with, quiet, stacked}
use Rattle.card_laws.specs.Executes.{Quiet}

-- The value and F that an operation gives, as bytes.
abbrev pub bytes : ℕ × Flags → ℕ × ℕ
bytes r = (r.0, byte r.1)

-- One step with any panel.
abbrev pub stepped_with : {S : Type 0} → Make S → S → Registers → List ℕ → Turn S
stepped_with make s cpu bytes = step make (card cpu (memory_with bytes []) s)

-- 7FH + 01H, by ADD A,01H, with F = 00H.
abbrev pub sum : {S : Type 0} → Make S → S → Turn S
sum make s = stepped_with make s (with_af 0x7F00 at_start) (0xC6 ∷ 0x01 ∷ [])

-- DAA with A = 9AH and F = 00H.
abbrev pub adjustment : {S : Type 0} → Make S → S → Turn S
adjustment make s = stepped_with make s (with_af 0x9A00 at_start) (0x27 ∷ [])

-- OTIM with B = 01H, F = 00H, and 80H behind it at HL.
abbrev pub output_block : {S : Type 0} → Make S → S → Turn S
output_block make s = stepped_with make s (with_bc 0x0140 (with_hl 0x1002 at_start)) (0xED ∷ 0x83 ∷ 0x80 ∷ [])

-- ED FF and DD CB 05 30 at 1000H.
abbrev pub second_undefined : {S : Type 0} → Make S → S → Turn S
second_undefined make s = stepped_with make s at_start (0xED ∷ 0xFF ∷ [])

abbrev pub third_undefined : {S : Type 0} → Make S → S → Turn S
third_undefined make s = stepped_with make s at_start (0xDD ∷ 0xCB ∷ 0x05 ∷ 0x30 ∷ [])

-- OUT (38H),A with A = 01H.
abbrev pub output_a : {S : Type 0} → Make S → S → Turn S
output_a make s = stepped_with make s (with_af 0x0100 at_start) (0xD3 ∷ 0x38 ∷ [])

-- LD HL,(3FFFH) where 03FFFH holds 34H, 24000H holds 12H, and 04000H, one physically behind the first, holds 99H.
abbrev pub across_areas : {S : Type 0} → Make S → S → Turn S
across_areas make s = step make (record {
  processor = record { cpu = at_start; window = window_84 };
  mem = memory_with (0x2A ∷ 0xFF ∷ 0x3F ∷ []) ((0x03FFF, 0x34) ∷ (0x24000, 0x12) ∷ (0x04000, 0x99) ∷ []);
  panel = s;
})

pub record WorkedWindows : Type 0 where
  -- CBAR 84H, BBR 20H, CBR 7CH
  pub common_0 : physical_of window_84 0x3FFF ≡ 0x03FFF
  pub bank : physical_of window_84 0x4000 ≡ 0x24000
  pub common_1 : physical_of window_84 0x8000 ≡ 0x04000
  -- CBAR 48H: common area 1 has the first claim
  pub above_ca : area_of window_48 5 ≡ Common1
  pub below_ca : area_of window_48 2 ≡ Common0

-- Each operation from F = 00H: 7FH + 01H, DAA of 9AH, and OTIM's lowering of B = 01H with the byte 80H.
pub record WorkedOperations : Type 0 where
  pub add : bytes (apply Add 0x7F 0x01 (from 0x00)) ≡ (0x80, 0x94)
  pub daa : bytes (adjust 0x9A (from 0x00)) ≡ (0x00, 0x55)
  pub otim : bytes (port_zero 0x01 0x80 (from 0x00)) ≡ (0x00, 0x46)

pub record WorkedSteps {S : Type 0} (make : Make S) (s : S) : Type 0 where
  -- a word from two areas
  pub two_areas : hl (across_areas make s).card.processor.cpu ≡ 0x1234
  -- the same operations as instructions: A and F, and B and F
  pub added : af (sum make s).card.processor.cpu ≡ 0x8094
  pub adjusted : af (adjustment make s).card.processor.cpu ≡ 0x0055
  pub counted : (output_block make s).card.processor.cpu.main.b ≡ 0x00
  pub sent : byte (output_block make s).card.processor.cpu.main.f ≡ 0x46
  -- the stack, ITC, and the time
  pub second_address : stacked (second_undefined make s) ≡ 0x1001
  pub second_itc : (second_undefined make s).card.processor.cpu.itc ≡ 0xB9
  pub second_time : (second_undefined make s).answer ≡ Ok (record { cycles = 4; states = 12 })
  pub third_address : stacked (third_undefined make s) ≡ 0x1002
  pub third_itc : (third_undefined make s).card.processor.cpu.itc ≡ 0xF9
  pub third_time : (third_undefined make s).answer ≡ Ok (record { cycles = 6; states = 18 })
  -- the panel has the write and is told the states, and the window stays
  pub output_port : (output_a make s).card.panel ≡ make.told (make.written s 0x0138 0x01) 10
  pub output_window : (output_a make s).card.processor.window ≡ fresh_window

-- The steps come out so with every make of panel, in every state of it that is not full and asks for no line.
pub record WorkedNumbers {S : Type 0} (make : Make S) : Type 0 where
  pub windows : WorkedWindows
  pub operations : WorkedOperations
  pub steps : (s : S) → Quiet make s → WorkedSteps make s
  -- a new script is in such a state, and keeps what OUT (38H),A writes
  pub quiet_script : Quiet script_make quiet
  pub kept_by_script : (output_a script_make quiet).card.panel.last_write ≡ Some (record { port = 0x0138; byte = 0x01 })
