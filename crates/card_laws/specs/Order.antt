-- The order in which a step uses memory. Assumes nothing.
use Rattle.std.specs.Prelude.{◌≡◌, ℕ, true, false, List, [], ◌∷◌}
use Rattle.panel.specs.Panel.{Make}
use Rattle.panel.specs.Script.{script_make}
use Rattle.registers.specs.declared.registers.Mode.TheVariants.{Asleep, Halted}
use Rattle.registers.specs.Registers.{Processor, with_mode}
use Rattle.cycles.specs.Play.{Began, World, answer_of, byte_at, no_time, world, world_after}
use Rattle.cycles.specs.Tree.{Cycles, Cycles.done, Cycles.fetch, Cycles.read, Cycles.write, Cycles.input, Cycles.output, Cycles.acknowledge, Cycles.internal}
use Rattle.processor.specs.Step.{Model, began, cycles_of}
use Rattle.processor_laws.specs.Bench.{card, memory_with, quiet}
use Rattle.processor_laws.specs.Examples.{filled}
use Rattle.processor_laws.specs.Interrupts.{asking_make, nobody, panel_asks, ready}

-- The logical addresses that a row of cycles uses, in order.
abbrev pub used : {S : Type 0} {n : ℕ} → Make S → Began → Cycles Processor n → World S → List ℕ
used make w (done p) v = []
used make w (fetch code a next) v = a ∷ used make w (next (byte_at w a v)) (world_after make w (fetch code a next) v)
used make w (read a next) v = a ∷ used make w (next (byte_at w a v)) (world_after make w (read a next) v)
used make w (write a b next) v = a ∷ used make w next (world_after make w (write a b next) v)
used make w (input p next) v = used make w (next (answer_of make v.panel p)) (world_after make w (input p next) v)
used make w (output p b next) v = used make w next (world_after make w (output p b next) v)
used make w (acknowledge line states next) v = used make w next (world_after make w (acknowledge line states next) v)
used make w (internal states next) v = used make w next (world_after make w (internal states next) v)

abbrev pub used_by : {S : Type 0} → Make S → Model S → List ℕ
used_by make c = used make (began c) (cycles_of make c) (world c.mem c.panel no_time)

abbrev pub addresses : List ℕ → List ℕ
addresses bytes = used_by script_make (card (filled 0x12FF) (memory_with bytes []) quiet)

pub record Orders : Type 0 where
  -- PUSH BC: the high byte first
  pub push : addresses (0xC5 ∷ []) ≡ (0x1000 ∷ 0x8FFF ∷ 0x8FFE ∷ [])
  -- POP BC: the low byte first
  pub pop : addresses (0xC1 ∷ []) ≡ (0x1000 ∷ 0x9000 ∷ 0x9001 ∷ [])
  -- EX (SP),HL reads low and high, and writes high and low
  pub exchange : addresses (0xE3 ∷ []) ≡ (0x1000 ∷ 0x9000 ∷ 0x9001 ∷ 0x9001 ∷ 0x9000 ∷ [])
  -- CALL reads both bytes of the address before it pushes
  pub call : addresses (0xCD ∷ 0x34 ∷ 0x12 ∷ []) ≡ (0x1000 ∷ 0x1001 ∷ 0x1002 ∷ 0x8FFF ∷ 0x8FFE ∷ [])
  -- LD (2FFFH),HL and LD HL,(2FFFH): the low byte first
  pub to_address : addresses (0x22 ∷ 0xFF ∷ 0x2F ∷ []) ≡ (0x1000 ∷ 0x1001 ∷ 0x1002 ∷ 0x2FFF ∷ 0x3000 ∷ [])
  pub from_address : addresses (0x2A ∷ 0xFF ∷ 0x2F ∷ []) ≡ (0x1000 ∷ 0x1001 ∷ 0x1002 ∷ 0x2FFF ∷ 0x3000 ∷ [])
  -- LD (IX+2),n reads the displacement, then n
  pub to_indexed : addresses (0xDD ∷ 0x36 ∷ 0x02 ∷ 0x77 ∷ []) ≡ (0x1000 ∷ 0x1001 ∷ 0x1002 ∷ 0x1003 ∷ 0x3002 ∷ [])
  -- RLC (IX+2) reads and writes once
  pub modified : addresses (0xDD ∷ 0xCB ∷ 0x02 ∷ 0x06 ∷ []) ≡ (0x1000 ∷ 0x1001 ∷ 0x1002 ∷ 0x1003 ∷ 0x3002 ∷ 0x3002 ∷ [])
  -- LDI reads (HL) and writes (DE)
  pub block : addresses (0xED ∷ 0xA0 ∷ []) ≡ (0x1000 ∷ 0x1001 ∷ 0x2000 ∷ 0x789A ∷ [])
  -- CALL NZ not taken, as Z is 1, reads the low byte only
  pub not_called : addresses (0xC4 ∷ 0x34 ∷ 0x12 ∷ []) ≡ (0x1000 ∷ 0x1001 ∷ [])
  -- a trap on the third opcode byte does not read (IX+2)
  pub trap : addresses (0xDD ∷ 0xCB ∷ 0x02 ∷ 0x30 ∷ []) ≡ (0x1000 ∷ 0x1001 ∷ 0x1002 ∷ 0x1003 ∷ 0x8FFF ∷ 0x8FFE ∷ [])
  -- INT1 pushes PC before it reads the table
  pub vectored : used_by asking_make (card ready (memory_with [] []) (panel_asks false false true false 0xFF)) ≡ (0x8FFF ∷ 0x8FFE ∷ 0x20E0 ∷ 0x20E1 ∷ [])
  -- halted, and asleep, with nothing asked for, a card uses no memory
  pub halted : used_by asking_make (card (with_mode Halted ready) (memory_with [] []) nobody) ≡ []
  pub asleep : used_by asking_make (card (with_mode Asleep ready) (memory_with [] []) nobody) ≡ []
