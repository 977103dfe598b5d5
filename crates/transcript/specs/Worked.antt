-- Worked lines, one of each kind at least. Assumes nothing.
use Rattle.std.specs.Prelude.{◌≡◌, ◌+◌, true, false, ◌||◌, [], ◌∷◌, Some, None, Ok, Err, codes, ◌==◌}
use Rattle.denial.specs.Denials.{numbered}
use Rattle.memory.specs.Memory.{Mem}
use Rattle.panel.specs.Chains.{chain_written, new_chain, with_key, with_latch}
use Rattle.panel.specs.Script.{new_script, with_acknowledged, with_place, with_told, with_write}
use Rattle.registers.specs.declared.registers.InterruptMode.TheVariants.{Two}
use Rattle.registers.specs.declared.registers.Mode.TheVariants.{Asleep}
use Rattle.registers.specs.declared.registers.Registers.{Registers}
use Rattle.arithmetic.specs.Flags.{from}
use Rattle.processor.specs.Log.{made, stepped, ran, was_reset, saw}
use Rattle.processor.specs.Run.{fault, halted}
use Rattle.processor.specs.Step.{Faulted}
use Rattle.transcript.specs.Denials.{denial_text}
use Rattle.transcript.specs.Answers.{answer_text}
use Rattle.transcript.specs.Panels.{chain_panel_text, script_panel_text}
use Rattle.transcript.specs.Registers.{processor_text}
use Rattle.transcript.specs.Memory.{memory_text}
use Rattle.transcript.specs.Shown.{card_text}
use Rattle.transcript.specs.Opened.{opened_text}
use Rattle.transcript.specs.Compared.{compared_text}

abbrev pub full_panel : Faulted
full_panel = record { denial = numbered 8; pc = 0x8A4 }

pub record WorkedAnswers : Type 0 where
  pub step : answer_text (stepped (Ok (record { cycles = 4; states = 13 }))) ≡ codes "step cycles=4 states=13"
  pub denied_step : answer_text (stepped (Err full_panel)) ≡ codes "denied 8 panel pc=08A4"
  pub run : answer_text (ran (Ok (record { stop = halted; steps = 3; tally = record { cycles = 8; states = 22 }; fault = None }))) ≡ codes "run stop=halted steps=3 cycles=8 states=22"
  pub faulted_run : answer_text (ran (Ok (record { stop = fault; steps = 12; tally = record { cycles = 30; states = 105 }; fault = Some full_panel }))) ≡ codes "run stop=fault steps=12 cycles=30 states=105 denied 8 panel pc=08A4"
  pub denied_run : answer_text (ran (Err (numbered 6))) ≡ codes "denied 6 card"
  pub reset : answer_text was_reset ≡ codes "reset"
  pub look : answer_text (saw (Ok (0x3E ∷ 0x05 ∷ 0xFF ∷ []))) ≡ codes "look 3E 05 FF"
  pub look_at_nothing : answer_text (saw (Ok [])) ≡ codes "look"
  pub denied_look : answer_text (saw (Err (numbered 7))) ≡ codes "denied 7 card"
  -- of a making, and of a write or a read by the host
  pub denied_making : denial_text (numbered 4) ≡ codes "denied 4 making"
  pub denied_read : denial_text (numbered 5) ≡ codes "denied 5 memory"
  pub alike : compared_text None ≡ codes "alike"
  -- the first line is 1
  pub differs : compared_text (Some 0) ≡ codes "differs at line 1"
  pub differs_later : compared_text (Some 41) ≡ codes "differs at line 42"
  -- pages 0, 15 and 127; and none
  pub opened : opened_text (λ page. (page == 0) || ((page == 15) || (page == 127))) ≡ codes "opened 00 0F 7F"
  pub none_opened : opened_text (λ page. page == 128) ≡ codes "opened"

-- The characters 1 to 9 at the first nine addresses, of which CRC-32 has a published value.
abbrev pub digits : Mem
digits = record { byte = λ a. 49 + a; takes = λ _. true }

-- Registers that all differ.
abbrev pub worked_registers : Registers
worked_registers = record {
  main = record { a = 0x12; f = from 0xD7; b = 0x34; c = 0x56; d = 0x78; e = 0x9A; h = 0xBC; l = 0xDE };
  alternate = record { a = 0x21; f = from 0x00; b = 0x43; c = 0x65; d = 0x87; e = 0xA9; h = 0xCB; l = 0xED };
  ix = 0x1001;
  iy = 0x2002;
  sp = 0xFFFE;
  pc = 0x0100;
  i = 0x3C;
  r = 0x8F;
  ief1 = false;
  ief2 = true;
  im = Two;
  mode = Asleep;
  ei = false;
  il = 0xE0;
  itc = 0x3B;
  icr = 0x5F;
}

pub record WorkedCards : Type 0 where
  pub registers : processor_text (record { cpu = worked_registers; window = record { cbar = 0x84; cbr = 0x71; bbr = 0x0B } }) ≡ codes "af=12D7 bc=3456 de=789A hl=BCDE ix=1001 iy=2002 sp=FFFE pc=0100\naf'=2100 bc'=4365 de'=87A9 hl'=CBED\ni=3C r=8F ief1=0 ief2=1 im=2 mode=asleep ei=0\nil=E0 itc=3B cbr=71 bbr=0B cbar=84 icr=5F\n"
  -- two writes are recorded; the key byte is 05H and the latch is set
  pub chain : chain_panel_text (with_latch true (with_key 5 (chain_written (chain_written (new_chain 63) 0x80 0x41) 0x1282 0xFF))) ≡ codes "chain used=2 of=63 key=05 latch=1\npen 1 0080 41 0\ny 2 1282 FF 0\n"
  -- one byte of three is read, 300 states told, INT0 acknowledged, and 06H written to port 8042H
  pub script : script_panel_text (with_place 1 (with_told 300 (with_acknowledged (with_write (record { port = 0x8042; byte = 6 }) (new_script (7 ∷ 8 ∷ 9 ∷ []) 256 0xC7))))) ≡ codes "script read=1 of=3 told=300 acknowledged=1 last=8042:06\n"
  pub new_script_panel : script_panel_text (new_script [] 1 0xFF) ≡ codes "script read=0 of=0 told=0 acknowledged=0 last=none\n"
  pub memory : memory_text digits 9 ≡ codes "memory crc=CBF43926"
  -- a new card
  pub card : card_text chain_panel_text 9 (made digits (new_chain 1)) ≡ codes "af=0000 bc=0000 de=0000 hl=0000 ix=0000 iy=0000 sp=0000 pc=0000\naf'=0000 bc'=0000 de'=0000 hl'=0000\ni=00 r=00 ief1=0 ief2=0 im=0 mode=running ei=0\nil=00 itc=39 cbr=00 bbr=00 cbar=F0 icr=1F\nchain used=0 of=1 key=00 latch=0\nmemory crc=CBF43926\n"
