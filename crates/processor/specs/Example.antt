-- What isolation presumes can be met: a log with a step, a run of several steps that changes the window, a denied run, a reset and
-- a look, and a set of 19 of the 128 pages. Assumes nothing.
use Rattle.std.specs.Prelude.{◌≡◌, ℕ, Bool, cond, List, [], ◌∷◌, None, Ok, Err, ◌==◌, nat_lt}
use Rattle.denial.specs.Denials.{numbered}
use Rattle.memory.specs.Memory.{Mem, is_address}
use Rattle.panel.specs.Script.{State, new_script, script_make}
use Rattle.registers.specs.Registers.{fresh_window}
use Rattle.processor.specs.Isolation.{StaysWithin}
use Rattle.processor.specs.Log.{Answer.ran, Call, Call.looking, Call.resetting, Call.running, Call.stepping, made, serve}
use Rattle.processor.specs.Run.{Stop.halted}
use Rattle.processor.specs.Step.{Model}

-- NOP; LD A,04H; OUT0 (39H),A, which puts 04H into BBR, so that the next instruction comes from page 4; there HALT.
abbrev pub program : Mem
program = record {
  byte = λ a.
      cond (a == 1) 0x3E (cond (a == 2) 0x04 (cond (a == 3) 0xED (cond (a == 4) 0x39 (cond (a == 5) 0x39 (cond (a == 0x4006) 0x76 0)))));
  takes = is_address;
}

-- Pages 0 to 18.
abbrev pub low_pages : ℕ → Bool
low_pages q = nat_lt q 19

abbrev pub calls : List Call
calls = stepping ∷ running 100 ∷ running 0 ∷ resetting ∷ looking fresh_window 0x4000 16 ∷ []

abbrev pub quiet : State
quiet = new_script [] 4294967295 0

abbrev pub card : Model State
card = made program quiet

-- The card after its first step, and after its run.
abbrev pub stepped_card : Model State
stepped_card = (serve script_make stepping card).card

pub record PresumptionMet : Type 0 where
  pub stays : StaysWithin low_pages script_make calls card
  -- the run takes three steps, of 22 states, and leaves another window than it began with
  pub runs : (serve script_make (running 100) stepped_card).answer ≡ ran (Ok (record { stop = halted; steps = 3; tally = record { cycles = 8; states = 22 }; fault = None }))
  pub moves : (serve script_make (running 100) stepped_card).card.processor.window.bbr ≡ 4
  pub denies : (serve script_make (running 0) stepped_card).answer ≡ ran (Err (numbered 6))
