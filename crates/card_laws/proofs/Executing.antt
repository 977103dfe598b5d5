-- A step that executes, as the play of its instruction. Assumes nothing.
use Rattle.std.proofs.Common.{◌≡◌, ℕ, Bool, true, false, cond, not, ◌&&◌, Some, None, Ok, Option, refl, ap, ◌∙◌}
use borrow.Author.Tests.{both_ways}
use Rattle.arithmetic.specs.Flags.{has, odd}
use Rattle.memory.specs.Memory.{Mem}
use Rattle.panel.specs.declared.line.Line.{Line}
use Rattle.panel.specs.declared.line.Line.TheVariants.{Int0, Int1, Int2, Nmi}
use Rattle.panel.specs.Panel.{Make}
use Rattle.registers.specs.declared.registers.Mode.{Mode}
use Rattle.registers.specs.declared.registers.Mode.TheVariants.{Asleep, Halted, Running}
use Rattle.registers.specs.declared.registers.Registers.{Registers}
use Rattle.registers.specs.Ports.{on_cpu}
use Rattle.registers.specs.Registers.{Processor, with_ei, with_mode}
use Rattle.cycles.specs.Play.{Tally, no_time, play, world}
use Rattle.processor.specs.Instruction.{executed}
use Rattle.processor.specs.Interrupt.{accepted, turned, wakes}
use Rattle.processor.specs.Step.{Model, Turn, began, denied, ended, no_restart, step}
use Rattle.card_laws.specs.Every.{Takes, total}
use Rattle.card_laws.specs.Executes.{Executes, Quiet, goes}

-- the processor as its instruction begins
abbrev pub started : Mode → Processor → Processor
started mode p = on_cpu (λ s. with_mode mode (with_ei false s)) p

module _ {S : Type 0} (make : Make S) where
  abbrev pub execution : Model S → Turn S
  execution c = ended make (play make (began c) (executed (started Running c.processor)) (world c.mem c.panel no_time))

  by_mode : (c : Model S) (b : ℕ) (mode : Mode) (wake : Bool) → goes mode wake ≡ true → ended make (play make (began c) (turned mode None wake b (started mode c.processor)) (world c.mem c.panel no_time)) ≡ execution c
  by_mode c b Running wake e = refl
  by_mode c b Halted wake e = absurd (both_ways false refl e)
  by_mode c b Asleep true e = refl
  by_mode c b Asleep false e = absurd (both_ways false refl e)

  abbrev by_tests : Bool → Option Line → Model S → Turn S
  by_tests full line c =
      cond full (denied 8 c)
      (cond (no_restart line c.processor.cpu.im (make.int0_byte c.panel)) (denied 9 c)
      (ended make (play make (began c) (turned c.processor.cpu.mode line (wakes make c.panel c.processor.cpu) (make.int0_byte c.panel) (on_cpu (with_ei false) c.processor)) (world c.mem c.panel no_time))))

  pub executing : (c : Model S) → Executes make c → step make c ≡ execution c
  executing c h =
      (λ i. by_tests (h.room i) (h.no_line i) c) ∙ by_mode c (make.int0_byte c.panel) c.processor.cpu.mode (wakes make c.panel c.processor.cpu) h.going

-- the time of an instruction, and a step that executes takes the time of its instruction
abbrev pub spent : {S : Type 0} → Make S → Model S → Tally
spent make c = (play make (began c) (executed c.processor) (world c.mem c.panel no_time)).world.tally

abbrev pub begun : {S : Type 0} → Model S → Model S
begun c = record { processor = started Running c.processor; mem = c.mem; panel = c.panel }

pub step_takes : {S : Type 0} (make : Make S) (c : Model S) → Executes make c → (e : ℕ) → spent make (begun c) ≡ total e → Takes make c e
step_takes make c h e time = ap (λ t. t.answer) (executing make c h) ∙ ap Ok time

-- a quiet panel has no line accepted
no_enabled : (a b c : Bool) → cond (a && false) (Some Int0) (cond (b && false) (Some Int1) (cond (c && false) (Some Int2) None)) ≡ None
no_enabled true true true = refl
no_enabled true true false = refl
no_enabled true false true = refl
no_enabled true false false = refl
no_enabled false true true = refl
no_enabled false true false = refl
no_enabled false false true = refl
no_enabled false false false = refl

no_choice : (x : Bool) → ◌≡◌ {A = Option Line} (cond x None None) None
no_choice true = refl
no_choice false = refl

module _ {S : Type 0} (make : Make S) (s : S) (quiet : Quiet make s) where
  pub none_accepted : (cpu : Registers) → accepted make s cpu ≡ None
  none_accepted cpu =
      (λ i. cond (quiet.silent Nmi i) (Some Nmi) (cond (cpu.ief1 && not cpu.ei) (cond (odd cpu.itc && quiet.silent Int0 i) (Some Int0) (cond (has 2 cpu.itc && quiet.silent Int1 i) (Some Int1) (cond (has 4 cpu.itc && quiet.silent Int2 i) (Some Int2) None))) None))
      ∙ ((λ i. cond (cpu.ief1 && not cpu.ei) (no_enabled (odd cpu.itc) (has 2 cpu.itc) (has 4 cpu.itc) i) None) ∙ no_choice (cpu.ief1 && not cpu.ei))

  -- so a running card executes
  pub runs : (p : Processor) (m : Mem) → p.cpu.mode ≡ Running → Executes make (record { processor = p; mem = m; panel = s })
  runs p m e = record { room = quiet.room; no_line = none_accepted p.cpu; going = ap (λ mode. goes mode (wakes make s p.cpu)) e }
