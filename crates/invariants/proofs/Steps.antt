-- The laws of a step, from one walk over its tree. Assumes nothing.
use Rattle.std.proofs.Common.{◌≡◌, ℕ, Bool, true, false, Some, None, Ok, Err, Option, refl, subst, arith}
use Rattle.panel.specs.declared.line.Line.{Line}
use Rattle.panel.specs.declared.line.Line.TheVariants.{Int0, Int1, Int2, Nmi}
use Rattle.panel.specs.Panel.{Make}
use Rattle.registers.specs.declared.registers.InterruptMode.{InterruptMode}
use Rattle.registers.specs.declared.registers.InterruptMode.TheVariants as im
use Rattle.registers.specs.declared.registers.Mode.{Mode}
use Rattle.registers.specs.declared.registers.Mode.TheVariants.{Asleep, Halted, Running}
use Rattle.registers.specs.Ports.{on_cpu}
use Rattle.registers.specs.Registers.{Processor, up, with_ei}
use Rattle.beginning.specs.Beginning.{beginning}
use Rattle.cycles.specs.Play.{Began, Tally, World, no_time, world}
use Rattle.processor.specs.Instruction.{executed}
use Rattle.processor.specs.Interrupt as interrupt
use Rattle.processor.specs.Step.{Faulted, Model, began, cycles_of}
use Rattle.processor.proofs.Steps.{bad_byte, by_tests}
use Rattle.invariants.specs.Executing.{executed_by, executing}
use Rattle.invariants.specs.Fetches.{FetchesInOrder, bytes_in}
use Rattle.invariants.specs.Refresh.{RefreshKept}
use Rattle.invariants.specs.Room.{OutputRoom, StepFindsRoom}
use Rattle.invariants.specs.Spare.{SpareKept}
use Rattle.invariants.proofs.Executed.{Goes, code_from, executed_goes, from}
use Rattle.invariants.proofs.Kept.{Keeps, Same, keeps, same, then}
use Rattle.invariants.proofs.Orderly as orderly
use Rattle.invariants.proofs.Orderly.{Room}

module _ {S : Type 0} (make : Make S) (at : Began) (s : S) where
  int0 : (mode : InterruptMode) (byte : ℕ) (p q : Processor) (v : World S) → Same p.cpu q.cpu → Goes make at s None p 0 p.cpu.pc (interrupt.int0 mode byte q) v
  int0 im.Zero byte p q v h = keeps (then h (same refl refl refl))
  int0 im.One byte p q v h = keeps (then h (same refl refl refl))
  int0 im.Two byte p q v h = keeps (then h (same refl refl refl))

  served : (line : Line) (byte : ℕ) (p q : Processor) (v : World S) → Same p.cpu q.cpu → Goes make at s None p 0 p.cpu.pc (interrupt.served line byte q) v
  served Nmi byte p q v h = keeps (then h (same refl refl refl))
  served Int0 byte p q v h = int0 q.cpu.im byte p (interrupt.masked q) v (then h (same refl refl refl))
  served Int1 byte p q v h = keeps (then h (same refl refl refl))
  served Int2 byte p q v h = keeps (then h (same refl refl refl))

  turned : (mode : Mode) (line : Option Line) (wake : Bool) (byte : ℕ) (p : Processor) (v : World S) → Room make at s v → Goes make at s (executing mode line wake (beginning (code_from make at s p v (up (up (up p.cpu.pc 1) 1) 1)))) p 0 p.cpu.pc (interrupt.turned mode line wake byte p) v
  turned Running (Some line) wake byte p v room = served line byte p p v (same refl refl refl)
  turned Running None wake byte p v room = executed_goes make at s p v room
  turned Halted (Some line) wake byte p v room = served line byte p (interrupt.awake p) v (same refl refl refl)
  turned Halted None wake byte p v room = keeps (same refl refl refl)
  turned Asleep (Some line) wake byte p v room = served line byte p (interrupt.awake p) v (same refl refl refl)
  turned Asleep None true byte p v room =
      from make at s (Some (beginning (code_from make at s p v (up (up (up p.cpu.pc 1) 1) 1)))) p (interrupt.awake p) 0 p.cpu.pc (executed (interrupt.awake p)) v (same refl refl refl) (executed_goes make at s (interrupt.awake p) v room)
  turned Asleep None false byte p v room = keeps (same refl refl refl)

never : (cost : Tally) (why : Faulted) → Err why ≡ Ok cost → ⊥
never cost why h = let z : ◌≡◌ {A = ℕ} 0 1 = cc in omega arith

module _ {S : Type 0} (make : Make S) where
  goes : (c : Model S) → Goes make (began c) c.panel (executed_by make c) c.processor 0 c.processor.cpu.pc (cycles_of make c) (world c.mem c.panel no_time)
  goes c =
      let p = on_cpu (with_ei false) c.processor in
      let pc = c.processor.cpu.pc in
      let v = world c.mem c.panel no_time in
      let mode = c.processor.cpu.mode in
      let line = interrupt.accepted make c.panel c.processor.cpu in
      let wake = interrupt.wakes make c.panel c.processor.cpu in
      let on : up (up (up pc 1) 1) 1 ≡ up pc 3 = omega arith in
      from make (began c) c.panel (executed_by make c) c.processor p 0 pc (cycles_of make c) v (same refl refl refl)
      (subst (λ last. Goes make (began c) c.panel (executing mode line wake (beginning (code_from make (began c) c.panel p v last))) p 0 pc (cycles_of make c) v) on
      (turned make (began c) c.panel mode line wake (make.int0_byte c.panel) p v (λ h. h)))

  kept : (c : Model S) (full bad : Bool) → Keeps (executed_by make c) c.processor.cpu (by_tests make full bad c).card.processor.cpu
  kept c true bad = keeps (same refl refl refl)
  kept c false true = keeps (same refl refl refl)
  kept c false false =
      orderly.value make (began c) c.panel (λ q. Keeps (executed_by make c) c.processor.cpu q.cpu) (bytes_in (executed_by make c)) 0 c.processor.cpu.pc (cycles_of make c) (world c.mem c.panel no_time) (goes c)

  pub refresh : RefreshKept make
  refresh c other = (kept c (make.full c.panel) (bad_byte make c)).refresh other

  pub spare : SpareKept make
  spare c pop ex = (kept c (make.full c.panel) (bad_byte make c)).spare pop ex

  pub fetches : FetchesInOrder make
  fetches c =
      orderly.fetches make (began c) c.panel (λ q. Keeps (executed_by make c) c.processor.cpu q.cpu) (bytes_in (executed_by make c)) 0 c.processor.cpu.pc c.processor.cpu.pc (cycles_of make c) (world c.mem c.panel no_time) (omega arith) (goes c)

  not_full : (c : Model S) (cost : Tally) (full bad : Bool) → (by_tests make full bad c).answer ≡ Ok cost → full ≡ false
  not_full c cost true bad h = absurd (never cost _ h)
  not_full c cost false bad h = refl

  pub room : OutputRoom make
  room =
      let open_panel : (c : Model S) → make.full c.panel ≡ false → StepFindsRoom make c = λ c h. orderly.room make (began c) c.panel (λ q. Keeps (executed_by make c) c.processor.cpu q.cpu) (bytes_in (executed_by make c)) 0 c.processor.cpu.pc (cycles_of make c) (world c.mem c.panel no_time) h (goes c) in
      record {
        not_full = open_panel;
        not_denied = λ c cost h. open_panel c (not_full c cost (make.full c.panel) (bad_byte make c) h);
      }
