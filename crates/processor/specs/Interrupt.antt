-- Interrupts: which line is accepted, and how it is served. Assumes nothing.
use Rattle.std.specs.Prelude.{ℕ, ◌+◌, ◌*◌, ◌/◌, ◌%◌, Bool, false, cond, not, ◌&&◌, is_some, Some, None, Option, ◌==◌}
use Rattle.arithmetic.specs.Flags.{has, odd}
use Rattle.panel.specs.declared.line.Line.{Line}
use Rattle.panel.specs.declared.line.Line.TheVariants.{Int0, Int1, Int2, Nmi}
use Rattle.panel.specs.Panel.{Make}
use Rattle.registers.specs.declared.registers.InterruptMode.{InterruptMode}
use Rattle.registers.specs.declared.registers.InterruptMode.TheVariants.{One, Two, Zero}
use Rattle.registers.specs.declared.registers.Mode.{Mode}
use Rattle.registers.specs.declared.registers.Mode.TheVariants.{Asleep, Halted, Running}
use Rattle.registers.specs.declared.registers.Registers.{Registers}
use Rattle.registers.specs.Ports.{on_cpu}
use Rattle.registers.specs.Registers.{Processor, up, with_ief1, with_ief2, with_mode, with_pc}
use Rattle.cycles.specs.Tree.{Cycles, Cycles.acknowledge, Cycles.done, Cycles.internal}
use Rattle.processor.specs.Call.{enter}
use Rattle.processor.specs.Instruction.{executed}
use Rattle.processor.specs.Parts.{finish, push, read_word}

-- The first of INT0, INT1 and INT2 that is asked for and that ITC enables.
abbrev pub enabled : {S : Type 0} → Make S → S → Registers → Option Line
enabled make s cpu =
    cond (odd cpu.itc && make.asks s Int0) (Some Int0)
    (cond (has 2 cpu.itc && make.asks s Int1) (Some Int1)
    (cond (has 4 cpu.itc && make.asks s Int2) (Some Int2) None))

-- NMI is always accepted; the others need IEF1, and that the step before was not EI.
abbrev pub accepted : {S : Type 0} → Make S → S → Registers → Option Line
accepted make s cpu = cond (make.asks s Nmi) (Some Nmi) (cond (cpu.ief1 && not cpu.ei) (enabled make s cpu) None)

-- A sleeping card with IEF1 = 0 wakes when an enabled line is asked for, and accepts nothing.
abbrev pub wakes : {S : Type 0} → Make S → S → Registers → Bool
wakes make s cpu = not cpu.ief1 && is_some (enabled make s cpu)

-- A restart instruction, by its code: C7H, CFH and so on to FFH.
abbrev pub is_restart : ℕ → Bool
is_restart b = b / 64 == 3 && b % 8 == 7

-- PC is pushed and read from a table in memory, low byte first.
abbrev pub vectored : ℕ → Processor → Cycles Processor 2
vectored a p = push p.cpu.pc p (λ q. read_word a (λ v. finish (with_pc v) q))

abbrev pub masked : Processor → Processor
masked p = on_cpu (λ s. with_ief1 false (with_ief2 false s)) p

-- INT0 with the panel's byte: a restart in mode 0, 0038H in mode 1, by the table at I x 256 in mode 2.
abbrev pub int0 : InterruptMode → ℕ → Processor → Cycles Processor 2
int0 Zero b p = acknowledge Int0 5 (enter (b / 8 % 8 * 8) p)
int0 One b p = acknowledge Int0 5 (enter 0x38 p)
int0 Two b p = acknowledge Int0 6 (vectored (up (p.cpu.i * 256) b) p)

-- The service of an accepted line; byte is the panel's INT0 byte as the step began.
abbrev pub served : Line → ℕ → Processor → Cycles Processor 2
served Nmi byte p = acknowledge Nmi 5 (enter 0x66 (on_cpu (λ s. with_ief1 false (with_ief2 s.ief1 s)) p))
served Int0 byte p = int0 p.cpu.im byte (masked p)
served Int1 byte p = acknowledge Int1 6 (vectored (up (p.cpu.i * 256) p.cpu.il) (masked p))
served Int2 byte p = acknowledge Int2 6 (vectored (up (p.cpu.i * 256) (p.cpu.il + 2)) (masked p))

-- Halted and asleep, a card reads nothing and takes one cycle of three states.
abbrev pub idle : Processor → Cycles Processor 2
idle p = internal 3 (done p)

abbrev pub awake : Processor → Processor
awake p = on_cpu (with_mode Running) p

-- The cycles of a step, by the mode that the card is in and the line that it accepts; wake says whether it wakes without one.
abbrev pub turned : Mode → Option Line → Bool → ℕ → Processor → Cycles Processor 2
turned Running (Some line) wake byte p = served line byte p
turned Running None wake byte p = executed p
turned Halted (Some line) wake byte p = served line byte (awake p)
turned Halted None wake byte p = idle p
turned Asleep (Some line) wake byte p = served line byte (awake p)
turned Asleep None wake byte p = cond wake (executed (awake p)) (idle p)
