-- Rows of machine cycles that many instructions share. Each hands what it came to, and the processor then, to what follows.
-- Assumes nothing.
use Rattle.std.specs.Prelude.{ℕ, suc, ◌/◌, ◌%◌, cond}
use Rattle.arithmetic.specs.declared.flags.Flags.{Flags}
use Rattle.registers.specs.declared.operand.Index.{Index}
use Rattle.registers.specs.declared.operand.Register.{Register}
use Rattle.registers.specs.declared.registers.Registers.{Registers}
use Rattle.registers.specs.Operands.{index_of, with_register}
use Rattle.registers.specs.Ports.{is_internal, on_cpu, port_byte, port_written}
use Rattle.registers.specs.Registers.{Processor, counted, displaced, down, up, with_f, with_pc, with_r, with_sp, word}
use Rattle.cycles.specs.Tree as tree
use Rattle.cycles.specs.Tree.{Cycles, Port}

-- No more cycles: the registers changed so.
abbrev pub finish : {n : ℕ} → (Registers → Registers) → Processor → Cycles Processor n
finish change p = tree.done (on_cpu change p)

-- The opcode byte at PC, which R counts.
abbrev pub opcode : {A : Type 0} {n : ℕ} → Processor → (ℕ → Processor → Cycles A n) → Cycles A n
opcode p next =
    tree.fetch tree.opcode_byte p.cpu.pc (λ b. next b (on_cpu (λ s. with_r (counted s.r) (with_pc (up s.pc 1) s)) p))

-- The operand byte at PC, and two of them, low first.
abbrev pub operand : {A : Type 0} {n : ℕ} → Processor → (ℕ → Processor → Cycles A n) → Cycles A n
operand p next = tree.fetch tree.operand_byte p.cpu.pc (λ b. next b (on_cpu (λ s. with_pc (up s.pc 1) s) p))

abbrev pub word_operand : {A : Type 0} {n : ℕ} → Processor → (ℕ → Processor → Cycles A n) → Cycles A n
word_operand p next = operand p (λ low q. operand q (λ high r. next (word high low) r))

-- The address behind a displacement.
abbrev pub indexed : {A : Type 0} {n : ℕ} → Index → Processor → (ℕ → Processor → Cycles A n) → Cycles A n
indexed i p next = operand p (λ d q. next (displaced (index_of i q.cpu) d) q)

-- Two bytes of memory, low first; each is mapped by itself.
abbrev pub read_word : {A : Type 0} {n : ℕ} → ℕ → (ℕ → Cycles A n) → Cycles A n
read_word a next = tree.read a (λ low. tree.read (up a 1) (λ high. next (word high low)))

abbrev pub write_word : {A : Type 0} {n : ℕ} → ℕ → ℕ → Cycles A n → Cycles A (suc (suc n))
write_word a v next = tree.write a (v % 256) (tree.write (up a 1) (v / 256) next)

-- The stack grows downward: the high byte is pushed first, and the low one popped first.
abbrev pub push : {A : Type 0} {n : ℕ} → ℕ → Processor → (Processor → Cycles A n) → Cycles A (suc (suc n))
push v p next =
    tree.write (down p.cpu.sp 1) (v / 256) (tree.write (down p.cpu.sp 2) (v % 256) (next (on_cpu (with_sp (down p.cpu.sp 2)) p)))

abbrev pub pop : {A : Type 0} {n : ℕ} → Processor → (ℕ → Processor → Cycles A n) → Cycles A n
pop p next = read_word p.cpu.sp (λ v. next v (on_cpu (with_sp (up p.cpu.sp 2)) p))

-- A byte of memory that is read, changed in one state, and written back.
abbrev pub modify : {A : Type 0} {n : ℕ} → ℕ → (ℕ → ℕ) → (ℕ → Cycles A n) → Cycles A (suc n)
modify a change next = tree.read a (λ b. tree.internal 1 (tree.write a (change b) (next b)))

-- A port by its 16-bit number: an internal one with the byte that it reads as, or the panel's.
abbrev pub port_of : Processor → ℕ → Port
port_of p port = cond (is_internal p.cpu port) (tree.internal_port (port_byte p (port % 64))) (tree.panel_port port)

abbrev pub after_output : Processor → ℕ → ℕ → Processor
after_output p port b = cond (is_internal p.cpu port) (port_written p (port % 64) b) p

abbrev pub input : {A : Type 0} {n : ℕ} → ℕ → Processor → (ℕ → Cycles A n) → Cycles A n
input port p next = tree.input (port_of p port) next

abbrev pub output : {A : Type 0} {n : ℕ} → ℕ → ℕ → Processor → (Processor → Cycles A n) → Cycles A n
output port b p next = tree.output (port_of p port) b (next (after_output p port b))

-- A byte for a register and new flags together.
abbrev pub taking : Register → ℕ × Flags → Registers → Registers
taking r result s = with_register r result.0 (with_f result.1 s)
