-- Blocks of memory. A repeating form is a step for each byte: PC goes back by two while there is more to do. Assumes nothing.
use Rattle.std.specs.Prelude.{ℕ, Bool, cond, not, ◌&&◌, ◌==◌}
use Rattle.arithmetic.specs.Block.{compare, transfer}
use Rattle.registers.specs.declared.operand.Direction.{Direction}
use Rattle.registers.specs.declared.registers.Registers.{Registers}
use Rattle.registers.specs.Operands.{along, bc, de, hl, with_bc, with_de, with_hl}
use Rattle.registers.specs.Ports.{on_cpu}
use Rattle.registers.specs.Registers.{Processor, down, with_f, with_pc}
use Rattle.instructions.specs.declared.group.block.Block.{Block}
use Rattle.instructions.specs.declared.group.block.Block.TheVariants as block
use Rattle.cycles.specs.Tree.{Cycles, Cycles.done, Cycles.internal, Cycles.read, Cycles.write}
use Rattle.processor.specs.Parts.{finish}

-- Again, if there is more to do: two states, and PC back at the instruction.
abbrev pub again_if : {n : ℕ} → Bool → Processor → Cycles Processor n
again_if more p = cond more (internal 2 (finish (λ s. with_pc (down s.pc 2) s) p)) (done p)

-- The pointers go on, and BC is lowered, after the byte b was moved; or was compared.
abbrev pub transferred : Direction → ℕ → Registers → Registers
transferred way b s =
    with_f (transfer b (down (bc s) 1) s.main.f).1 (with_bc (down (bc s) 1) (with_de (along way (de s)) (with_hl (along way (hl s)) s)))

abbrev pub compared : Direction → ℕ → Registers → Registers
compared way b s =
    with_f (compare s.main.a b (down (bc s) 1) s.main.f).1 (with_bc (down (bc s) 1) (with_hl (along way (hl s)) s))

-- A byte goes from (HL) to (DE).
abbrev pub transfers : Direction → Processor → (Processor → Cycles Processor 1) → Cycles Processor 2
transfers way p next = read (hl p.cpu) (λ b. write (de p.cpu) b (next (on_cpu (transferred way b) p)))

-- A is compared with the byte at (HL), which is handed on.
abbrev pub compares : {A : Type 0} {n : ℕ} → Direction → Processor → (ℕ → Processor → Cycles A n) → Cycles A n
compares way p next = read (hl p.cpu) (λ b. internal 3 (next b (on_cpu (compared way b) p)))

-- A repeated transfer goes on while BC is not 0, a repeated comparison while also A is not the byte.
abbrev pub blocks : Block → Processor → Cycles Processor 2
blocks (block.Transfer way) p = transfers way p done
blocks (block.TransferRepeated way) p = transfers way p (λ q. again_if (not (bc q.cpu == 0)) q)
blocks (block.Compare way) p = compares way p (λ b q. done q)
blocks (block.CompareRepeated way) p =
    compares way p (λ b q. again_if (not (bc q.cpu == 0) && not (q.cpu.main.a == b)) q)
