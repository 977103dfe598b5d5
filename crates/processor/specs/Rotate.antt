-- Rotates and shifts. Behind DD CB and FD CB the displacement d stands before the last opcode byte. Assumes nothing.
use Rattle.std.specs.Prelude.{ℕ}
use Rattle.arithmetic.specs.declared.flags.Flags.{Flags}
use Rattle.arithmetic.specs.Rotate.{accumulator, apply, rld, rrd}
use Rattle.registers.specs.declared.operand.Register.TheVariants as register
use Rattle.registers.specs.Operands.{hl, index_of, value_of}
use Rattle.registers.specs.Registers.{Processor, displaced, with_a, with_f}
use Rattle.instructions.specs.declared.group.rotation.Rotation.{Rotation}
use Rattle.instructions.specs.declared.group.rotation.Rotation.TheVariants as rotation
use Rattle.cycles.specs.Tree.{Cycles, Cycles.internal, Cycles.read, Cycles.write}
use Rattle.processor.specs.Arithmetic.{on_memory}
use Rattle.processor.specs.Parts.{finish, taking}

-- Three digits turned through A and a byte of memory.
abbrev pub turn_digits : (ℕ → ℕ → Flags → (ℕ × ℕ) × Flags) → Processor → Cycles Processor 2
turn_digits turned p =
    read (hl p.cpu)
    (λ b. internal 4 (write (hl p.cpu) (turned p.cpu.main.a b p.cpu.main.f).0.1
    (finish (λ s. with_a (turned s.main.a b s.main.f).0.0 (with_f (turned s.main.a b s.main.f).1 s)) p)))

abbrev pub rotates : Rotation → ℕ → Processor → Cycles Processor 2
rotates (rotation.Accumulator kind) d p = finish (λ s. taking register.A (accumulator kind s.main.a s.main.f) s) p
rotates (rotation.Register kind r) d p = internal 1 (finish (λ s. taking r (apply kind (value_of r s) s.main.f) s) p)
rotates (rotation.Memory kind) d p = on_memory (apply kind) (hl p.cpu) p
rotates (rotation.Indexed kind i) d p = on_memory (apply kind) (displaced (index_of i p.cpu) d) p
rotates rotation.DigitsLeft d p = turn_digits rld p
rotates rotation.DigitsRight d p = turn_digits rrd p
