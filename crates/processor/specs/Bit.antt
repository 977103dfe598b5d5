-- Single bits. Behind DD CB and FD CB the displacement d stands before the last opcode byte. Assumes nothing.
use Rattle.std.specs.Prelude.{ℕ}
use Rattle.arithmetic.specs.Bits as bits
use Rattle.registers.specs.declared.registers.Registers.{Registers}
use Rattle.registers.specs.Operands.{hl, index_of, value_of}
use Rattle.registers.specs.Registers.{Processor, displaced, with_f}
use Rattle.instructions.specs.declared.group.bit.Bit.{Bit}
use Rattle.instructions.specs.declared.group.bit.Bit.TheVariants as bit
use Rattle.cycles.specs.Tree.{Cycles, Cycles.internal, Cycles.read}
use Rattle.processor.specs.Arithmetic.{on_memory}
use Rattle.processor.specs.Parts.{finish, taking}

-- A test changes F only.
abbrev pub bit_tested : ℕ → ℕ → Registers → Registers
bit_tested b v s = with_f (bits.test b v s.main.f).1 s

abbrev pub bits_of : Bit → ℕ → Processor → Cycles Processor 2
bits_of (bit.TestRegister b r) d p = finish (λ s. bit_tested b (value_of r s) s) p
bits_of (bit.TestMemory b) d p = read (hl p.cpu) (λ v. finish (bit_tested b v) p)
bits_of (bit.TestIndexed b i) d p = read (displaced (index_of i p.cpu) d) (λ v. finish (bit_tested b v) p)
bits_of (bit.ResetRegister b r) d p = internal 1 (finish (λ s. taking r (bits.reset b (value_of r s) s.main.f) s) p)
bits_of (bit.ResetMemory b) d p = on_memory (bits.reset b) (hl p.cpu) p
bits_of (bit.ResetIndexed b i) d p = on_memory (bits.reset b) (displaced (index_of i p.cpu) d) p
bits_of (bit.SetRegister b r) d p = internal 1 (finish (λ s. taking r (bits.set b (value_of r s) s.main.f) s) p)
bits_of (bit.SetMemory b) d p = on_memory (bits.set b) (hl p.cpu) p
bits_of (bit.SetIndexed b i) d p = on_memory (bits.set b) (displaced (index_of i p.cpu) d) p
