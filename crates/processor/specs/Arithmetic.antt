-- Arithmetic and logic. Assumes nothing.
use Rattle.std.specs.Prelude.{ℕ, ◌/◌, ◌%◌}
use Rattle.arithmetic.specs.declared.flags.Flags.{Flags}
use Rattle.arithmetic.specs.declared.operation.Operation.{Operation}
use Rattle.arithmetic.specs.Add.{negate}
use Rattle.arithmetic.specs.Increment.{decrement, increment}
use Rattle.arithmetic.specs.Logic.{complement}
use Rattle.arithmetic.specs.Multiply.{multiply}
use Rattle.arithmetic.specs.Operation.{apply}
use Rattle.arithmetic.specs.Port.{test}
use Rattle.arithmetic.specs.Wide as wide
use Rattle.registers.specs.declared.operand.Index.{Index}
use Rattle.registers.specs.declared.operand.Register.TheVariants as register
use Rattle.registers.specs.declared.registers.Registers.{Registers}
use Rattle.registers.specs.Operands.{bc, de, hl, index_of, pair_of, value_of, with_hl, with_index, with_pair}
use Rattle.registers.specs.Registers.{Processor, down, up, with_f}
use Rattle.instructions.specs.declared.group.calculation.Addend.{Addend}
use Rattle.instructions.specs.declared.group.calculation.Addend.TheVariants as addend
use Rattle.instructions.specs.declared.group.calculation.Arithmetic.{Arithmetic}
use Rattle.instructions.specs.declared.group.calculation.Arithmetic.TheVariants as arithmetic
use Rattle.cycles.specs.Tree.{Cycles, Cycles.internal, Cycles.read}
use Rattle.processor.specs.Parts.{finish, indexed, modify, operand, taking}

-- A and F after one of the eight operations with a byte.
abbrev pub operated : Operation → ℕ → Registers → Registers
operated o b s = taking register.A (apply o s.main.a b s.main.f) s

abbrev pub tested : ℕ → Registers → Registers
tested b s = taking register.A (test s.main.a b s.main.f) s

-- A byte of memory, and F, after an operation on that byte.
abbrev pub on_memory : (ℕ → Flags → ℕ × Flags) → ℕ → Processor → Cycles Processor 2
on_memory operation a p =
    modify a (λ b. (operation b p.cpu.main.f).0) (λ b. finish (λ s. with_f (operation b s.main.f).1 s) p)

-- HL, or an index register, and F, after an operation on words.
abbrev pub to_hl : ℕ × Flags → Registers → Registers
to_hl result s = with_hl result.0 (with_f result.1 s)

abbrev pub to_index : Index → ℕ × Flags → Registers → Registers
to_index i result s = with_index i result.0 (with_f result.1 s)

abbrev pub addend_of : Addend → Index → Registers → ℕ
addend_of addend.Bc i s = bc s
addend_of addend.De i s = de s
addend_of addend.Itself i s = index_of i s
addend_of addend.Sp i s = s.sp

abbrev pub calculates : Arithmetic → Processor → Cycles Processor 2
calculates (arithmetic.Register o r) p = internal 1 (finish (λ s. operated o (value_of r s) s) p)
calculates (arithmetic.Byte o) p = operand p (λ b q. finish (operated o b) q)
calculates (arithmetic.Memory o) p = read (hl p.cpu) (λ b. finish (operated o b) p)
calculates (arithmetic.Indexed o i) p = indexed i p (λ a q. internal 2 (read a (λ b. finish (operated o b) q)))
calculates (arithmetic.IncrementRegister r) p = internal 1 (finish (λ s. taking r (increment (value_of r s) s.main.f) s) p)
calculates arithmetic.IncrementMemory p = on_memory increment (hl p.cpu) p
calculates (arithmetic.IncrementIndexed i) p = indexed i p (λ a q. internal 2 (on_memory increment a q))
calculates (arithmetic.DecrementRegister r) p = internal 1 (finish (λ s. taking r (decrement (value_of r s) s.main.f) s) p)
calculates arithmetic.DecrementMemory p = on_memory decrement (hl p.cpu) p
calculates (arithmetic.DecrementIndexed i) p = indexed i p (λ a q. internal 2 (on_memory decrement a q))
calculates (arithmetic.TestRegister r) p = internal 1 (finish (λ s. tested (value_of r s) s) p)
calculates arithmetic.TestByte p = operand p (λ b q. finish (tested b) q)
calculates arithmetic.TestMemory p = internal 1 (read (hl p.cpu) (λ b. finish (tested b) p))
calculates arithmetic.Complement p = finish (λ s. taking register.A (complement s.main.a s.main.f) s) p
calculates arithmetic.Negate p = finish (λ s. taking register.A (negate s.main.a s.main.f) s) p
calculates (arithmetic.Multiply x) p =
    internal 11 (finish (λ s. with_pair x (multiply (pair_of x s / 256) (pair_of x s % 256) s.main.f).0 s) p)
calculates (arithmetic.AddPair x) p = internal 4 (finish (λ s. to_hl (wide.add (hl s) (pair_of x s) s.main.f) s) p)
calculates (arithmetic.AddWithCarryPair x) p =
    internal 4 (finish (λ s. to_hl (wide.add_with_carry (hl s) (pair_of x s) s.main.f) s) p)
calculates (arithmetic.SubtractWithCarryPair x) p =
    internal 4 (finish (λ s. to_hl (wide.subtract_with_carry (hl s) (pair_of x s) s.main.f) s) p)
calculates (arithmetic.AddIndex i x) p =
    internal 4 (finish (λ s. to_index i (wide.add (index_of i s) (addend_of x i s) s.main.f) s) p)
calculates (arithmetic.IncrementPair x) p = internal 1 (finish (λ s. with_pair x (up (pair_of x s) 1) s) p)
calculates (arithmetic.IncrementIndex i) p = internal 1 (finish (λ s. with_index i (up (index_of i s) 1) s) p)
calculates (arithmetic.DecrementPair x) p = internal 1 (finish (λ s. with_pair x (down (pair_of x s) 1) s) p)
calculates (arithmetic.DecrementIndex i) p = internal 1 (finish (λ s. with_index i (down (index_of i s) 1) s) p)
