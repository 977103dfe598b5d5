-- Loads. The cycles of the opcode bytes are behind; the rest follows in the data book's order. Assumes nothing.
use Rattle.arithmetic.specs.Port.{load}
use Rattle.registers.specs.declared.operand.Register.TheVariants as register
use Rattle.registers.specs.Operands.{hl, index_of, pair_of, pointer_of, value_of, with_hl, with_index, with_pair, with_register}
use Rattle.registers.specs.Registers.{Processor, with_a, with_i, with_r, with_sp}
use Rattle.instructions.specs.declared.group.load.Load.{Load}
use Rattle.instructions.specs.declared.group.load.Load.TheVariants as load_of
use Rattle.cycles.specs.Tree.{Cycles, Cycles.internal, Cycles.read, Cycles.write}
use Rattle.processor.specs.Parts.{finish, indexed, operand, read_word, taking, word_operand, write_word}

abbrev pub loads : Load → Processor → Cycles Processor 2
loads (load_of.RegisterRegister r q) p = internal 1 (finish (with_register r (value_of q p.cpu)) p)
loads (load_of.RegisterByte r) p = operand p (λ b q. finish (with_register r b) q)
loads (load_of.RegisterMemory r) p = read (hl p.cpu) (λ b. finish (with_register r b) p)
loads (load_of.RegisterIndexed r i) p = indexed i p (λ a q. internal 2 (read a (λ b. finish (with_register r b) q)))
loads (load_of.MemoryRegister r) p = internal 1 (write (hl p.cpu) (value_of r p.cpu) (finish (λ s. s) p))
loads load_of.MemoryByte p = operand p (λ b q. write (hl q.cpu) b (finish (λ s. s) q))
loads (load_of.IndexedRegister i r) p = indexed i p (λ a q. internal 3 (write a (value_of r q.cpu) (finish (λ s. s) q)))
loads (load_of.IndexedByte i) p = indexed i p (λ a q. operand q (λ b r. write a b (finish (λ s. s) r)))
loads (load_of.AccumulatorPointer x) p = read (pointer_of x p.cpu) (λ b. finish (with_a b) p)
loads (load_of.PointerAccumulator x) p = internal 1 (write (pointer_of x p.cpu) p.cpu.main.a (finish (λ s. s) p))
loads load_of.AccumulatorAddress p = word_operand p (λ a q. read a (λ b. finish (with_a b) q))
loads load_of.AddressAccumulator p = word_operand p (λ a q. internal 1 (write a q.cpu.main.a (finish (λ s. s) q)))
loads load_of.AccumulatorI p = finish (λ s. taking register.A (load s.i s.ief2 s.main.f) s) p
loads load_of.AccumulatorR p = finish (λ s. taking register.A (load s.r s.ief2 s.main.f) s) p
loads load_of.IAccumulator p = finish (λ s. with_i s.main.a s) p
loads load_of.RAccumulator p = finish (λ s. with_r s.main.a s) p
loads (load_of.PairWord x) p = word_operand p (λ v q. finish (with_pair x v) q)
loads (load_of.IndexWord i) p = word_operand p (λ v q. finish (with_index i v) q)
loads load_of.HlAddress p = word_operand p (λ a q. read_word a (λ v. finish (with_hl v) q))
loads (load_of.PairAddress x) p = word_operand p (λ a q. read_word a (λ v. finish (with_pair x v) q))
loads (load_of.IndexAddress i) p = word_operand p (λ a q. read_word a (λ v. finish (with_index i v) q))
loads load_of.AddressHl p = word_operand p (λ a q. internal 1 (write_word a (hl q.cpu) (finish (λ s. s) q)))
loads (load_of.AddressPair x) p = word_operand p (λ a q. internal 1 (write_word a (pair_of x q.cpu) (finish (λ s. s) q)))
loads (load_of.AddressIndex i) p = word_operand p (λ a q. internal 1 (write_word a (index_of i q.cpu) (finish (λ s. s) q)))
loads load_of.SpHl p = internal 1 (finish (λ s. with_sp (hl s) s) p)
loads (load_of.SpIndex i) p = internal 1 (finish (λ s. with_sp (index_of i s) s) p)
