-- The cycles in which a byte is changed in place by a rule: the byte and F before, the byte and F after. Assumes nothing.
use Rattle.std.specs.Prelude.{ℕ}
use Rattle.arithmetic.specs.declared.flags.Flags.{Flags}
use Rattle.registers.specs.declared.operand.Index.{Index}
use Rattle.registers.specs.declared.operand.Register.{Register}
use Rattle.registers.specs.Operands.{hl, index_of, value_of}
use Rattle.registers.specs.Registers.{Processor, displaced}
use Rattle.cycles.specs.Tree.{Cycles, Cycles.internal}
use Rattle.processor.specs.Arithmetic.{on_memory}
use Rattle.processor.specs.Parts.{finish, indexed, taking}

-- In a register; at (HL); at an index register and a displacement that is fetched now, or was fetched before.
abbrev pub in_register : (ℕ → Flags → ℕ × Flags) → Register → Processor → Cycles Processor 2
in_register rule r p = internal 1 (finish (λ s. taking r (rule (value_of r s) s.main.f) s) p)

abbrev pub at_hl : (ℕ → Flags → ℕ × Flags) → Processor → Cycles Processor 2
at_hl rule p = on_memory rule (hl p.cpu) p

abbrev pub at_index : (ℕ → Flags → ℕ × Flags) → Index → Processor → Cycles Processor 2
at_index rule i p = indexed i p (λ a q. internal 2 (on_memory rule a q))

abbrev pub behind_index : (ℕ → Flags → ℕ × Flags) → Index → ℕ → Processor → Cycles Processor 2
behind_index rule i d p = on_memory rule (displaced (index_of i p.cpu) d) p
