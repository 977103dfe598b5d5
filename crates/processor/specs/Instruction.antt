-- An instruction from its first opcode byte on, by the pages of the opcode map; what is on none of them traps. Assumes nothing.
use Rattle.std.specs.Prelude.{ℕ, ◌+◌, ◌*◌, ◌%◌, Some, None, Option}
use Rattle.registers.specs.declared.operand.Index.{Index}
use Rattle.registers.specs.Ports.{on_cpu}
use Rattle.registers.specs.Registers.{Processor, up, with_itc}
use Rattle.instructions.specs.declared.instruction.Instruction.{Instruction}
use Rattle.instructions.specs.declared.instruction.Instruction.TheVariants as instruction
use Rattle.decoder.specs.declared.page.First.{First}
use Rattle.decoder.specs.declared.page.First.TheVariants as first
use Rattle.decoder.specs.declared.page.Page.{Page}
use Rattle.decoder.specs.declared.page.Page.TheVariants as page
use Rattle.decoder.specs.declared.page.Second.{Second}
use Rattle.decoder.specs.declared.page.Second.TheVariants as second
use Rattle.decoder.specs.Main as main
use Rattle.decoder.specs.Cb as cb
use Rattle.decoder.specs.Ed as ed
use Rattle.decoder.specs.Indexed as indexed
use Rattle.decoder.specs.IndexedCb as indexed_cb
use Rattle.cycles.specs.Tree.{Cycles}
use Rattle.processor.specs.Arithmetic.{calculates}
use Rattle.processor.specs.Bit.{bits_of}
use Rattle.processor.specs.Block.{blocks}
use Rattle.processor.specs.Call.{calls}
use Rattle.processor.specs.Control.{controls}
use Rattle.processor.specs.Exchange.{exchanges}
use Rattle.processor.specs.Jump.{jumps}
use Rattle.processor.specs.Load.{loads}
use Rattle.processor.specs.Parts.{finish, opcode, operand, push}
use Rattle.processor.specs.Port.{ports}
use Rattle.processor.specs.Rotate.{rotates}
use Rattle.registers.specs.Registers.{with_pc}

-- An instruction whose opcode bytes are read; d is the displacement that stood before the last of them, if one did.
abbrev pub carried_out : Instruction → ℕ → Processor → Cycles Processor 2
carried_out (instruction.Load i) d p = loads i p
carried_out (instruction.Exchange i) d p = exchanges i p
carried_out (instruction.Arithmetic i) d p = calculates i p
carried_out (instruction.Rotate i) d p = rotates i d p
carried_out (instruction.Bit i) d p = bits_of i d p
carried_out (instruction.Jump i) d p = jumps i p
carried_out (instruction.Call i) d p = calls i p
carried_out (instruction.Block i) d p = blocks i p
carried_out (instruction.Port i) d p = ports i p
carried_out (instruction.Control i) d p = controls i p

-- A trap: TRAP becomes 1, UFO says whether the third opcode byte is undefined (1) or the second (0). The address of that byte
-- is pushed, displacements not counted, and PC becomes 0. The flip-flops stay.
abbrev pub trapped : ℕ → ℕ → Processor → Cycles Processor 2
trapped ufo address p = push address (on_cpu (λ s. with_itc (128 + ufo * 64 + s.itc % 64) s) p) (λ q. finish (with_pc 0) q)

-- The instruction that began at start, with what its second, or third, opcode byte decodes to.
abbrev pub or_trap : Option Instruction → ℕ → ℕ → ℕ → Processor → Cycles Processor 2
or_trap (Some i) d ufo address p = carried_out i d p
or_trap None d ufo address p = trapped ufo address p

-- DD CB d op and FD CB d op: the displacement comes before the third opcode byte.
abbrev pub third : Index → ℕ → Processor → Cycles Processor 2
third i start p = operand p (λ d q. opcode q (λ b r. or_trap (indexed_cb.decoded i b) d 1 (up start 2) r))

abbrev pub behind_index : Second → Index → ℕ → Processor → Cycles Processor 2
behind_index (second.Instruction i) x start p = carried_out i 0 p
behind_index second.BitsPrefix x start p = third x start p
behind_index second.Undefined x start p = trapped 0 (up start 1) p

abbrev pub on_page : Page → ℕ → Processor → Cycles Processor 2
on_page page.Bits start p = opcode p (λ b q. or_trap (cb.decoded b) 0 0 (up start 1) q)
on_page page.Extended start p = opcode p (λ b q. or_trap (ed.decoded b) 0 0 (up start 1) q)
on_page (page.Indexed i) start p = opcode p (λ b q. behind_index (indexed.decoded i b) i start q)

abbrev pub behind_first : First → ℕ → Processor → Cycles Processor 2
behind_first (first.Instruction i) start p = carried_out i 0 p
behind_first (first.Prefix x) start p = on_page x start p

-- The instruction at PC.
abbrev pub executed : Processor → Cycles Processor 2
executed p = opcode p (λ b q. behind_first (main.decoded b) p.cpu.pc q)
