-- Input and output. The upper half of a port's number is A, B before it falls, or 0. Assumes nothing.
use Rattle.std.specs.Prelude.{ℕ, Bool, false, cond, not, ◌==◌}
use Rattle.arithmetic.specs.declared.flags.Flags.{Flags}
use Rattle.arithmetic.specs.Block.{port, port_zero}
use Rattle.arithmetic.specs.Port as flags
use Rattle.registers.specs.declared.operand.Direction.{Direction}
use Rattle.registers.specs.declared.operand.Direction.TheVariants.{Down, Up}
use Rattle.registers.specs.declared.operand.Register.TheVariants as register
use Rattle.registers.specs.declared.registers.Registers.{Registers}
use Rattle.registers.specs.Operands.{along, bc, hl, value_of, with_hl}
use Rattle.registers.specs.Ports.{on_cpu}
use Rattle.registers.specs.Registers.{Processor, down, with_a, with_c, with_f, with_pc, word}
use Rattle.arithmetic.specs.Add.{difference, sum}
use Rattle.instructions.specs.declared.group.port.Port.{Port}
use Rattle.instructions.specs.declared.group.port.Port.TheVariants as port_of
use Rattle.cycles.specs.Tree.{Cycles, Cycles.done, Cycles.internal, Cycles.read, Cycles.write}
use Rattle.processor.specs.Block.{again_if}
use Rattle.processor.specs.Parts.{finish, input, operand, output, taking}

-- B is lowered and HL goes on, after a byte went by; F by one of the two rules for blocks.
abbrev pub counted_down : (ℕ → ℕ → Flags → ℕ × Flags) → Direction → ℕ → Registers → Registers
counted_down rule way b s = taking register.B (rule s.main.b b s.main.f) (with_hl (along way (hl s)) s)

-- C goes on with HL in the OTIM family.
abbrev pub along_byte : Direction → ℕ → ℕ
along_byte Up c = sum 256 c 1 false
along_byte Down c = difference 256 c 1 false

abbrev pub next_port : Direction → Registers → Registers
next_port way s = with_c (along_byte way s.main.c) s

-- Whether B is not 0 yet.
abbrev pub more : Processor → Bool
more p = not (p.cpu.main.b == 0)

-- A byte goes from port (BC) to (HL), or the other way.
abbrev pub inputs : Direction → Processor → (Processor → Cycles Processor 1) → Cycles Processor 2
inputs way p next = input (bc p.cpu) p (λ b. write (hl p.cpu) b (next (on_cpu (counted_down port way b) p)))

abbrev pub outputs : Direction → Processor → (Processor → Cycles Processor 2) → Cycles Processor 2
outputs way p next = read (hl p.cpu) (λ b. output (bc p.cpu) b p (λ q. next (on_cpu (counted_down port way b) q)))

-- The OTIM family: from (HL) to port C with upper half 0, both going on.
abbrev pub outputs_zero : Direction → Processor → (Processor → Cycles Processor 2) → Cycles Processor 2
outputs_zero way p next =
    internal 1 (read (hl p.cpu) (λ b. output p.cpu.main.c b p (λ q. next (on_cpu (λ s. next_port way (counted_down port_zero way b s)) q))))

-- Its repeating forms take one state at the end, or three and PC back by two.
abbrev pub again_at_zero : Bool → Processor → Cycles Processor 2
again_at_zero goes_on p = cond goes_on (internal 3 (finish (λ s. with_pc (down s.pc 2) s) p)) (internal 1 (done p))

abbrev pub ports : Port → Processor → Cycles Processor 2
ports port_of.InputAccumulator p = operand p (λ n q. input (word q.cpu.main.a n) q (λ b. finish (with_a b) q))
ports (port_of.Input r) p = input (bc p.cpu) p (λ b. finish (λ s. taking r (flags.input b s.main.f) s) p)
ports (port_of.InputZero r) p = operand p (λ n q. input n q (λ b. finish (λ s. taking r (flags.input b s.main.f) s) q))
ports port_of.OutputAccumulator p =
    operand p (λ n q. internal 1 (output (word q.cpu.main.a n) q.cpu.main.a q (λ r. done r)))
ports (port_of.Output r) p = internal 1 (output (bc p.cpu) (value_of r p.cpu) p (λ q. done q))
ports (port_of.OutputZero r) p = operand p (λ n q. internal 1 (output n (value_of r q.cpu) q (λ t. done t)))
ports port_of.Test p =
    operand p (λ n q. input q.cpu.main.c q (λ b. finish (λ s. with_f (flags.test b n s.main.f).1 s) q))
ports (port_of.InputBlock way) p = inputs way p done
ports (port_of.InputRepeated way) p = inputs way p (λ q. again_if (more q) q)
ports (port_of.OutputBlock way) p = outputs way p done
ports (port_of.OutputRepeated way) p = outputs way p (λ q. again_if (more q) q)
ports (port_of.OutputZeroBlock way) p = outputs_zero way p (λ q. internal 1 (done q))
ports (port_of.OutputZeroRepeated way) p = outputs_zero way p (λ q. again_at_zero (more q) q)
