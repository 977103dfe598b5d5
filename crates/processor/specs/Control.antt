-- The processor itself: nothing, decimal adjust, the carry, halting and sleeping, interrupts. Assumes nothing.
use Rattle.std.specs.Prelude.{true, false}
use Rattle.arithmetic.specs.Carry as carry
use Rattle.arithmetic.specs.Decimal.{adjust}
use Rattle.registers.specs.declared.operand.Register.TheVariants as register
use Rattle.registers.specs.declared.registers.Mode.TheVariants as mode
use Rattle.registers.specs.Registers.{Processor, with_ei, with_ief1, with_ief2, with_im, with_mode}
use Rattle.instructions.specs.declared.group.control.Control.{Control}
use Rattle.instructions.specs.declared.group.control.Control.TheVariants as control
use Rattle.cycles.specs.Tree.{Cycles, Cycles.done, Cycles.internal}
use Rattle.processor.specs.Parts.{finish, taking}

abbrev pub controls : Control → Processor → Cycles Processor 2
controls control.Nothing p = done p
controls control.DecimalAdjust p = internal 1 (finish (λ s. taking register.A (adjust s.main.a s.main.f) s) p)
controls control.SetCarry p = finish (λ s. taking register.A (carry.set s.main.a s.main.f) s) p
controls control.ComplementCarry p = finish (λ s. taking register.A (carry.complement s.main.a s.main.f) s) p
controls control.Halt p = finish (with_mode mode.Halted) p
controls control.Sleep p = internal 2 (finish (with_mode mode.Asleep) p)
controls control.DisableInterrupts p = finish (λ s. with_ief1 false (with_ief2 false s)) p
controls control.EnableInterrupts p = finish (λ s. with_ief1 true (with_ief2 true (with_ei true s))) p
controls (control.Mode m) p = finish (with_im m) p
