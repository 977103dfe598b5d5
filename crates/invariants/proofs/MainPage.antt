-- Each instruction of the main page is orderly. Assumes nothing.
use Rattle.std.proofs.Common.{ℕ, eqb, Some, None, Option, refl}
use Rattle.panel.specs.Panel.{Make}
use Rattle.arithmetic.specs.declared.operation.Operation.{Operation}
use Rattle.arithmetic.specs.declared.rotate.Rotate.{Rotate}
use Rattle.arithmetic.specs.Block.{lowered}
use Rattle.registers.specs.declared.operand.Condition.{Condition}
use Rattle.registers.specs.declared.operand.Pointer.{Pointer}
use Rattle.registers.specs.declared.operand.Register.{Register}
use Rattle.registers.specs.declared.operand.Register.TheVariants as register
use Rattle.registers.specs.declared.operand.StackPair.{StackPair}
use Rattle.registers.specs.declared.operand.StackPair.TheVariants as stack
use Rattle.registers.specs.Operands.{holds}
use Rattle.registers.specs.Ports.{on_cpu}
use Rattle.registers.specs.Registers.{with_b, with_pc, word}
use Rattle.instructions.specs.declared.group.call.Call.TheVariants as call
use Rattle.instructions.specs.declared.group.exchange.Exchange.TheVariants as exchange
use Rattle.instructions.specs.declared.group.jump.Jump.TheVariants as jump
use Rattle.instructions.specs.declared.group.load.Load.TheVariants as load
use Rattle.instructions.specs.declared.group.rotation.Rotation.TheVariants as rotation
use Rattle.instructions.specs.declared.instruction.Instruction.{Instruction}
use Rattle.instructions.specs.declared.instruction.Instruction.TheVariants.{Call, Exchange, Jump, Load, Rotate as Rotated}
use Rattle.decoder.specs.declared.page.First.{First}
use Rattle.decoder.specs.Field as field
use Rattle.decoder.specs.Main as main
use Rattle.cycles.specs.Play.{Began, byte_at}
use Rattle.cycles.specs.Tree.{Cycles.internal}
use Rattle.processor.specs.Call as calls
use Rattle.processor.specs.Jump as jumps
use Rattle.processor.specs.Parts.{finish, operand}
use Rattle.invariants.proofs.Kept.{after, keeps, of_output, of_pair, of_register, of_taking, operated_spare, passed, still}
use Rattle.invariants.proofs.Forms as forms
use Rattle.invariants.proofs.Forms.{first_fits, fits, of_2, of_4, of_8, prefix_fits}
use Rattle.invariants.proofs.Orderly.{either}

module _ {S : Type 0} (make : Make S) (began : Began) (s : S) where
  abbrev Fits : Instruction → Type 0
  Fits i = forms.Fits make began s 1 i

  abbrev FirstFits : First → Type 0
  FirstFits f = forms.FirstFits make began s f

  relative_if : (f : Condition) → Fits (Jump (jump.RelativeIf f))
  relative_if f =
      fits tt tt (λ d p v room. (tt, refl, either make began s _ _ _ _ _ (holds f p.cpu.main.f) (jumps.relative (byte_at began p.cpu.pc v) (passed p)) (finish (λ s. s) (passed p)) (still refl refl refl) (still refl refl refl)))

  count : Fits (Jump jump.Count)
  count =
      fits tt tt (λ d p v room. let q = passed (on_cpu (λ r. with_b (lowered r.main.b) r) p) in
      (tt, refl, either make began s _ _ _ _ _ (eqb q.cpu.main.b 0) (finish (λ r. r) q) (jumps.relative (byte_at began p.cpu.pc v) q) (still refl refl refl) (still refl refl refl)))

  relative : (y : ℕ) → Fits (main.relative y)
  relative y =
      of_8 Fits y
      (fits tt tt (λ d p v room. still refl refl refl))
      (fits tt tt (λ d p v room. record { refresh = λ other. refl; spare = λ pop ex. absurd (ex refl) }))
      count
      (fits tt tt (λ d p v room. (tt, refl, still refl refl refl)))
      (relative_if _)
      (relative_if _)
      (relative_if _)
      (relative_if _)

  from_pointer : (x : Pointer) → Fits (Load (load.AccumulatorPointer x))
  from_pointer x = fits tt tt (λ d p v room. still refl refl refl)

  to_pointer : (x : Pointer) → Fits (Load (load.PointerAccumulator x))
  to_pointer x = fits tt tt (λ d p v room. still refl refl refl)

  indirect : (y : ℕ) → Fits (main.indirect y)
  indirect y =
      of_8 Fits y
      (to_pointer _)
      (from_pointer _)
      (to_pointer _)
      (from_pointer _)
      (fits tt tt (λ d p v room. (tt, refl, (tt, refl, still refl refl refl))))
      (fits tt tt (λ d p v room. (tt, refl, (tt, refl, still refl refl refl))))
      (fits tt tt (λ d p v room. (tt, refl, (tt, refl, still refl refl refl))))
      (fits tt tt (λ d p v room. (tt, refl, (tt, refl, still refl refl refl))))

  words : (y : ℕ) → Fits (main.words y)
  words y =
      of_2 Fits (field.q y)
      (fits tt tt (λ d p v room. (tt, refl, (tt, refl, after refl refl refl (of_pair _ _ (passed (passed p)).cpu)))))
      (fits tt tt (λ d p v room. still refl refl refl))

  counted_words : (y : ℕ) → Fits (main.counted_words y)
  counted_words y =
      of_2 Fits (field.q y) (fits tt tt (λ d p v room. keeps (of_pair _ _ _))) (fits tt tt (λ d p v room. keeps (of_pair _ _ _)))

  incremented : (r : Option Register) → Fits (main.incremented r)
  incremented (Some r) = fits tt tt (λ d p v room. keeps (of_taking r _ _ (refl, refl)))
  incremented None = fits tt tt (λ d p v room. still refl refl refl)

  decremented : (r : Option Register) → Fits (main.decremented r)
  decremented (Some r) = fits tt tt (λ d p v room. keeps (of_taking r _ _ (refl, refl)))
  decremented None = fits tt tt (λ d p v room. still refl refl refl)

  set_to_byte : (r : Option Register) → Fits (main.set_to_byte r)
  set_to_byte (Some r) = fits tt tt (λ d p v room. (tt, refl, after refl refl refl (of_register r _ (passed p).cpu)))
  set_to_byte None = fits tt tt (λ d p v room. (tt, refl, still refl refl refl))

  rotated : (kind : Rotate) → Fits (Rotated (rotation.Accumulator kind))
  rotated kind = fits tt tt (λ d p v room. still refl refl refl)

  accumulator : (y : ℕ) → Fits (main.accumulator y)
  accumulator y =
      of_8 Fits y
      (rotated _)
      (rotated _)
      (rotated _)
      (rotated _)
      (fits tt tt (λ d p v room. still refl refl refl))
      (fits tt tt (λ d p v room. still refl refl refl))
      (fits tt tt (λ d p v room. still refl refl refl))
      (fits tt tt (λ d p v room. still refl refl refl))

  low : (y z : ℕ) → Fits (main.low y z)
  low y z =
      of_8 Fits z
      (relative y)
      (words y)
      (indirect y)
      (counted_words y)
      (incremented (field.register y))
      (decremented (field.register y))
      (set_to_byte (field.register y))
      (accumulator y)

  moved : (to from : Option Register) → Fits (main.moved to from)
  moved (Some to) (Some from) = fits tt tt (λ d p v room. keeps (of_register to _ _))
  moved (Some to) None = fits tt tt (λ d p v room. keeps (of_register to _ _))
  moved None (Some from) = fits tt tt (λ d p v room. still refl refl refl)
  moved None None = fits tt tt (λ d p v room. still refl refl refl)

  operated : (o : Operation) (r : Option Register) → Fits (main.operated o r)
  operated o (Some r) = fits tt tt (λ d p v room. keeps (of_taking register.A _ _ (operated_spare o _ _ _)))
  operated o None = fits tt tt (λ d p v room. keeps (of_taking register.A _ _ (operated_spare o _ _ _)))

  -- POP AF alone loads the bits of F that no flag uses
  popped_pair : (x : StackPair) → Fits (Exchange (exchange.Pop x))
  popped_pair stack.Bc = fits tt tt (λ d p v room. still refl refl refl)
  popped_pair stack.De = fits tt tt (λ d p v room. still refl refl refl)
  popped_pair stack.Hl = fits tt tt (λ d p v room. still refl refl refl)
  popped_pair stack.Af = fits tt tt (λ d p v room. record { refresh = λ other. refl; spare = λ pop ex. absurd (pop refl) })

  popped : (y : ℕ) → Fits (main.popped y)
  popped y =
      of_2 Fits (field.q y) (popped_pair _)
      (of_4 Fits (field.p y)
      (fits tt tt (λ d p v room. still refl refl refl))
      (fits tt tt (λ d p v room. still refl refl refl))
      (fits tt tt (λ d p v room. still refl refl refl))
      (fits tt tt (λ d p v room. still refl refl refl)))

  others : (y : ℕ) → FirstFits (main.others y)
  others y =
      of_8 FirstFits y
      (first_fits (fits tt tt (λ d p v room. (tt, refl, (tt, refl, still refl refl refl)))))
      prefix_fits
      (first_fits (fits tt tt (λ d p v room. (tt, refl, (room, after refl refl refl (of_output (passed p) _ _))))))
      (first_fits (fits tt tt (λ d p v room. (tt, refl, still refl refl refl))))
      (first_fits (fits tt tt (λ d p v room. still refl refl refl)))
      (first_fits (fits tt tt (λ d p v room. still refl refl refl)))
      (first_fits (fits tt tt (λ d p v room. still refl refl refl)))
      (first_fits (fits tt tt (λ d p v room. still refl refl refl)))

  pushed : (y : ℕ) → FirstFits (main.pushed y)
  pushed y =
      of_2 FirstFits (field.q y)
      (first_fits (fits tt tt (λ d p v room. still refl refl refl)))
      (of_4 FirstFits (field.p y)
      (first_fits (fits tt tt (λ d p v room. (tt, refl, (tt, refl, still refl refl refl)))))
      prefix_fits
      prefix_fits
      prefix_fits)

  jump_if : (f : Condition) → Fits (Jump (jump.If f))
  jump_if f =
      fits tt tt (λ d p v room. let low = byte_at began p.cpu.pc v in
      (tt, refl, either make began s _ _ _ _ _ (holds f p.cpu.main.f) (operand (passed p) (λ high r. finish (with_pc (word high low)) r)) (finish (λ r. r) (jumps.past_high (passed p))) (tt, refl, still refl refl refl) (still refl refl refl)))

  call_if : (f : Condition) → Fits (Call (call.If f))
  call_if f =
      fits tt tt (λ d p v room. let low = byte_at began p.cpu.pc v in
      (tt, refl, either make began s _ _ _ _ _ (holds f p.cpu.main.f) (operand (passed p) (λ high r. internal 1 (calls.enter (word high low) r))) (finish (λ r. r) (jumps.past_high (passed p))) (tt, refl, still refl refl refl) (still refl refl refl)))

  return_if : (f : Condition) → Fits (Call (call.ReturnIf f))
  return_if f =
      fits tt tt (λ d p v room. either make began s _ _ _ _ _ (holds f p.cpu.main.f) (internal 1 (calls.returns p)) (internal 2 (finish (λ r. r) p)) (still refl refl refl) (still refl refl refl))

  high : (y z : ℕ) → FirstFits (main.high y z)
  high y z =
      of_8 FirstFits z
      (first_fits (return_if _))
      (first_fits (popped y))
      (first_fits (jump_if _))
      (others y)
      (first_fits (call_if _))
      (pushed y)
      (first_fits (fits tt tt (λ d p v room. (tt, refl, after refl refl refl (of_taking register.A _ (passed p).cpu (operated_spare _ _ _ _))))))
      (first_fits (fits tt tt (λ d p v room. still refl refl refl)))

  pub page : (byte : ℕ) → FirstFits (main.decoded byte)
  page byte =
      of_4 FirstFits (field.x byte)
      (first_fits (low (field.y byte) (field.z byte)))
      (first_fits (moved (field.register (field.y byte)) (field.register (field.z byte))))
      (first_fits (operated (field.operation (field.y byte)) (field.register (field.z byte))))
      (high (field.y byte) (field.z byte))
