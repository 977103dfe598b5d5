-- Each instruction of the page behind EDH is orderly. Assumes nothing.
use Rattle.std.proofs.Common.{ℕ, not, ◌&&◌, eqb, Some, None, Option, refl}
use Rattle.panel.specs.Panel.{Make}
use Rattle.arithmetic.specs.Block as rule
use Rattle.registers.specs.declared.operand.Direction.{Direction}
use Rattle.registers.specs.declared.operand.Register.{Register}
use Rattle.registers.specs.Operands.{bc, hl}
use Rattle.registers.specs.Ports.{on_cpu}
use Rattle.registers.specs.Registers.{Processor}
use Rattle.instructions.specs.declared.group.block.Block.TheVariants as block
use Rattle.instructions.specs.declared.group.port.Port.TheVariants as port
use Rattle.instructions.specs.declared.instruction.Instruction.{Instruction}
use Rattle.instructions.specs.declared.instruction.Instruction.TheVariants.{Block, Port}
use Rattle.decoder.specs.Ed as ed
use Rattle.decoder.specs.Field as field
use Rattle.cycles.specs.Play.{Began, answer_of, byte_at}
use Rattle.processor.specs.Block.{compared, transferred}
use Rattle.processor.specs.Parts.{after_output, port_of}
use Rattle.processor.specs.Port.{counted_down, more, next_port}
use Rattle.invariants.proofs.Kept.{after, keeps, of_output, of_pair, of_taking, passed, same, still, then}
use Rattle.invariants.proofs.Forms as forms
use Rattle.invariants.proofs.Forms.{fits, none_fits, of_2, of_4, of_8, some_fits}
use Rattle.invariants.proofs.Orderly.{again, again_0}

module _ {S : Type 0} (make : Make S) (began : Began) (s : S) where
  abbrev Fits : Instruction → Type 0
  Fits i = forms.Fits make began s 2 i

  abbrev OptionFits : Option Instruction → Type 0
  OptionFits o = forms.OptionFits make began s 2 o

  input_zero : (r : Option Register) → OptionFits (ed.input_zero r)
  input_zero (Some r) = some_fits (fits tt tt (λ d p v room. (tt, refl, after refl refl refl (of_taking r _ (passed p).cpu (refl, refl)))))
  input_zero None = none_fits

  output_zero : (r : Option Register) → OptionFits (ed.output_zero r)
  output_zero (Some r) = some_fits (fits tt tt (λ d p v room. (tt, refl, (room, after refl refl refl (of_output (passed p) _ _)))))
  output_zero None = none_fits

  input : (r : Option Register) → OptionFits (ed.input r)
  input (Some r) = some_fits (fits tt tt (λ d p v room. keeps (of_taking r _ _ (refl, refl))))
  input None = none_fits

  output : (r : Option Register) → OptionFits (ed.output r)
  output (Some r) = some_fits (fits tt tt (λ d p v room. (room, keeps (of_output p _ _))))
  output None = none_fits

  tested : (r : Option Register) → Fits (ed.tested r)
  tested (Some r) = fits tt tt (λ d p v room. still refl refl refl)
  tested None = fits tt tt (λ d p v room. still refl refl refl)

  low : (y z : ℕ) → OptionFits (ed.low y z)
  low y z =
      of_8 OptionFits z
      (input_zero (field.register y))
      (output_zero (field.register y))
      none_fits
      none_fits
      (some_fits (tested (field.register y)))
      none_fits
      none_fits
      none_fits

  with_carry : (y : ℕ) → Fits (ed.with_carry y)
  with_carry y =
      of_2 Fits (field.q y) (fits tt tt (λ d p v room. still refl refl refl)) (fits tt tt (λ d p v room. still refl refl refl))

  words : (y : ℕ) → Fits (ed.words y)
  words y =
      of_2 Fits (field.q y)
      (fits tt tt (λ d p v room. (tt, refl, (tt, refl, still refl refl refl))))
      (fits tt tt (λ d p v room. (tt, refl, (tt, refl, after refl refl refl (of_pair _ _ (passed (passed p)).cpu)))))

  tests : (y : ℕ) → OptionFits (ed.tests y)
  tests y =
      of_2 OptionFits (field.q y)
      (of_4 OptionFits (field.p y)
      (some_fits (fits tt tt (λ d p v room. still refl refl refl)))
      none_fits
      (some_fits (fits tt tt (λ d p v room. (tt, refl, still refl refl refl))))
      (some_fits (fits tt tt (λ d p v room. (tt, refl, still refl refl refl)))))
      (some_fits (fits tt tt (λ d p v room. keeps (of_pair _ _ _))))

  returns : (y : ℕ) → OptionFits (ed.returns y)
  returns y =
      of_8 OptionFits y
      (some_fits (fits tt tt (λ d p v room. still refl refl refl)))
      (some_fits (fits tt tt (λ d p v room. still refl refl refl)))
      none_fits
      none_fits
      none_fits
      none_fits
      none_fits
      none_fits

  modes : (y : ℕ) → OptionFits (ed.modes y)
  modes y =
      of_8 OptionFits y
      (some_fits (fits tt tt (λ d p v room. still refl refl refl)))
      none_fits
      (some_fits (fits tt tt (λ d p v room. still refl refl refl)))
      (some_fits (fits tt tt (λ d p v room. still refl refl refl)))
      none_fits
      none_fits
      (some_fits (fits tt tt (λ d p v room. still refl refl refl)))
      none_fits

  -- LD R,A alone loads bit 7 of R
  accumulator : (y : ℕ) → OptionFits (ed.accumulator y)
  accumulator y =
      of_8 OptionFits y
      (some_fits (fits tt tt (λ d p v room. still refl refl refl)))
      (some_fits (fits tt tt (λ d p v room. record { refresh = λ other. absurd (other refl); spare = λ pop ex. (refl, refl) })))
      (some_fits (fits tt tt (λ d p v room. still refl refl refl)))
      (some_fits (fits tt tt (λ d p v room. still refl refl refl)))
      (some_fits (fits tt tt (λ d p v room. still refl refl refl)))
      (some_fits (fits tt tt (λ d p v room. still refl refl refl)))
      none_fits
      none_fits

  middle : (y z : ℕ) → OptionFits (ed.middle y z)
  middle y z =
      of_8 OptionFits z
      (input (field.register y))
      (output (field.register y))
      (some_fits (with_carry y))
      (some_fits (words y))
      (tests y)
      (returns y)
      (modes y)
      (accumulator y)

  repeatable : (p : ℕ) (once repeated : Instruction) → Fits once → Fits repeated → OptionFits (ed.repeatable p once repeated)
  repeatable p once repeated one two = of_4 OptionFits p none_fits none_fits (some_fits one) (some_fits two)

  transfer_repeated : (way : Direction) → Fits (Block (block.TransferRepeated way))
  transfer_repeated way =
      fits tt tt (λ d p v room. let q = on_cpu (transferred way (byte_at began (hl p.cpu) v)) p in
      again make began s 1 _ _ _ _ _ (not (eqb (bc q.cpu) 0)) q (still refl refl refl) (still refl refl refl))

  compare_repeated : (way : Direction) → Fits (Block (block.CompareRepeated way))
  compare_repeated way =
      fits tt tt (λ d p v room. let b = byte_at began (hl p.cpu) v in let q = on_cpu (compared way b) p in
      again make began s 2 _ _ _ _ _ (not (eqb (bc q.cpu) 0) && not (eqb q.cpu.main.a b)) q (still refl refl refl) (still refl refl refl))

  input_repeated : (way : Direction) → Fits (Port (port.InputRepeated way))
  input_repeated way =
      fits tt tt (λ d p v room. let q = on_cpu (counted_down rule.port way (answer_of make v.panel (port_of p (bc p.cpu)))) p in
      again make began s 1 _ _ _ _ _ (more q) q (still refl refl refl) (still refl refl refl))

  -- the processor after a block output to a port
  abbrev sent_on : Direction → ℕ → Processor → Processor
  sent_on way b p = on_cpu (counted_down rule.port way b) (after_output p (bc p.cpu) b)

  abbrev sent_on_zero : Direction → ℕ → Processor → Processor
  sent_on_zero way b p = on_cpu (λ r. next_port way (counted_down rule.port_zero way b r)) (after_output p p.cpu.main.c b)

  output_block : (way : Direction) → Fits (Port (port.OutputBlock way))
  output_block way =
      fits tt tt (λ d p v room. (room, keeps (then (of_output p (bc p.cpu) (byte_at began (hl p.cpu) v)) (same refl refl refl))))

  output_repeated : (way : Direction) → Fits (Port (port.OutputRepeated way))
  output_repeated way =
      fits tt tt (λ d p v room. let b = byte_at began (hl p.cpu) v in let q = sent_on way b p in
      let out = of_output p (bc p.cpu) b in
      (room, again make began s 2 _ _ _ _ _ (more q) q (keeps (then out (same refl refl refl))) (keeps (then out (same refl refl refl)))))

  output_zero_block : (way : Direction) → Fits (Port (port.OutputZeroBlock way))
  output_zero_block way =
      fits tt tt (λ d p v room. (room, keeps (then (of_output p p.cpu.main.c (byte_at began (hl p.cpu) v)) (same refl refl refl))))

  output_zero_repeated : (way : Direction) → Fits (Port (port.OutputZeroRepeated way))
  output_zero_repeated way =
      fits tt tt (λ d p v room. let b = byte_at began (hl p.cpu) v in let q = sent_on_zero way b p in
      let out = of_output p p.cpu.main.c b in
      (room, again_0 make began s _ _ _ _ _ (more q) q (keeps (then out (same refl refl refl))) (keeps (then out (same refl refl refl)))))

  outputs : (p : ℕ) (way : Direction) → Fits (ed.outputs p way)
  outputs p way =
      of_4 Fits p (output_zero_block way) (output_zero_repeated way) (output_block way) (output_repeated way)

  blocks : (p : ℕ) (way : Direction) (z : ℕ) → OptionFits (ed.blocks p way z)
  blocks p way z =
      of_8 OptionFits z
      (repeatable p _ _ (fits tt tt (λ d p v room. still refl refl refl)) (transfer_repeated way))
      (repeatable p _ _ (fits tt tt (λ d p v room. still refl refl refl)) (compare_repeated way))
      (repeatable p _ _ (fits tt tt (λ d p v room. still refl refl refl)) (input_repeated way))
      (some_fits (outputs p way))
      none_fits
      none_fits
      none_fits
      none_fits

  pub page : (byte : ℕ) → OptionFits (ed.decoded byte)
  page byte =
      of_4 OptionFits (field.x byte)
      (low (field.y byte) (field.z byte))
      (middle (field.y byte) (field.z byte))
      (blocks (field.p (field.y byte)) (field.direction (field.q (field.y byte))) (field.z byte))
      none_fits
