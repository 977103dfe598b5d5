-- Every row of cycles that a step can play takes 3 to 19 states, by the pages of the opcode map. Assumes nothing.
use Rattle.std.proofs.Common.{ℕ, Bool, true, false, cond, ◌&&◌, T, eqb, leb, Some, None, Option}
use Rattle.arithmetic.specs.Block.{lowered}
use Rattle.arithmetic.specs.declared.operation.Operation.{Operation}
use Rattle.arithmetic.specs.declared.rotate.Rotate.{Rotate}
use Rattle.memory.specs.Memory.{Mem}
use Rattle.panel.specs.Panel.{Make}
use Rattle.panel.specs.declared.line.Line.{Line}
use Rattle.panel.specs.declared.line.Line.TheVariants.{Int0, Int1, Int2, Nmi}
use Rattle.registers.specs.declared.operand.Condition.{Condition}
use Rattle.registers.specs.declared.operand.Condition.TheVariants as if
use Rattle.registers.specs.declared.operand.Direction.{Direction}
use Rattle.registers.specs.declared.operand.Index.{Index}
use Rattle.registers.specs.declared.operand.Index.TheVariants.{Ix, Iy}
use Rattle.registers.specs.declared.operand.Register.{Register}
use Rattle.registers.specs.declared.registers.InterruptMode.{InterruptMode}
use Rattle.registers.specs.declared.registers.InterruptMode.TheVariants.{One, Two, Zero}
use Rattle.registers.specs.declared.registers.Mode.{Mode}
use Rattle.registers.specs.declared.registers.Mode.TheVariants.{Asleep, Halted, Running}
use Rattle.registers.specs.Operands.{holds}
use Rattle.registers.specs.Ports.{on_cpu}
use Rattle.registers.specs.Registers.{Processor, counted, up, with_b, with_pc, with_r, word}
use Rattle.registers.specs.Window.{physical_of}
use Rattle.decoder.specs.declared.page.First.{First}
use Rattle.decoder.specs.declared.page.First.TheVariants as first
use Rattle.decoder.specs.declared.page.Page.{Page}
use Rattle.decoder.specs.declared.page.Page.TheVariants as page
use Rattle.decoder.specs.declared.page.Second.{Second}
use Rattle.decoder.specs.declared.page.Second.TheVariants as second
use Rattle.decoder.specs.Field.{one_of_2, one_of_4, one_of_8, condition, operation, register, rotate, x, y, z, p as high_bits_lem, q as low_bit, direction}
use Rattle.decoder.specs.Cb as decode_cb
use Rattle.decoder.specs.Ed as decode_ed
use Rattle.decoder.specs.Indexed as decode_indexed
use Rattle.decoder.specs.IndexedCb as decode_indexed_cb
use Rattle.decoder.specs.Main as decode_main
use Rattle.instructions.specs.declared.group.block.Block.TheVariants as block
use Rattle.instructions.specs.declared.group.call.Call.TheVariants as call
use Rattle.instructions.specs.declared.group.jump.Jump.TheVariants as jump
use Rattle.instructions.specs.declared.group.port.Port.TheVariants as port
use Rattle.instructions.specs.declared.instruction.Instruction.{Instruction}
use Rattle.instructions.specs.declared.instruction.Instruction.TheVariants.{Block, Call, Jump, Port}
use Rattle.cycles.specs.Play.{Began, play, world}
use Rattle.cycles.specs.Tree.{Cycles, Cycles.internal}
use Rattle.processor.specs.Block.{again_if}
use Rattle.processor.specs.Call.{enter, returns}
use Rattle.processor.specs.Instruction.{behind_first, behind_index, carried_out, executed, or_trap}
use Rattle.processor.specs.Interrupt.{awake, idle, int0, masked, served, turned}
use Rattle.processor.specs.Jump.{past_high, relative}
use Rattle.processor.specs.Parts.{finish, operand}
use Rattle.processor.specs.Port.{again_at_zero}

-- what holds of each choice holds of what is chosen
pick : {A : Type 0} (P : A → Type 0) (x : Bool) (a b : A) → P a → P b → P (cond x a b)
pick P true a b one other = one
pick P false a b one other = other

two : {A : Type 0} (P : A → Type 0) (n : ℕ) (a b : A) → P a → P b → P (one_of_2 n a b)
two P n a b pa pb = pick P (eqb n 0) a b pa pb

four : {A : Type 0} (P : A → Type 0) (n : ℕ) (a b c d : A) → P a → P b → P c → P d → P (one_of_4 n a b c d)
four P n a b c d pa pb pc pd = pick P (eqb n 0) a _ pa (pick P (eqb n 1) b _ pb (pick P (eqb n 2) c d pc pd))

eight : {A : Type 0} (P : A → Type 0) (n : ℕ) (a b c d e f g h : A) → P a → P b → P c → P d → P e → P f → P g → P h → P (one_of_8 n a b c d e f g h)
eight P n a b c d e f g h pa pb pc pd pe pf pg ph =
    pick P (eqb n 0) a _ pa (pick P (eqb n 1) b _ pb (pick P (eqb n 2) c _ pc (pick P (eqb n 3) d _ pd (pick P (eqb n 4) e _ pe (pick P (eqb n 5) f _ pf (pick P (eqb n 6) g h pg ph))))))

unfoldable pub in_range : ℕ → Bool
in_range n = leb 3 n && leb n 19

module _ {S : Type 0} (make : Make S) (w : Began) where
  abbrev Lasts : {n : ℕ} → Mem → S → ℕ → ℕ → Cycles Processor n → Type 0
  Lasts m s cycles states tree = T (in_range (play make w tree (world m s (record { cycles = cycles; states = states }))).world.tally.states)

  -- the forms that go two ways
  jump_if : (m : Mem) (s : S) (low : ℕ) (q : Processor) (x : Bool) → Lasts m s 2 6 (cond x (operand q (λ high r. finish {n = 2} (with_pc (word high low)) r)) (finish (λ t. t) (past_high q)))
  unfolding in_range
  jump_if m s low q true = tt
  jump_if m s low q false = tt

  relative_if : (m : Mem) (s : S) (e : ℕ) (q : Processor) (x : Bool) → Lasts m s 2 6 (cond x (relative e q) (finish (λ t. t) q))
  unfolding in_range
  relative_if m s e q true = tt
  relative_if m s e q false = tt

  count : (m : Mem) (s : S) (e : ℕ) (q : Processor) (x : Bool) → Lasts m s 3 7 (cond x (finish (λ t. t) q) (relative e q))
  unfolding in_range
  count m s e q true = tt
  count m s e q false = tt

  call_if : (m : Mem) (s : S) (low : ℕ) (q : Processor) (x : Bool) → Lasts m s 2 6 (cond x (operand q (λ high r. internal 1 (enter (word high low) r))) (finish (λ t. t) (past_high q)))
  unfolding in_range
  call_if m s low q true = tt
  call_if m s low q false = tt

  return_if : (m : Mem) (s : S) (p : Processor) (x : Bool) → Lasts m s 1 3 (cond x (internal 1 (returns p)) (internal 2 (finish (λ t. t) p)))
  unfolding in_range
  return_if m s p true = tt
  return_if m s p false = tt

  again : (n : ℕ) (m : Mem) (s : S) (p : Processor) (x : Bool) → Lasts m s 4 12 (again_if {n = n} x p)
  unfolding in_range
  again n m s p true = tt
  again n m s p false = tt

  again_slow : (m : Mem) (s : S) (p : Processor) (x : Bool) → Lasts m s 5 13 (again_at_zero x p)
  unfolding in_range
  again_slow m s p true = tt
  again_slow m s p false = tt

-- what is chosen by a is a row of cycles that ends in time
record Fits {A S : Type 0} (make : Make S) (w : Began) (m : Mem) (s : S) (cycles states : ℕ) (row : A → Cycles Processor 2) (a : A) : Type 0 where
  pub lasts : Lasts make w m s cycles states (row a)

abbrev yes : Unit {0}
yes = tt

abbrev byte_of : Began → Mem → Processor → ℕ
byte_of w m p = m.byte (physical_of w.window p.cpu.pc)

abbrev passed : Processor → Processor
passed p = on_cpu (λ t. with_pc (up t.pc 1) t) p

abbrev counted_on : Processor → Processor
counted_on p = on_cpu (λ t. with_r (counted t.r) (with_pc (up t.pc 1) t)) p

-- the main page
module _ {S : Type 0} (make : Make S) (w : Began) (m : Mem) (s : S) (p : Processor) where
  abbrev Main : Instruction → Type 0
  Main i = Fits make w m s 1 3 (λ j. carried_out j 0 p) i

  ok : {i : Instruction} → Lasts make w m s 1 3 (carried_out i 0 p) → Main i
  ok h = record { lasts = h }

  main_relative_if : (f : Condition) → Main (Jump (jump.RelativeIf f))
  main_relative_if f = ok (relative_if make w m s (byte_of w m p) (passed p) (holds f p.cpu.main.f))

  main_count : Main (Jump jump.Count)
  main_count =
      ok (count make w m s (byte_of w m p) (passed (on_cpu (λ t. with_b (lowered t.main.b) t) p)) (eqb (lowered p.cpu.main.b) 0))

  main_relative : (y : ℕ) → Main (decode_main.relative y)
  unfolding in_range
  main_relative y =
      eight Main y _ _ _ _ _ _ _ _ (ok yes) (ok yes) main_count (ok yes) (main_relative_if if.Nz) (main_relative_if if.Z) (main_relative_if if.Nc) (main_relative_if if.C)

  main_indirect : (y : ℕ) → Main (decode_main.indirect y)
  unfolding in_range
  main_indirect y = eight Main y _ _ _ _ _ _ _ _ (ok yes) (ok yes) (ok yes) (ok yes) (ok yes) (ok yes) (ok yes) (ok yes)

  main_words : (y : ℕ) → Main (decode_main.words y)
  unfolding in_range
  main_words y = two Main (low_bit y) _ _ (ok yes) (ok yes)

  main_counted : (y : ℕ) → Main (decode_main.counted_words y)
  unfolding in_range
  main_counted y = two Main (low_bit y) _ _ (ok yes) (ok yes)

  main_incremented : (r : Option Register) → Main (decode_main.incremented r)
  unfolding in_range
  main_incremented (Some r) = ok yes
  main_incremented None = ok yes

  main_decremented : (r : Option Register) → Main (decode_main.decremented r)
  unfolding in_range
  main_decremented (Some r) = ok yes
  main_decremented None = ok yes

  main_set : (r : Option Register) → Main (decode_main.set_to_byte r)
  unfolding in_range
  main_set (Some r) = ok yes
  main_set None = ok yes

  main_accumulator : (y : ℕ) → Main (decode_main.accumulator y)
  unfolding in_range
  main_accumulator y = eight Main y _ _ _ _ _ _ _ _ (ok yes) (ok yes) (ok yes) (ok yes) (ok yes) (ok yes) (ok yes) (ok yes)

  main_low : (y z : ℕ) → Main (decode_main.low y z)
  main_low y z =
      eight Main z _ _ _ _ _ _ _ _ (main_relative y) (main_words y) (main_indirect y) (main_counted y) (main_incremented (register y)) (main_decremented (register y)) (main_set (register y)) (main_accumulator y)

  main_moved : (r q : Option Register) → Main (decode_main.moved r q)
  unfolding in_range
  main_moved (Some r) (Some q) = ok yes
  main_moved (Some r) None = ok yes
  main_moved None (Some q) = ok yes
  main_moved None None = ok yes

  main_operated : (o : Operation) (r : Option Register) → Main (decode_main.operated o r)
  unfolding in_range
  main_operated o (Some r) = ok yes
  main_operated o None = ok yes

  main_popped : (y : ℕ) → Main (decode_main.popped y)
  unfolding in_range
  main_popped y = two Main (low_bit y) _ _ (ok yes) (four Main (high_bits_lem y) _ _ _ _ (ok yes) (ok yes) (ok yes) (ok yes))

-- the page behind CBH
module _ {S : Type 0} (make : Make S) (w : Began) (m : Mem) (s : S) (p : Processor) (start : ℕ) where
  abbrev Bits : Option Instruction → Type 0
  Bits o = Fits make w m s 2 6 (λ r. or_trap r 0 0 (up start 1) p) o

  bits : {o : Option Instruction} → Lasts make w m s 2 6 (or_trap o 0 0 (up start 1) p) → Bits o
  bits h = record { lasts = h }

  cb_rotated : (k : Option Rotate) (r : Option Register) → Bits (decode_cb.rotated k r)
  unfolding in_range
  cb_rotated (Some k) (Some r) = bits yes
  cb_rotated (Some k) None = bits yes
  cb_rotated None r = bits yes

  cb_tested : (b : ℕ) (r : Option Register) → Bits (Some (decode_cb.tested b r))
  unfolding in_range
  cb_tested b (Some r) = bits yes
  cb_tested b None = bits yes

  cb_reset : (b : ℕ) (r : Option Register) → Bits (Some (decode_cb.reset b r))
  unfolding in_range
  cb_reset b (Some r) = bits yes
  cb_reset b None = bits yes

  cb_set : (b : ℕ) (r : Option Register) → Bits (Some (decode_cb.set b r))
  unfolding in_range
  cb_set b (Some r) = bits yes
  cb_set b None = bits yes

  cb_page : (b : ℕ) → Bits (decode_cb.decoded b)
  cb_page b =
      four Bits (x b) _ _ _ _ (cb_rotated (rotate (y b)) (register (z b))) (cb_tested (y b) (register (z b))) (cb_reset (y b) (register (z b))) (cb_set (y b) (register (z b)))

  -- the page behind EDH
  ed_input_zero : (r : Option Register) → Bits (decode_ed.input_zero r)
  unfolding in_range
  ed_input_zero (Some r) = bits yes
  ed_input_zero None = bits yes

  ed_output_zero : (r : Option Register) → Bits (decode_ed.output_zero r)
  unfolding in_range
  ed_output_zero (Some r) = bits yes
  ed_output_zero None = bits yes

  ed_input : (r : Option Register) → Bits (decode_ed.input r)
  unfolding in_range
  ed_input (Some r) = bits yes
  ed_input None = bits yes

  ed_output : (r : Option Register) → Bits (decode_ed.output r)
  unfolding in_range
  ed_output (Some r) = bits yes
  ed_output None = bits yes

  ed_tested : (r : Option Register) → Bits (Some (decode_ed.tested r))
  unfolding in_range
  ed_tested (Some r) = bits yes
  ed_tested None = bits yes

  ed_low : (y z : ℕ) → Bits (decode_ed.low y z)
  unfolding in_range
  ed_low y z =
      eight Bits z _ _ _ _ _ _ _ _ (ed_input_zero (register y)) (ed_output_zero (register y)) (bits yes) (bits yes) (ed_tested (register y)) (bits yes) (bits yes) (bits yes)

  ed_with_carry : (y : ℕ) → Bits (Some (decode_ed.with_carry y))
  unfolding in_range
  ed_with_carry y = two (λ i. Bits (Some i)) (low_bit y) _ _ (bits yes) (bits yes)

  ed_words : (y : ℕ) → Bits (Some (decode_ed.words y))
  unfolding in_range
  ed_words y = two (λ i. Bits (Some i)) (low_bit y) _ _ (bits yes) (bits yes)

  ed_tests : (y : ℕ) → Bits (decode_ed.tests y)
  unfolding in_range
  ed_tests y = two Bits (low_bit y) _ _ (four Bits (high_bits_lem y) _ _ _ _ (bits yes) (bits yes) (bits yes) (bits yes)) (bits yes)

  ed_returns : (y : ℕ) → Bits (decode_ed.returns y)
  unfolding in_range
  ed_returns y = eight Bits y _ _ _ _ _ _ _ _ (bits yes) (bits yes) (bits yes) (bits yes) (bits yes) (bits yes) (bits yes) (bits yes)

  ed_modes : (y : ℕ) → Bits (decode_ed.modes y)
  unfolding in_range
  ed_modes y = eight Bits y _ _ _ _ _ _ _ _ (bits yes) (bits yes) (bits yes) (bits yes) (bits yes) (bits yes) (bits yes) (bits yes)

  ed_accumulator : (y : ℕ) → Bits (decode_ed.accumulator y)
  unfolding in_range
  ed_accumulator y = eight Bits y _ _ _ _ _ _ _ _ (bits yes) (bits yes) (bits yes) (bits yes) (bits yes) (bits yes) (bits yes) (bits yes)

  ed_middle : (y z : ℕ) → Bits (decode_ed.middle y z)
  ed_middle y z =
      eight Bits z _ _ _ _ _ _ _ _ (ed_input (register y)) (ed_output (register y)) (ed_with_carry y) (ed_words y) (ed_tests y) (ed_returns y) (ed_modes y) (ed_accumulator y)

  ed_repeatable : (n : ℕ) {once repeated : Instruction} → Bits (Some once) → Bits (Some repeated) → Bits (decode_ed.repeatable n once repeated)
  unfolding in_range
  ed_repeatable n one more = four Bits n _ _ _ _ (bits yes) (bits yes) one more

  ed_transfers : (way : Direction) → Bits (Some (Block (block.TransferRepeated way)))
  ed_transfers way = bits (again make w 1 _ s _ _)

  ed_compares : (way : Direction) → Bits (Some (Block (block.CompareRepeated way)))
  ed_compares way = bits (again make w 2 m s _ _)

  ed_inputs : (way : Direction) → Bits (Some (Port (port.InputRepeated way)))
  ed_inputs way = bits (again make w 1 _ _ _ _)

  ed_sends : (way : Direction) → Bits (Some (Port (port.OutputRepeated way)))
  ed_sends way = bits (again make w 2 m _ _ _)

  ed_sends_zero : (way : Direction) → Bits (Some (Port (port.OutputZeroRepeated way)))
  ed_sends_zero way = bits (again_slow make w m _ _ _)

  ed_outputs : (n : ℕ) (way : Direction) → Bits (Some (decode_ed.outputs n way))
  unfolding in_range
  ed_outputs n way = four (λ i. Bits (Some i)) n _ _ _ _ (bits yes) (ed_sends_zero way) (bits yes) (ed_sends way)

  ed_blocks : (n : ℕ) (way : Direction) (z : ℕ) → Bits (decode_ed.blocks n way z)
  unfolding in_range
  ed_blocks n way z =
      eight Bits z _ _ _ _ _ _ _ _ (ed_repeatable n (bits yes) (ed_transfers way)) (ed_repeatable n (bits yes) (ed_compares way)) (ed_repeatable n (bits yes) (ed_inputs way)) (ed_outputs n way) (bits yes) (bits yes) (bits yes) (bits yes)

  ed_page : (b : ℕ) → Bits (decode_ed.decoded b)
  unfolding in_range
  ed_page b =
      four Bits (x b) _ _ _ _ (ed_low (y b) (z b)) (ed_middle (y b) (z b)) (ed_blocks (high_bits_lem (y b)) (direction (low_bit (y b))) (z b)) (bits yes)

-- the page behind DDH CBH d and FDH CBH d
module _ {S : Type 0} (make : Make S) (w : Began) (m : Mem) (s : S) (p : Processor) (i : Index) (d start : ℕ) where
  abbrev Third : Option Instruction → Type 0
  Third o = Fits make w m s 4 12 (λ r. or_trap r d 1 (up start 2) p) o

  third_of : {o : Option Instruction} → Lasts make w m s 4 12 (or_trap o d 1 (up start 2) p) → Third o
  third_of h = record { lasts = h }

  third_rotated : (k : Option Rotate) → Third (decode_indexed_cb.rotated i k)
  unfolding in_range
  third_rotated (Some k) = third_of yes
  third_rotated None = third_of yes

  third_operated : (x y : ℕ) → Third (decode_indexed_cb.operated i x y)
  unfolding in_range
  third_operated x y = four Third x _ _ _ _ (third_rotated (rotate y)) (third_of yes) (third_of yes) (third_of yes)

  third_page : (b : ℕ) → Third (decode_indexed_cb.decoded i b)
  unfolding in_range
  third_page b = pick Third (eqb (z b) 6) _ _ (third_operated (x b) (y b)) (third_of yes)

-- the page behind DDH and FDH
module _ {S : Type 0} (make : Make S) (w : Began) (m : Mem) (s : S) (p : Processor) (i : Index) (start : ℕ) where
  abbrev Behind : Second → Type 0
  Behind o = Fits make w m s 2 6 (λ r. behind_index r i start p) o

  behind : {o : Second} → Lasts make w m s 2 6 (behind_index o i start p) → Behind o
  behind h = record { lasts = h }

  behind_bits : Behind second.BitsPrefix
  behind_bits =
      behind (third_page make w m s (counted_on (passed p)) i (byte_of w m p) start (byte_of w m (passed p))).lasts

  only : (value y : ℕ) {o : Second} → Behind o → Behind (decode_indexed.only value y o)
  unfolding in_range
  only value y h = pick Behind (eqb y value) _ _ h (behind yes)

  behind_words : (y : ℕ) → Behind (decode_indexed.words i y)
  unfolding in_range
  behind_words y = two Behind (low_bit y) _ _ (only 4 y (behind yes)) (behind yes)

  behind_addressed : (y : ℕ) → Behind (decode_indexed.addressed i y)
  unfolding in_range
  behind_addressed y = pick Behind (eqb y 4) _ _ (behind yes) (only 5 y (behind yes))

  behind_counted : (y : ℕ) → Behind (decode_indexed.counted_words i y)
  unfolding in_range
  behind_counted y = pick Behind (eqb y 4) _ _ (behind yes) (only 5 y (behind yes))

  behind_low : (y z : ℕ) → Behind (decode_indexed.low i y z)
  unfolding in_range
  behind_low y z =
      eight Behind z _ _ _ _ _ _ _ _ (behind yes) (behind_words y) (behind_addressed y) (behind_counted y) (only 6 y (behind yes)) (only 6 y (behind yes)) (only 6 y (behind yes)) (behind yes)

  behind_moved : (r q : Option Register) → Behind (decode_indexed.moved i r q)
  unfolding in_range
  behind_moved (Some r) (Some q) = behind yes
  behind_moved (Some r) None = behind yes
  behind_moved None (Some q) = behind yes
  behind_moved None None = behind yes

  behind_operated : (o : Operation) (z : ℕ) → Behind (decode_indexed.operated i o z)
  unfolding in_range
  behind_operated o z = pick Behind (eqb z 6) _ _ (behind yes) (behind yes)

  behind_popped : (y : ℕ) → Behind (decode_indexed.popped i y)
  unfolding in_range
  behind_popped y = pick Behind (eqb y 4) _ _ (behind yes) (pick Behind (eqb y 5) _ _ (behind yes) (only 7 y (behind yes)))

  behind_others : (y : ℕ) → Behind (decode_indexed.others i y)
  unfolding in_range
  behind_others y = pick Behind (eqb y 1) _ _ behind_bits (only 4 y (behind yes))

  behind_high : (y z : ℕ) → Behind (decode_indexed.high i y z)
  unfolding in_range
  behind_high y z =
      eight Behind z _ _ _ _ _ _ _ _ (behind yes) (behind_popped y) (behind yes) (behind_others y) (behind yes) (only 4 y (behind yes)) (behind yes) (behind yes)

  indexed_page : (b : ℕ) → Behind (decode_indexed.decoded i b)
  indexed_page b =
      four Behind (x b) _ _ _ _ (behind_low (y b) (z b)) (behind_moved (register (y b)) (register (z b))) (behind_operated (operation (y b)) (z b)) (behind_high (y b) (z b))

-- the first opcode byte
module _ {S : Type 0} (make : Make S) (w : Began) (m : Mem) (s : S) (p : Processor) (start : ℕ) where
  abbrev Begins : First → Type 0
  Begins o = Fits make w m s 1 3 (λ r. behind_first r start p) o

  begins : {o : First} → Lasts make w m s 1 3 (behind_first o start p) → Begins o
  begins h = record { lasts = h }

  of_main : {i : Instruction} → Main make w m s p i → Begins (first.Instruction i)
  of_main h = record { lasts = h.lasts }

  page_of : (x : Page) → Begins (first.Prefix x)
  page_of page.Bits = begins (cb_page make w m s (counted_on p) start (byte_of w m p)).lasts
  page_of page.Extended = begins (ed_page make w m s (counted_on p) start (byte_of w m p)).lasts
  page_of (page.Indexed i) = begins (indexed_page make w m s (counted_on p) i start (byte_of w m p)).lasts

  first_others : (y : ℕ) → Begins (decode_main.others y)
  unfolding in_range
  first_others y =
      eight Begins y _ _ _ _ _ _ _ _ (begins yes) (page_of page.Bits) (begins yes) (begins yes) (begins yes) (begins yes) (begins yes) (begins yes)

  first_pushed : (y : ℕ) → Begins (decode_main.pushed y)
  unfolding in_range
  first_pushed y =
      two Begins (low_bit y) _ _ (begins yes) (four Begins (high_bits_lem y) _ _ _ _ (begins yes) (page_of (page.Indexed Ix)) (page_of page.Extended) (page_of (page.Indexed Iy)))

  first_returns : (f : Condition) → Begins (first.Instruction (Call (call.ReturnIf f)))
  first_returns f = begins (return_if make w m s p (holds f p.cpu.main.f))

  first_jumps : (f : Condition) → Begins (first.Instruction (Jump (jump.If f)))
  first_jumps f = begins (jump_if make w m s (byte_of w m p) (passed p) (holds f p.cpu.main.f))

  first_calls : (f : Condition) → Begins (first.Instruction (Call (call.If f)))
  first_calls f = begins (call_if make w m s (byte_of w m p) (passed p) (holds f p.cpu.main.f))

  first_high : (y z : ℕ) → Begins (decode_main.high y z)
  unfolding in_range
  first_high y z =
      eight Begins z _ _ _ _ _ _ _ _ (first_returns (condition y)) (of_main (main_popped make w m s p y)) (first_jumps (condition y)) (first_others y) (first_calls (condition y)) (first_pushed y) (begins yes) (begins yes)

  first_page : (b : ℕ) → Begins (decode_main.decoded b)
  first_page b =
      four Begins (x b) _ _ _ _ (of_main (main_low make w m s p (y b) (z b))) (of_main (main_moved make w m s p (register (y b)) (register (z b)))) (of_main (main_operated make w m s p (operation (y b)) (register (z b)))) (first_high (y b) (z b))

-- every row of cycles that a step can play
module _ {S : Type 0} (make : Make S) (w : Began) (m : Mem) (s : S) where
  executes : (p : Processor) → Lasts make w m s 0 0 (executed p)
  executes p = (first_page make w m s (counted_on p) p.cpu.pc (byte_of w m p)).lasts

  serves_int0 : (im : InterruptMode) (b : ℕ) (p : Processor) → Lasts make w m s 0 0 (int0 im b p)
  unfolding in_range
  serves_int0 Zero b p = tt
  serves_int0 One b p = tt
  serves_int0 Two b p = tt

  serves : (line : Line) (b : ℕ) (p : Processor) → Lasts make w m s 0 0 (served line b p)
  unfolding in_range
  serves Nmi b p = tt
  serves Int0 b p = serves_int0 p.cpu.im b (masked p)
  serves Int1 b p = tt
  serves Int2 b p = tt

  wakes_or_idles : (wake : Bool) (p : Processor) → Lasts make w m s 0 0 (cond wake (executed (awake p)) (idle p))
  unfolding in_range
  wakes_or_idles true p = executes (awake p)
  wakes_or_idles false p = tt

  pub turns : (mode : Mode) (line : Option Line) (wake : Bool) (b : ℕ) (p : Processor) → Lasts make w m s 0 0 (turned mode line wake b p)
  unfolding in_range
  turns Running (Some line) wake b p = serves line b p
  turns Running None wake b p = executes p
  turns Halted (Some line) wake b p = serves line b (awake p)
  turns Halted None wake b p = tt
  turns Asleep (Some line) wake b p = serves line b (awake p)
  turns Asleep None wake b p = wakes_or_idles wake p
