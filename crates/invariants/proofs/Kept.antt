-- What is kept of R and F when registers change. Assumes nothing.
use Rattle.std.proofs.Common.{◌≡◌, ℕ, ◌/◌, ◌%◌, Bool, true, false, cond, eqb, ◌≢◌, Option, refl, ◌∙◌, arith}
use Rattle.arithmetic.specs.declared.flags.Flags.{Flags}
use Rattle.arithmetic.specs.declared.operation.Operation.{Operation}
use Rattle.arithmetic.specs.declared.operation.Operation.TheVariants as operation
use Rattle.arithmetic.specs.declared.rotate.Rotate.{Rotate}
use Rattle.arithmetic.specs.declared.rotate.Rotate.TheVariants as rotate
use Rattle.arithmetic.specs.Operation as operations
use Rattle.arithmetic.specs.Rotate as rotates
use Rattle.registers.specs.declared.operand.Index.{Index}
use Rattle.registers.specs.declared.operand.Index.TheVariants as index
use Rattle.registers.specs.declared.operand.Pair.{Pair}
use Rattle.registers.specs.declared.operand.Pair.TheVariants as pair
use Rattle.registers.specs.declared.operand.Register.{Register}
use Rattle.registers.specs.declared.operand.Register.TheVariants as register
use Rattle.registers.specs.declared.registers.Registers.{Registers}
use Rattle.registers.specs.Operands.{with_index, with_pair, with_register}
use Rattle.registers.specs.Ports.{is_internal, on_cpu, port_written}
use Rattle.registers.specs.Registers.{Processor, counted, up, with_f, with_pc}
use Rattle.beginning.specs.declared.Beginning.{Beginning}
use Rattle.processor.specs.Parts.{after_output, taking}
use Rattle.invariants.specs.Refresh.{ld_r_a}
use Rattle.invariants.specs.Spare.{SpareAlike, ex_af, pop_af}

-- bit 7 of R and bits 5 and 3 of F are the same
pub record Same (before after : Registers) : Type 0 where
  pub refresh : after.r / 128 ≡ before.r / 128
  pub spare : SpareAlike after.main.f before.main.f

-- the same but for what a step with this code may change
pub record Keeps (code : Option Beginning) (before after : Registers) : Type 0 where
  pub refresh : code ≢ ld_r_a → after.r / 128 ≡ before.r / 128
  pub spare : code ≢ pop_af → code ≢ ex_af → SpareAlike after.main.f before.main.f

pub same : {s t : Registers} → t.r / 128 ≡ s.r / 128 → t.main.f.bit5 ≡ s.main.f.bit5 → t.main.f.bit3 ≡ s.main.f.bit3 → Same s t
same r five three = record { refresh = r; spare = (five, three) }

pub keeps : {code : Option Beginning} {s t : Registers} → Same s t → Keeps code s t
keeps k = record { refresh = λ other. k.refresh; spare = λ pop ex. k.spare }

-- where registers are the same by computation
pub still : {code : Option Beginning} {s t : Registers} → t.r / 128 ≡ s.r / 128 → t.main.f.bit5 ≡ s.main.f.bit5 → t.main.f.bit3 ≡ s.main.f.bit3 → Keeps code s t
still r five three = keeps (same r five three)

pub then : {s t u : Registers} → Same s t → Same t u → Same s u
then one two = record { refresh = two.refresh ∙ one.refresh; spare = (two.spare.0 ∙ one.spare.0, two.spare.1 ∙ one.spare.1) }

-- a change after another that leaves the same by computation
pub after : {code : Option Beginning} {s t u : Registers} → t.r / 128 ≡ s.r / 128 → t.main.f.bit5 ≡ s.main.f.bit5 → t.main.f.bit3 ≡ s.main.f.bit3 → Same t u → Keeps code s u
after r five three two = keeps (then (same r five three) two)

pub then_keeps : {code : Option Beginning} {s t u : Registers} → Same s t → Keeps code t u → Keeps code s u
then_keeps one two = record {
  refresh = λ other. two.refresh other ∙ one.refresh;
  spare = λ pop ex. ((two.spare pop ex).0 ∙ one.spare.0, (two.spare pop ex).1 ∙ one.spare.1);
}

-- behind an operand byte
abbrev pub passed : Processor → Processor
passed p = on_cpu (λ s. with_pc (up s.pc 1) s) p

pub counted_bit : (r : ℕ) → counted r / 128 ≡ r / 128
counted_bit r = omega arith

-- an operation's flags have the bits that its operand's had
pub operated_spare : (o : Operation) (a b : ℕ) (f : Flags) → SpareAlike (operations.apply o a b f).1 f
operated_spare operation.Add a b f = (refl, refl)
operated_spare operation.AddWithCarry a b f = (refl, refl)
operated_spare operation.Subtract a b f = (refl, refl)
operated_spare operation.SubtractWithCarry a b f = (refl, refl)
operated_spare operation.And a b f = (refl, refl)
operated_spare operation.Xor a b f = (refl, refl)
operated_spare operation.Or a b f = (refl, refl)
operated_spare operation.Compare a b f = (refl, refl)

pub rotated_spare : (kind : Rotate) (v : ℕ) (f : Flags) → SpareAlike (rotates.apply kind v f).1 f
rotated_spare rotate.Rlc v f = (refl, refl)
rotated_spare rotate.Rrc v f = (refl, refl)
rotated_spare rotate.Rl v f = (refl, refl)
rotated_spare rotate.Rr v f = (refl, refl)
rotated_spare rotate.Sla v f = (refl, refl)
rotated_spare rotate.Sra v f = (refl, refl)
rotated_spare rotate.Srl v f = (refl, refl)

-- registers by their names
pub of_register : (r : Register) (v : ℕ) (s : Registers) → Same s (with_register r v s)
of_register register.B v s = same refl refl refl
of_register register.C v s = same refl refl refl
of_register register.D v s = same refl refl refl
of_register register.E v s = same refl refl refl
of_register register.H v s = same refl refl refl
of_register register.L v s = same refl refl refl
of_register register.A v s = same refl refl refl

pub of_taking : (r : Register) (result : ℕ × Flags) (s : Registers) → SpareAlike result.1 s.main.f → Same s (taking r result s)
of_taking register.B result s h = same refl h.0 h.1
of_taking register.C result s h = same refl h.0 h.1
of_taking register.D result s h = same refl h.0 h.1
of_taking register.E result s h = same refl h.0 h.1
of_taking register.H result s h = same refl h.0 h.1
of_taking register.L result s h = same refl h.0 h.1
of_taking register.A result s h = same refl h.0 h.1

pub of_flags : (f : Flags) (s : Registers) → SpareAlike f s.main.f → Same s (with_f f s)
of_flags f s h = same refl h.0 h.1

pub of_pair : (x : Pair) (v : ℕ) (s : Registers) → Same s (with_pair x v s)
of_pair pair.Bc v s = same refl refl refl
of_pair pair.De v s = same refl refl refl
of_pair pair.Hl v s = same refl refl refl
of_pair pair.Sp v s = same refl refl refl

pub of_index : (i : Index) (v : ℕ) (s : Registers) → Same s (with_index i v s)
of_index index.Ix v s = same refl refl refl
of_index index.Iy v s = same refl refl refl

pub of_index_flags : (i : Index) (v : ℕ) (f : Flags) (s : Registers) → SpareAlike f s.main.f → Same s (with_index i v (with_f f s))
of_index_flags index.Ix v f s h = same refl h.0 h.1
of_index_flags index.Iy v f s h = same refl h.0 h.1

-- a write to an internal port
either : (s : Registers) (test : Bool) (p q : Processor) → Same s p.cpu → Same s q.cpu → Same s (cond test p q).cpu
either s true p q one two = one
either s false p q one two = two

pub of_port : (p : Processor) (low b : ℕ) → Same p.cpu (port_written p low b).cpu
of_port p low b =
    either p.cpu (eqb low 0x33) _ _ (same refl refl refl)
    (either p.cpu (eqb low 0x34) _ _ (same refl refl refl)
    (either p.cpu (eqb low 0x38) _ _ (same refl refl refl)
    (either p.cpu (eqb low 0x39) _ _ (same refl refl refl)
    (either p.cpu (eqb low 0x3A) _ _ (same refl refl refl)
    (either p.cpu (eqb low 0x3F) _ _ (same refl refl refl) (same refl refl refl))))))

pub of_output : (p : Processor) (port b : ℕ) → Same p.cpu (after_output p port b).cpu
of_output p port b =
    either p.cpu (is_internal p.cpu port) (port_written p (port % 64) b) p (of_port p (port % 64) b) (same refl refl refl)
