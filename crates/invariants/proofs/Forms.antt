-- What is asked of an instruction behind so many bytes of opcode, and how a field hands it on. Assumes nothing.
use Rattle.std.proofs.Common.{ℕ, Bool, true, false, cond, T, eqb, leb, Some, None, Option}
use Rattle.panel.specs.Panel.{Make}
use Rattle.registers.specs.Registers.{Processor}
use Rattle.instructions.specs.declared.instruction.Instruction.{Instruction}
use Rattle.instructions.specs.Length.{length}
use Rattle.decoder.specs.declared.page.First.{First}
use Rattle.decoder.specs.declared.page.First.TheVariants as first
use Rattle.decoder.specs.declared.page.Page.{Page}
use Rattle.decoder.specs.declared.page.Second.{Second}
use Rattle.decoder.specs.declared.page.Second.TheVariants as second
use Rattle.decoder.specs.Field.{one_of_2, one_of_4, one_of_8}
use Rattle.beginning.specs.declared.Beginning.TheVariants as code
use Rattle.cycles.specs.Play.{Began, World}
use Rattle.processor.specs.Instruction.{carried_out}
use Rattle.invariants.proofs.Kept.{Keeps}
use Rattle.invariants.proofs.Orderly.{Orderly, Room}

-- what holds of both ways holds of what a test chooses
pub chosen : {A : Type 0} (P : A → Type 0) (test : Bool) {a b : A} → P a → P b → P (cond test a b)
chosen P true one two = one
chosen P false one two = two

pub of_2 : {A : Type 0} (P : A → Type 0) (n : ℕ) {a b : A} → P a → P b → P (one_of_2 n a b)
of_2 P n pa pb = chosen P (eqb n 0) pa pb

pub of_4 : {A : Type 0} (P : A → Type 0) (n : ℕ) {a b c d : A} → P a → P b → P c → P d → P (one_of_4 n a b c d)
of_4 P n pa pb pc pd = chosen P (eqb n 0) pa (chosen P (eqb n 1) pb (chosen P (eqb n 2) pc pd))

pub of_8 : {A : Type 0} (P : A → Type 0) (n : ℕ) {a b c d e f g h : A} → P a → P b → P c → P d → P e → P f → P g → P h → P (one_of_8 n a b c d e f g h)
of_8 P n pa pb pc pd pe pf pg ph =
    chosen P (eqb n 0) pa (chosen P (eqb n 1) pb (chosen P (eqb n 2) pc (chosen P (eqb n 3) pd (chosen P (eqb n 4) pe (chosen P (eqb n 5) pf (chosen P (eqb n 6) pg ph))))))

module _ {S : Type 0} (make : Make S) (began : Began) (s : S) where
  -- behind k bytes an instruction fetches within its length, finds room, and keeps what it should
  abbrev pub Works : ℕ → Instruction → Type 0
  Works k i =
      (d : ℕ) (p : Processor) (v : World S) → Room make began s v →
      Orderly make began s (λ q. Keeps (Some (code.Instruction i)) p.cpu q.cpu) (length i) k p.cpu.pc (carried_out i d p) v

  pub record Fits (k : ℕ) (i : Instruction) : Type 0 where
    pub least : T (leb k (length i))
    pub most : T (leb (length i) 4)
    pub works : Works k i

  -- the same of what a page answers
  abbrev pub FirstCase : First → Type 0
  FirstCase (first.Instruction i) = Fits 1 i
  FirstCase (first.Prefix x) = Unit {0}

  pub record FirstFits (f : First) : Type 0 where
    pub is : FirstCase f

  abbrev pub OptionCase : ℕ → Option Instruction → Type 0
  OptionCase k (Some i) = Fits k i
  OptionCase k None = Unit {0}

  pub record OptionFits (k : ℕ) (o : Option Instruction) : Type 0 where
    pub is : OptionCase k o

  abbrev pub SecondCase : Second → Type 0
  SecondCase (second.Instruction i) = Fits 2 i
  SecondCase second.BitsPrefix = Unit {0}
  SecondCase second.Undefined = Unit {0}

  pub record SecondFits (f : Second) : Type 0 where
    pub is : SecondCase f

module _ {S : Type 0} {make : Make S} {began : Began} {s : S} where
  pub fits : {k : ℕ} {i : Instruction} → T (leb k (length i)) → T (leb (length i) 4) → Works make began s k i → Fits make began s k i
  fits least most works = record { least = least; most = most; works = works }

  pub first_fits : {i : Instruction} → Fits make began s 1 i → FirstFits make began s (first.Instruction i)
  first_fits h = record { is = h }

  pub prefix_fits : {x : Page} → FirstFits make began s (first.Prefix x)
  prefix_fits = record { is = tt }

  pub some_fits : {k : ℕ} {i : Instruction} → Fits make began s k i → OptionFits make began s k (Some i)
  some_fits h = record { is = h }

  pub none_fits : {k : ℕ} → OptionFits make began s k None
  none_fits = record { is = tt }

  pub second_fits : {i : Instruction} → Fits make began s 2 i → SecondFits make began s (second.Instruction i)
  second_fits h = record { is = h }

  pub bits_fits : SecondFits make began s second.BitsPrefix
  bits_fits = record { is = tt }

  pub undefined_fits : SecondFits make began s second.Undefined
  undefined_fits = record { is = tt }
