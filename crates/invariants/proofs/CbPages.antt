-- Each instruction of the pages behind CBH, and behind DDH CBH and FDH CBH, is orderly. Assumes nothing.
use Rattle.std.proofs.Common.{ℕ, eqb, Some, None, Option, refl}
use Rattle.panel.specs.Panel.{Make}
use Rattle.arithmetic.specs.declared.rotate.Rotate.{Rotate}
use Rattle.registers.specs.declared.operand.Index.{Index}
use Rattle.registers.specs.declared.operand.Register.{Register}
use Rattle.instructions.specs.declared.instruction.Instruction.{Instruction}
use Rattle.decoder.specs.Cb as cb
use Rattle.decoder.specs.Field as field
use Rattle.decoder.specs.IndexedCb as indexed_cb
use Rattle.cycles.specs.Play.{Began}
use Rattle.invariants.proofs.Kept.{keeps, of_flags, of_taking, rotated_spare, still}
use Rattle.invariants.proofs.Forms as forms
use Rattle.invariants.proofs.Forms.{chosen, fits, none_fits, of_4, some_fits}

module _ {S : Type 0} (make : Make S) (began : Began) (s : S) where
  abbrev Fits : ℕ → Instruction → Type 0
  Fits k i = forms.Fits make began s k i

  abbrev OptionFits : ℕ → Option Instruction → Type 0
  OptionFits k o = forms.OptionFits make began s k o

  rotated : (kind : Option Rotate) (r : Option Register) → OptionFits 2 (cb.rotated kind r)
  rotated (Some kind) (Some r) = some_fits (fits tt tt (λ d p v room. keeps (of_taking r _ _ (rotated_spare kind _ _))))
  rotated (Some kind) None = some_fits (fits tt tt (λ d p v room. keeps (of_flags _ _ (rotated_spare kind _ _))))
  rotated None r = none_fits

  tested : (b : ℕ) (r : Option Register) → Fits 2 (cb.tested b r)
  tested b (Some r) = fits tt tt (λ d p v room. still refl refl refl)
  tested b None = fits tt tt (λ d p v room. still refl refl refl)

  reset : (b : ℕ) (r : Option Register) → Fits 2 (cb.reset b r)
  reset b (Some r) = fits tt tt (λ d p v room. keeps (of_taking r _ _ (refl, refl)))
  reset b None = fits tt tt (λ d p v room. still refl refl refl)

  set : (b : ℕ) (r : Option Register) → Fits 2 (cb.set b r)
  set b (Some r) = fits tt tt (λ d p v room. keeps (of_taking r _ _ (refl, refl)))
  set b None = fits tt tt (λ d p v room. still refl refl refl)

  pub page : (byte : ℕ) → OptionFits 2 (cb.decoded byte)
  page byte =
      of_4 (OptionFits 2) (field.x byte)
      (rotated (field.rotate (field.y byte)) (field.register (field.z byte)))
      (some_fits (tested (field.y byte) (field.register (field.z byte))))
      (some_fits (reset (field.y byte) (field.register (field.z byte))))
      (some_fits (set (field.y byte) (field.register (field.z byte))))

  rotated_indexed : (i : Index) (kind : Option Rotate) → OptionFits 4 (indexed_cb.rotated i kind)
  rotated_indexed i (Some kind) = some_fits (fits tt tt (λ d p v room. keeps (of_flags _ _ (rotated_spare kind _ _))))
  rotated_indexed i None = none_fits

  pub indexed_page : (i : Index) (byte : ℕ) → OptionFits 4 (indexed_cb.decoded i byte)
  indexed_page i byte =
      chosen (OptionFits 4) (eqb (field.z byte) 6)
      (of_4 (OptionFits 4) (field.x byte)
      (rotated_indexed i (field.rotate (field.y byte)))
      (some_fits (fits tt tt (λ d p v room. still refl refl refl)))
      (some_fits (fits tt tt (λ d p v room. still refl refl refl)))
      (some_fits (fits tt tt (λ d p v room. still refl refl refl))))
      none_fits
