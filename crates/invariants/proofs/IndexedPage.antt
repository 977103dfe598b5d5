-- Each instruction of the page behind DDH or FDH is orderly. Assumes nothing.
use Rattle.std.proofs.Common.{ℕ, eqb, Some, None, Option, refl}
use Rattle.panel.specs.Panel.{Make}
use Rattle.arithmetic.specs.declared.operation.Operation.{Operation}
use Rattle.registers.specs.declared.operand.Index.{Index}
use Rattle.registers.specs.declared.operand.Register.{Register}
use Rattle.registers.specs.declared.operand.Register.TheVariants as register
use Rattle.registers.specs.Ports.{on_cpu}
use Rattle.registers.specs.Registers.{up, with_sp}
use Rattle.decoder.specs.declared.page.Second.{Second}
use Rattle.decoder.specs.Field as field
use Rattle.decoder.specs.Indexed as indexed
use Rattle.cycles.specs.Play.{Began}
use Rattle.invariants.proofs.Kept.{after, keeps, of_index, of_index_flags, of_register, of_taking, operated_spare, passed, still}
use Rattle.invariants.proofs.Forms as forms
use Rattle.invariants.proofs.Forms.{bits_fits, chosen, fits, of_2, of_4, of_8, second_fits, undefined_fits}

module _ {S : Type 0} (make : Make S) (began : Began) (s : S) where
  abbrev Fits : Second → Type 0
  Fits f = forms.SecondFits make began s f

  only : (value y : ℕ) (a : Second) → Fits a → Fits (indexed.only value y a)
  only value y a h = chosen Fits (eqb y value) h undefined_fits

  words : (i : Index) (y : ℕ) → Fits (indexed.words i y)
  words i y =
      of_2 Fits (field.q y)
      (only 4 y _ (second_fits (fits tt tt (λ d p v room. (tt, refl, (tt, refl, after refl refl refl (of_index i _ (passed (passed p)).cpu)))))))
      (second_fits (fits tt tt (λ d p v room. keeps (of_index_flags i _ _ _ (refl, refl)))))

  addressed : (i : Index) (y : ℕ) → Fits (indexed.addressed i y)
  addressed i y =
      chosen Fits (eqb y 4)
      (second_fits (fits tt tt (λ d p v room. (tt, refl, (tt, refl, still refl refl refl)))))
      (only 5 y _ (second_fits (fits tt tt (λ d p v room. (tt, refl, (tt, refl, after refl refl refl (of_index i _ (passed (passed p)).cpu)))))))

  counted_words : (i : Index) (y : ℕ) → Fits (indexed.counted_words i y)
  counted_words i y =
      chosen Fits (eqb y 4)
      (second_fits (fits tt tt (λ d p v room. keeps (of_index i _ _))))
      (only 5 y _ (second_fits (fits tt tt (λ d p v room. keeps (of_index i _ _)))))

  low : (i : Index) (y z : ℕ) → Fits (indexed.low i y z)
  low i y z =
      of_8 Fits z
      undefined_fits
      (words i y)
      (addressed i y)
      (counted_words i y)
      (only 6 y _ (second_fits (fits tt tt (λ d p v room. (tt, refl, still refl refl refl)))))
      (only 6 y _ (second_fits (fits tt tt (λ d p v room. (tt, refl, still refl refl refl)))))
      (only 6 y _ (second_fits (fits tt tt (λ d p v room. (tt, refl, (tt, refl, still refl refl refl))))))
      undefined_fits

  moved : (i : Index) (to from : Option Register) → Fits (indexed.moved i to from)
  moved i (Some to) (Some from) = undefined_fits
  moved i (Some to) None = second_fits (fits tt tt (λ d p v room. (tt, refl, after refl refl refl (of_register to _ (passed p).cpu))))
  moved i None (Some from) = second_fits (fits tt tt (λ d p v room. (tt, refl, still refl refl refl)))
  moved i None None = undefined_fits

  operated : (i : Index) (o : Operation) (z : ℕ) → Fits (indexed.operated i o z)
  operated i o z =
      chosen Fits (eqb z 6)
      (second_fits (fits tt tt (λ d p v room. (tt, refl, after refl refl refl (of_taking register.A _ (passed p).cpu (operated_spare o _ _ _))))))
      undefined_fits

  popped : (i : Index) (y : ℕ) → Fits (indexed.popped i y)
  popped i y =
      chosen Fits (eqb y 4)
      (second_fits (fits tt tt (λ d p v room. after refl refl refl (of_index i _ (on_cpu (with_sp (up p.cpu.sp 2)) p).cpu))))
      (chosen Fits (eqb y 5)
      (second_fits (fits tt tt (λ d p v room. still refl refl refl)))
      (only 7 y _ (second_fits (fits tt tt (λ d p v room. still refl refl refl)))))

  others : (i : Index) (y : ℕ) → Fits (indexed.others i y)
  others i y =
      chosen Fits (eqb y 1) bits_fits (only 4 y _ (second_fits (fits tt tt (λ d p v room. keeps (of_index i _ _)))))

  high : (i : Index) (y z : ℕ) → Fits (indexed.high i y z)
  high i y z =
      of_8 Fits z
      undefined_fits
      (popped i y)
      undefined_fits
      (others i y)
      undefined_fits
      (only 4 y _ (second_fits (fits tt tt (λ d p v room. still refl refl refl))))
      undefined_fits
      undefined_fits

  pub page : (i : Index) (byte : ℕ) → Fits (indexed.decoded i byte)
  page i byte =
      of_4 Fits (field.x byte)
      (low i (field.y byte) (field.z byte))
      (moved i (field.register (field.y byte)) (field.register (field.z byte)))
      (operated i (field.operation (field.y byte)) (field.z byte))
      (high i (field.y byte) (field.z byte))
