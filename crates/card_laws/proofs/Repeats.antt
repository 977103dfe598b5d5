-- The repeating forms on every card. Assumes nothing.
use Rattle.std.proofs.Common.{◌≡◌, ℕ, ◌/◌, ◌%◌, ◌<◌, Bool, true, false, cond, not, ◌&&◌, ◌||◌, T, eqb, List, [], ◌∷◌, sym, refl, ap, ◌∙◌, subst, arith}
use Rattle.std.proofs.lemmas.Bool.{eqb-true}
use Rattle.memory.specs.Memory.{Mem}
use Rattle.panel.specs.Panel.{Make}
use Rattle.arithmetic.specs.Block.{lowered}
use Rattle.registers.specs.declared.operand.Direction.{Direction}
use Rattle.registers.specs.declared.operand.Direction.TheVariants.{Down, Up}
use Rattle.registers.specs.Operands.{bc, hl}
use Rattle.registers.specs.Ports.{is_internal}
use Rattle.registers.specs.Registers.{Processor, down, word}
use Rattle.registers.specs.Window.{physical_of}
use Rattle.decoder.specs.Main as decode_main
use Rattle.instructions.specs.declared.group.block.Block.TheVariants as block
use Rattle.instructions.specs.declared.group.port.Port.TheVariants as port_of
use Rattle.cycles.specs.Play.{Began, play}
use Rattle.processor.specs.Block.{again_if, blocks}
use Rattle.processor.specs.Instruction.{behind_first}
use Rattle.processor.specs.Parts.{after_output}
use Rattle.processor.specs.Port.{again_at_zero, ports}
use Rattle.processor.specs.Step.{Model, began}
use Rattle.processor_laws.specs.EdPage as ed
use Rattle.card_laws.specs.Every.{behind_pc, more_to_do, total}
use Rattle.processor_laws.specs.Table.{entry, upto}
use Rattle.card_laws.proofs.Executing.{spent}
use Rattle.card_laws.proofs.Every.{after, at, counted_on, ed_takes}

-- a pair as a word is the word that was put into it
word_again : (v : ℕ) → word (v / 256) (v % 256) ≡ v
word_again v = omega arith

-- what is the same of both choices
same : {A B : Type 0} (f : A → B) (x : Bool) (a b : A) (v : B) → f a ≡ v → f b ≡ v → f (cond x a b) ≡ v
same f true a b v one other = one
same f false a b v one other = other

-- an output leaves B
b_of : Processor → ℕ
b_of p = p.cpu.main.b

out_b : (p : Processor) (port b : ℕ) → (after_output p port b).cpu.main.b ≡ p.cpu.main.b
unfolding b_of
out_b p port b =
    same b_of (is_internal p.cpu port) _ p _
    (same b_of (eqb (port % 64) 0x33) _ _ _ refl
    (same b_of (eqb (port % 64) 0x34) _ _ _ refl
    (same b_of (eqb (port % 64) 0x38) _ _ _ refl
    (same b_of (eqb (port % 64) 0x39) _ _ _ refl
    (same b_of (eqb (port % 64) 0x3A) _ _ _ refl
    (same b_of (eqb (port % 64) 0x3F) _ _ _ refl refl))))))
    refl

-- the two grids at a byte
by_grid : (b long short : ℕ) → entry ed.repeating b ≡ long → entry ed.ending b ≡ short → (x : Bool) → total (cond x long short) ≡ total (entry (cond x ed.repeating ed.ending) b)
by_grid b long short l s true = ap total (sym l)
by_grid b long short l s false = ap total (sym s)

module _ {S : Type 0} (make : Make S) (w : Began) where
  again : (n : ℕ) (m : Mem) (s : S) (x : Bool) (p : Processor) → (play make w (again_if {n = n} x p) (after m s 4 12)).world.tally ≡ total (cond x 514 412)
  unfolding after
  again n m s true p = refl
  again n m s false p = refl

  again_slow : (m : Mem) (s : S) (x : Bool) (p : Processor) → (play make w (again_at_zero x p) (after m s 5 13)).world.tally ≡ total (cond x 616 614)
  unfolding after
  again_slow m s true p = refl
  again_slow m s false p = refl

module _ {S : Type 0} (make : Make S) (w : Began) (m : Mem) (s : S) (p : Processor) (way : Direction) where
  transfer : (play make w (blocks (block.TransferRepeated way) p) (after m s 2 6)).world.tally ≡ total (cond (not (eqb (down (bc p.cpu) 1) 0)) 514 412)
  unfolding after
  transfer = again make w 1 _ s _ _ ∙ ap (λ (v : ℕ). total (cond (not (eqb v 0)) 514 412)) (word_again (down (bc p.cpu) 1))

  compare : (play make w (blocks (block.CompareRepeated way) p) (after m s 2 6)).world.tally ≡ total (cond (not (eqb (down (bc p.cpu) 1) 0) && not (eqb p.cpu.main.a (m.byte (physical_of w.window (hl p.cpu))))) 514 412)
  unfolding after
  compare =
      again make w 2 m s _ _ ∙ ap (λ (v : ℕ). total (cond (not (eqb v 0) && not (eqb p.cpu.main.a (m.byte (physical_of w.window (hl p.cpu))))) 514 412)) (word_again (down (bc p.cpu) 1))

  input : (play make w (ports (port_of.InputRepeated way) p) (after m s 2 6)).world.tally ≡ total (cond (not (eqb (lowered p.cpu.main.b) 0)) 514 412)
  unfolding after
  input = again make w 1 _ _ _ _

  output : (play make w (ports (port_of.OutputRepeated way) p) (after m s 2 6)).world.tally ≡ total (cond (not (eqb (lowered p.cpu.main.b) 0)) 514 412)
  unfolding after
  output = again make w 2 _ _ _ _ ∙ ap (λ (v : ℕ). total (cond (not (eqb (lowered v) 0)) 514 412)) (out_b p _ _)

  output_zero : (play make w (ports (port_of.OutputZeroRepeated way) p) (after m s 2 6)).world.tally ≡ total (cond (not (eqb (lowered p.cpu.main.b) 0)) 616 614)
  unfolding after
  output_zero = again_slow make w _ _ _ _ ∙ ap (λ (v : ℕ). total (cond (not (eqb (lowered v) 0)) 616 614)) (out_b p _ _)

-- the ten bytes of which the two grids differ
forms : List ℕ
forms = 0x93 ∷ 0x9B ∷ 0xB0 ∷ 0xB1 ∷ 0xB2 ∷ 0xB3 ∷ 0xB8 ∷ 0xB9 ∷ 0xBA ∷ 0xBB ∷ []

is_one : List ℕ → ℕ → Bool
is_one [] b = false
is_one (x ∷ xs) b = eqb b x || is_one xs b

OfEach : (ℕ → Type 0) → List ℕ → Type 0
OfEach P [] = Unit {0}
OfEach P (x ∷ xs) = P x × OfEach P xs

of_one : (P : ℕ → Type 0) (xs : List ℕ) → OfEach P xs → (b : ℕ) → T (is_one xs b) → P b
unfolding OfEach is_one
of_one P [] each b t = absurd t
of_one P (x ∷ xs) each b t = split (eqb b x) refl t (λ u. of_one P xs each.1 b u)
  where
    split : (here : Bool) → eqb b x ≡ here → T (here || is_one xs b) → (T (is_one xs b) → P b) → P b
    split true e u rest = subst P (sym (eqb-true b x e)) each.0
    split false e u rest = rest u

told_apart : ℕ → Bool
unfolding is_one forms
told_apart b = cond (eqb (entry ed.ending b) (entry ed.repeating b)) true (is_one forms b)

all_told : T (upto 256 told_apart)
unfolding told_apart is_one forms
all_told = tt

is_form : (b : ℕ) → b < 256 → eqb (entry ed.ending b) (entry ed.repeating b) ≡ false → T (is_one forms b)
unfolding told_apart
is_form b small differ = subst (λ (x : Bool). T (cond x true (is_one forms b))) differ (at 256 told_apart all_told b small)

module _ {S : Type 0} (make : Make S) (c : Model S) where
  Takes : ℕ → Type 0
  Takes b =
      ed_takes make (began c) c.processor.cpu.pc (counted_on (counted_on c.processor)) c.mem c.panel b ≡ total (entry (cond (more_to_do c b) ed.repeating ed.ending) b)

  each_takes : OfEach Takes forms
  unfolding OfEach Takes forms ed_takes after counted_on
  each_takes =
      let p = counted_on (counted_on c.processor) in
      let w = began c in
      let m = c.mem in
      let s = c.panel in (
        output_zero make w m s p Up ∙ by_grid 0x93 616 614 refl refl _,
        (
          output_zero make w m s p Down ∙ by_grid 0x9B 616 614 refl refl _,
          (
            transfer make w m s p Up ∙ by_grid 0xB0 514 412 refl refl _,
            (
              compare make w m s p Up ∙ by_grid 0xB1 514 412 refl refl _,
              (
                input make w m s p Up ∙ by_grid 0xB2 514 412 refl refl _,
                (
                  output make w m s p Up ∙ by_grid 0xB3 514 412 refl refl _,
                  (
                    transfer make w m s p Down ∙ by_grid 0xB8 514 412 refl refl _,
                    (
                      compare make w m s p Down ∙ by_grid 0xB9 514 412 refl refl _,
                      (
                        input make w m s p Down ∙ by_grid 0xBA 514 412 refl refl _,
                        (output make w m s p Down ∙ by_grid 0xBB 514 412 refl refl _, tt),
                      ),
                    ),
                  ),
                ),
              ),
            ),
          ),
        ),
      )

  pub repeated : (b : ℕ) → b < 256 → eqb (entry ed.ending b) (entry ed.repeating b) ≡ false → behind_pc c 0 ≡ 0xED → behind_pc c 1 ≡ b → spent make c ≡ total (entry (cond (more_to_do c b) ed.repeating ed.ending) b)
  unfolding Takes ed_takes after counted_on
  repeated b small differ one two =
      subst (λ (x : ℕ). (play make (began c) (behind_first (decode_main.decoded x) c.processor.cpu.pc (counted_on c.processor)) (after c.mem c.panel 1 3)).world.tally ≡ total (entry (cond (more_to_do c b) ed.repeating ed.ending) b)) (sym one)
      (subst (λ (x : ℕ). ed_takes make (began c) c.processor.cpu.pc (counted_on (counted_on c.processor)) c.mem c.panel x ≡ total (entry (cond (more_to_do c b) ed.repeating ed.ending) b)) (sym two)
      (of_one Takes forms each_takes b (is_form b small differ)))
