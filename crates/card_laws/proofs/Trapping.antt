-- Traps, by finding that each undefined byte decodes to nothing. Assumes nothing.
use Rattle.std.proofs.Common.{◌≡◌, ℕ, ◌<◌, Bool, true, false, cond, T, List, Some, None, Option, refl, ap, ◌∙◌, subst}
use Rattle.panel.specs.Panel.{Make}
use Rattle.registers.specs.declared.operand.Index.{Index}
use Rattle.registers.specs.declared.operand.Index.TheVariants.{Ix, Iy}
use Rattle.registers.specs.declared.registers.Mode.TheVariants.{Running}
use Rattle.registers.specs.Registers.{up}
use Rattle.decoder.specs.declared.page.Second.{Second}
use Rattle.decoder.specs.declared.page.Second.TheVariants as second
use Rattle.decoder.specs.Cb as decode_cb
use Rattle.decoder.specs.Ed as decode_ed
use Rattle.decoder.specs.Indexed as decode_indexed
use Rattle.decoder.specs.IndexedCb as decode_indexed_cb
use Rattle.decoder.specs.Main as decode_main
use Rattle.instructions.specs.declared.instruction.Instruction.{Instruction}
use Rattle.cycles.specs.Play.{play}
use Rattle.processor.specs.Instruction.{behind_first, behind_index, or_trap}
use Rattle.processor.specs.Step.{Model, Turn, began, ended, step}
use Rattle.processor_laws.specs.CbPage as cb
use Rattle.processor_laws.specs.EdPage as ed
use Rattle.card_laws.specs.Every.{behind_pc}
use Rattle.card_laws.specs.Executes.{Executes}
use Rattle.card_laws.specs.Frame.{Frame, second_trap, third_trap}
use Rattle.processor_laws.specs.IndexedPage as indexed
use Rattle.processor_laws.specs.IndexedCbPage as indexed_cb
use Rattle.processor_laws.specs.Table.{in_ranges, upto}
use Rattle.card_laws.proofs.Every.{after, at, counted_on, passed}
use Rattle.card_laws.proofs.Executing.{executing, started}

-- no instruction, and no page either
is_none : Option Instruction → Bool
is_none (Some i) = false
is_none None = true

none : (o : Option Instruction) → T (is_none o) → o ≡ None
unfolding is_none
none (Some i) t = absurd t
none None t = refl

is_undefined : Second → Bool
is_undefined (second.Instruction i) = false
is_undefined second.BitsPrefix = false
is_undefined second.Undefined = true

undefined : (o : Second) → T (is_undefined o) → o ≡ second.Undefined
unfolding is_undefined
undefined (second.Instruction i) t = absurd t
undefined second.BitsPrefix t = absurd t
undefined second.Undefined t = refl

-- a test that holds of every byte of some ranges
abbrev among : List (ℕ × ℕ) → (ℕ → Bool) → ℕ → Bool
among ranges test b = cond (in_ranges ranges b) (test b) true

one_among : (ranges : List (ℕ × ℕ)) (test : ℕ → Bool) → T (upto 256 (among ranges test)) → (b : ℕ) → b < 256 → in_ranges ranges b ≡ true → T (test b)
one_among ranges test all b small e = subst (λ (x : Bool). T (cond x (test b) true)) e (at 256 (among ranges test) all b small)

cb_none : (b : ℕ) → b < 256 → in_ranges cb.undefined b ≡ true → decode_cb.decoded b ≡ None
unfolding is_none
cb_none b small e = none (decode_cb.decoded b) (one_among cb.undefined (λ x. is_none (decode_cb.decoded x)) tt b small e)

ed_none : (b : ℕ) → b < 256 → in_ranges ed.undefined b ≡ true → decode_ed.decoded b ≡ None
unfolding is_none
ed_none b small e = none (decode_ed.decoded b) (one_among ed.undefined (λ x. is_none (decode_ed.decoded x)) tt b small e)

all_indexed : (i : Index) → T (upto 256 (among indexed.undefined (λ x. is_undefined (decode_indexed.decoded i x))))
unfolding is_undefined
all_indexed Ix = tt
all_indexed Iy = tt

indexed_none : (i : Index) (b : ℕ) → b < 256 → in_ranges indexed.undefined b ≡ true → decode_indexed.decoded i b ≡ second.Undefined
indexed_none i b small e = undefined (decode_indexed.decoded i b) (one_among indexed.undefined (λ x. is_undefined (decode_indexed.decoded i x)) (all_indexed i) b small e)

all_third : (i : Index) → T (upto 256 (among indexed_cb.undefined (λ x. is_none (decode_indexed_cb.decoded i x))))
unfolding is_none
all_third Ix = tt
all_third Iy = tt

third_none : (i : Index) (b : ℕ) → b < 256 → in_ranges indexed_cb.undefined b ≡ true → decode_indexed_cb.decoded i b ≡ None
third_none i b small e = none (decode_indexed_cb.decoded i b) (one_among indexed_cb.undefined (λ x. is_none (decode_indexed_cb.decoded i x)) (all_third i) b small e)

module _ {S : Type 0} (make : Make S) (c : Model S) (h : Executes make c) where
  -- the step behind its first opcode byte, and behind its second on each page
  behind_one : ℕ → Turn S
  unfolding counted_on after
  behind_one x =
      ended make (play make (began c) (behind_first (decode_main.decoded x) c.processor.cpu.pc (counted_on (started Running c.processor))) (after c.mem c.panel 1 3))

  plain : Option Instruction → Turn S
  unfolding counted_on after
  plain o =
      ended make (play make (began c) (or_trap o 0 0 (up c.processor.cpu.pc 1) (counted_on (counted_on (started Running c.processor)))) (after c.mem c.panel 2 6))

  by_index : Index → Second → Turn S
  unfolding counted_on after
  by_index i o =
      ended make (play make (began c) (behind_index o i c.processor.cpu.pc (counted_on (counted_on (started Running c.processor)))) (after c.mem c.panel 2 6))

  by_third : Option Instruction → Turn S
  unfolding counted_on passed after
  by_third o =
      ended make (play make (began c) (or_trap o (behind_pc c 2) 1 (up c.processor.cpu.pc 2) (counted_on (passed (counted_on (counted_on (started Running c.processor)))))) (after c.mem c.panel 4 12))

  first_byte : (x : ℕ) → behind_pc c 0 ≡ x → step make c ≡ behind_one x
  unfolding behind_one counted_on after
  first_byte x one = executing make c h ∙ ap behind_one one

  pub cb_page : (b : ℕ) → b < 256 → in_ranges cb.undefined b ≡ true → behind_pc c 0 ≡ 0xCB → behind_pc c 1 ≡ b → step make c ≡ second_trap make c
  unfolding behind_one plain counted_on after
  cb_page b small e one two =
      first_byte 0xCB one ∙ (ap (λ (x : ℕ). plain (decode_cb.decoded x)) two ∙ ap plain (cb_none b small e))

  pub ed_page : (b : ℕ) → b < 256 → in_ranges ed.undefined b ≡ true → behind_pc c 0 ≡ 0xED → behind_pc c 1 ≡ b → step make c ≡ second_trap make c
  unfolding behind_one plain counted_on after
  ed_page b small e one two =
      first_byte 0xED one ∙ (ap (λ (x : ℕ). plain (decode_ed.decoded x)) two ∙ ap plain (ed_none b small e))

  pub dd_page : (b : ℕ) → b < 256 → in_ranges indexed.undefined b ≡ true → behind_pc c 0 ≡ 0xDD → behind_pc c 1 ≡ b → step make c ≡ second_trap make c
  unfolding behind_one by_index counted_on after
  dd_page b small e one two =
      first_byte 0xDD one ∙ (ap (λ (x : ℕ). by_index Ix (decode_indexed.decoded Ix x)) two ∙ ap (by_index Ix) (indexed_none Ix b small e))

  pub fd_page : (b : ℕ) → b < 256 → in_ranges indexed.undefined b ≡ true → behind_pc c 0 ≡ 0xFD → behind_pc c 1 ≡ b → step make c ≡ second_trap make c
  unfolding behind_one by_index counted_on after
  fd_page b small e one two =
      first_byte 0xFD one ∙ (ap (λ (x : ℕ). by_index Iy (decode_indexed.decoded Iy x)) two ∙ ap (by_index Iy) (indexed_none Iy b small e))

  pub dd_cb_page : (b : ℕ) → b < 256 → in_ranges indexed_cb.undefined b ≡ true → behind_pc c 0 ≡ 0xDD → behind_pc c 1 ≡ 0xCB → behind_pc c 3 ≡ b → step make c ≡ third_trap make c
  unfolding behind_one by_index by_third counted_on passed after
  dd_cb_page b small e one two last =
      first_byte 0xDD one ∙ (ap (λ (x : ℕ). by_index Ix (decode_indexed.decoded Ix x)) two ∙ (ap (λ (x : ℕ). by_third (decode_indexed_cb.decoded Ix x)) last ∙ ap by_third (third_none Ix b small e)))

  pub fd_cb_page : (b : ℕ) → b < 256 → in_ranges indexed_cb.undefined b ≡ true → behind_pc c 0 ≡ 0xFD → behind_pc c 1 ≡ 0xCB → behind_pc c 3 ≡ b → step make c ≡ third_trap make c
  unfolding behind_one by_index by_third counted_on passed after
  fd_cb_page b small e one two last =
      first_byte 0xFD one ∙ (ap (λ (x : ℕ). by_index Iy (decode_indexed.decoded Iy x)) two ∙ (ap (λ (x : ℕ). by_third (decode_indexed_cb.decoded Iy x)) last ∙ ap by_third (third_none Iy b small e)))

pub frame : {S : Type 0} (make : Make S) → Frame make
frame make = record {
  cb_page = λ c b h. cb_page make c h b;
  ed_page = λ c b h. ed_page make c h b;
  dd_page = λ c b h. dd_page make c h b;
  fd_page = λ c b h. fd_page make c h b;
  dd_cb_page = λ c b h. dd_cb_page make c h b;
  fd_cb_page = λ c b h. fd_cb_page make c h b;
}
