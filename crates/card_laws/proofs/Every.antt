-- The totals on every card, by computing each byte with the rest of the card unknown. Assumes nothing.
use Rattle.std.proofs.Common.{◌≡◌, ℕ, zero, suc, ◌/◌, ◌%◌, ◌<◌, Bool, true, false, cond, ◌&&◌, T, eqb, ◌⊎◌, sym, refl, subst, inl, inr, arith}
use Rattle.std.proofs.lemmas.Bool.Decides.{nat_tests}
use Rattle.std.proofs.lemmas.Bool.{eqb-true}
use Rattle.memory.specs.Memory.{Mem}
use Rattle.panel.specs.Panel.{Make}
use Rattle.registers.specs.Registers.{Processor, up}
use Rattle.registers.specs.Ports.{on_cpu}
use Rattle.registers.specs.Registers.{counted, with_pc, with_r}
use Rattle.decoder.specs.Main as decode_main
use Rattle.registers.specs.declared.operand.Index.{Index}
use Rattle.registers.specs.declared.operand.Index.TheVariants.{Ix, Iy}
use Rattle.decoder.specs.Cb as decode_cb
use Rattle.decoder.specs.Ed as decode_ed
use Rattle.decoder.specs.Indexed as decode_indexed
use Rattle.decoder.specs.IndexedCb as decode_indexed_cb
use Rattle.cycles.specs.Play.{Began, Tally, World, play, world}
use Rattle.processor.specs.Instruction.{behind_first, behind_index, or_trap}
use Rattle.processor.specs.Step.{Model, began}
use Rattle.processor_laws.specs.CbPage as cb
use Rattle.processor_laws.specs.EdPage as ed
use Rattle.processor_laws.specs.IndexedPage as indexed
use Rattle.processor_laws.specs.IndexedCbPage as indexed_cb
use Rattle.processor_laws.specs.MainPage as main
use Rattle.card_laws.specs.Every.{Every, Plain, behind_pc, total}
use Rattle.card_laws.proofs.Executing.{begun, spent, step_takes}
use Rattle.processor_laws.specs.Table.{Grid, entry, is_instruction, upto}

first : (a b : Bool) → T (a && b) → T a
first true b t = tt
first false b t = t

second : (a b : Bool) → T (a && b) → T b
second true b t = t
second false b t = absurd t

last_or_below : (n k : ℕ) → k < suc n → (k ≡ n) ⊎ (k < n)
last_or_below n k h = search arith

pub at : (n : ℕ) (p : ℕ → Bool) → T (upto n p) → (k : ℕ) → k < n → T (p k)
at zero p t k h = let no : ⊥ = omega arith in absurd no
at (suc n) p t k h =
    elim (last_or_below n k h) [ inl e ↦ subst (λ (m : ℕ). T (p m)) (sym e) (first (p n) (upto n p) t) | inr l ↦ at n p (second (p n) (upto n p) t) k l ]

pub is_true : (b : Bool) → T b → b ≡ true
is_true true t = refl
is_true false t = absurd t

-- a byte that goes one way takes what its grid says, by the tree of each byte
right : Grid → Grid → (ℕ → Tally) → ℕ → Bool
right shorter longer takes b =
    cond (is_instruction shorter b)
    (cond (eqb (entry shorter b) (entry longer b)) (eqb (takes b).cycles (entry shorter b / 100) && eqb (takes b).states (entry shorter b % 100)) true)
    true

pub same_time : (x : Tally) (e : ℕ) → T (eqb x.cycles (e / 100) && eqb x.states (e % 100)) → x ≡ total e
same_time x e t =
    pair (eqb-true x.cycles (e / 100) (is_true (eqb x.cycles (e / 100)) (first (eqb x.cycles (e / 100)) (eqb x.states (e % 100)) t)))
    (eqb-true x.states (e % 100) (is_true (eqb x.states (e % 100)) (second (eqb x.cycles (e / 100)) (eqb x.states (e % 100)) t)))
  where
    pair : x.cycles ≡ e / 100 → x.states ≡ e % 100 → x ≡ total e
    pair p q = λ i. record { cycles = p i; states = q i }

met : (shorter longer : Grid) (takes : ℕ → Tally) (b : ℕ) → T (right shorter longer takes b) → Plain shorter longer b → takes b ≡ total (entry shorter b)
unfolding right
met shorter longer takes b t h = both (is_instruction shorter b) (eqb (entry shorter b) (entry longer b)) t h.defined h.one_way
  where
    both : (x y : Bool) → T (cond x (cond y (eqb (takes b).cycles (entry shorter b / 100) && eqb (takes b).states (entry shorter b % 100)) true) true) → x ≡ true → y ≡ true → takes b ≡ total (entry shorter b)
    both true true u p q = same_time (takes b) (entry shorter b) u
    both true false u p q = search nat_tests
    both false y u p q = search nat_tests

-- the time after a number of opcode bytes
unfoldable pub after : {S : Type 0} → Mem → S → ℕ → ℕ → World S
after m s n k = world m s (record { cycles = n; states = k })

-- every byte of a page was computed, so a plain one takes its total
timed : (shorter longer : Grid) (takes : ℕ → Tally) → T (upto 256 (right shorter longer takes)) → (b : ℕ) → Plain shorter longer b → takes b ≡ total (entry shorter b)
timed shorter longer takes all b h = met shorter longer takes b (at 256 (right shorter longer takes) all b h.small) h

-- the processor behind an opcode byte, and behind an operand byte
unfoldable pub counted_on : Processor → Processor
counted_on p = on_cpu (λ s. with_r (counted s.r) (with_pc (up s.pc 1) s)) p

unfoldable pub passed : Processor → Processor
passed p = on_cpu (λ s. with_pc (up s.pc 1) s) p

unfoldable pub main_takes : {S : Type 0} → Make S → Began → ℕ → Processor → Mem → S → ℕ → Tally
unfolding after
main_takes make w start p m s b = (play make w (behind_first (decode_main.decoded b) start p) (after m s 1 3)).world.tally

main_all : {S : Type 0} (make : Make S) (w : Began) (start : ℕ) (p : Processor) (m : Mem) (s : S) → T (upto 256 (right main.shorter main.longer (main_takes make w start p m s)))
unfolding right main_takes after
main_all make w start p m s = tt

cb_takes : {S : Type 0} → Make S → Began → ℕ → Processor → Mem → S → ℕ → Tally
unfolding after
cb_takes make w start p m s b = (play make w (or_trap (decode_cb.decoded b) 0 0 (up start 1) p) (after m s 2 6)).world.tally

cb_all : {S : Type 0} (make : Make S) (w : Began) (start : ℕ) (p : Processor) (m : Mem) (s : S) → T (upto 256 (right cb.totals cb.totals (cb_takes make w start p m s)))
unfolding right cb_takes after
cb_all make w start p m s = tt

unfoldable pub ed_takes : {S : Type 0} → Make S → Began → ℕ → Processor → Mem → S → ℕ → Tally
unfolding after
ed_takes make w start p m s b = (play make w (or_trap (decode_ed.decoded b) 0 0 (up start 1) p) (after m s 2 6)).world.tally

ed_all : {S : Type 0} (make : Make S) (w : Began) (start : ℕ) (p : Processor) (m : Mem) (s : S) → T (upto 256 (right ed.ending ed.repeating (ed_takes make w start p m s)))
unfolding right ed_takes after
ed_all make w start p m s = tt

indexed_takes : {S : Type 0} → Index → Make S → Began → ℕ → Processor → Mem → S → ℕ → Tally
unfolding after
indexed_takes i make w start p m s b = (play make w (behind_index (decode_indexed.decoded i b) i start p) (after m s 2 6)).world.tally

indexed_all : {S : Type 0} (i : Index) (make : Make S) (w : Began) (start : ℕ) (p : Processor) (m : Mem) (s : S) → T (upto 256 (right indexed.totals indexed.totals (indexed_takes i make w start p m s)))
unfolding right indexed_takes after
indexed_all Ix make w start p m s = tt
indexed_all Iy make w start p m s = tt

indexed_cb_takes : {S : Type 0} → Index → ℕ → Make S → Began → ℕ → Processor → Mem → S → ℕ → Tally
unfolding after
indexed_cb_takes i d make w start p m s b = (play make w (or_trap (decode_indexed_cb.decoded i b) d 1 (up start 2) p) (after m s 4 12)).world.tally

indexed_cb_all : {S : Type 0} (i : Index) (d : ℕ) (make : Make S) (w : Began) (start : ℕ) (p : Processor) (m : Mem) (s : S) → T (upto 256 (right indexed_cb.totals indexed_cb.totals (indexed_cb_takes i d make w start p m s)))
unfolding right indexed_cb_takes after
indexed_cb_all Ix d make w start p m s = tt
indexed_cb_all Iy d make w start p m s = tt

main_page : {S : Type 0} (make : Make S) (c : Model S) (b : ℕ) → Plain main.shorter main.longer b → behind_pc c 0 ≡ b → spent make c ≡ total (entry main.shorter b)
unfolding counted_on passed main_takes after
main_page make c b h one =
    (subst (λ (x : ℕ). main_takes make (began c) c.processor.cpu.pc (counted_on c.processor) c.mem c.panel x ≡ total (entry main.shorter b)) (sym one) (timed main.shorter main.longer (main_takes make (began c) c.processor.cpu.pc (counted_on c.processor) c.mem c.panel) (main_all make (began c) c.processor.cpu.pc (counted_on c.processor) c.mem c.panel) b h))

cb_page : {S : Type 0} (make : Make S) (c : Model S) (b : ℕ) → Plain cb.totals cb.totals b → behind_pc c 0 ≡ 0xCB → behind_pc c 1 ≡ b → spent make c ≡ total (entry cb.totals b)
unfolding counted_on passed cb_takes after
cb_page make c b h one two =
    subst (λ (x : ℕ). (play make (began c) (behind_first (decode_main.decoded x) c.processor.cpu.pc (counted_on c.processor)) (after c.mem c.panel 1 3)).world.tally ≡ total (entry cb.totals b)) (sym one)
    (subst (λ (x : ℕ). cb_takes make (began c) c.processor.cpu.pc (counted_on (counted_on c.processor)) c.mem c.panel x ≡ total (entry cb.totals b)) (sym two) (timed cb.totals cb.totals (cb_takes make (began c) c.processor.cpu.pc (counted_on (counted_on c.processor)) c.mem c.panel) (cb_all make (began c) c.processor.cpu.pc (counted_on (counted_on c.processor)) c.mem c.panel) b h))

ed_page : {S : Type 0} (make : Make S) (c : Model S) (b : ℕ) → Plain ed.ending ed.repeating b → behind_pc c 0 ≡ 0xED → behind_pc c 1 ≡ b → spent make c ≡ total (entry ed.ending b)
unfolding counted_on passed ed_takes after
ed_page make c b h one two =
    subst (λ (x : ℕ). (play make (began c) (behind_first (decode_main.decoded x) c.processor.cpu.pc (counted_on c.processor)) (after c.mem c.panel 1 3)).world.tally ≡ total (entry ed.ending b)) (sym one)
    (subst (λ (x : ℕ). ed_takes make (began c) c.processor.cpu.pc (counted_on (counted_on c.processor)) c.mem c.panel x ≡ total (entry ed.ending b)) (sym two) (timed ed.ending ed.repeating (ed_takes make (began c) c.processor.cpu.pc (counted_on (counted_on c.processor)) c.mem c.panel) (ed_all make (began c) c.processor.cpu.pc (counted_on (counted_on c.processor)) c.mem c.panel) b h))

dd_page : {S : Type 0} (make : Make S) (c : Model S) (b : ℕ) → Plain indexed.totals indexed.totals b → behind_pc c 0 ≡ 0xDD → behind_pc c 1 ≡ b → spent make c ≡ total (entry indexed.totals b)
unfolding counted_on passed indexed_takes after
dd_page make c b h one two =
    subst (λ (x : ℕ). (play make (began c) (behind_first (decode_main.decoded x) c.processor.cpu.pc (counted_on c.processor)) (after c.mem c.panel 1 3)).world.tally ≡ total (entry indexed.totals b)) (sym one)
    (subst (λ (x : ℕ). indexed_takes Ix make (began c) c.processor.cpu.pc (counted_on (counted_on c.processor)) c.mem c.panel x ≡ total (entry indexed.totals b)) (sym two) (timed indexed.totals indexed.totals (indexed_takes Ix make (began c) c.processor.cpu.pc (counted_on (counted_on c.processor)) c.mem c.panel) (indexed_all Ix make (began c) c.processor.cpu.pc (counted_on (counted_on c.processor)) c.mem c.panel) b h))

fd_page : {S : Type 0} (make : Make S) (c : Model S) (b : ℕ) → Plain indexed.totals indexed.totals b → behind_pc c 0 ≡ 0xFD → behind_pc c 1 ≡ b → spent make c ≡ total (entry indexed.totals b)
unfolding counted_on passed indexed_takes after
fd_page make c b h one two =
    subst (λ (x : ℕ). (play make (began c) (behind_first (decode_main.decoded x) c.processor.cpu.pc (counted_on c.processor)) (after c.mem c.panel 1 3)).world.tally ≡ total (entry indexed.totals b)) (sym one)
    (subst (λ (x : ℕ). indexed_takes Iy make (began c) c.processor.cpu.pc (counted_on (counted_on c.processor)) c.mem c.panel x ≡ total (entry indexed.totals b)) (sym two) (timed indexed.totals indexed.totals (indexed_takes Iy make (began c) c.processor.cpu.pc (counted_on (counted_on c.processor)) c.mem c.panel) (indexed_all Iy make (began c) c.processor.cpu.pc (counted_on (counted_on c.processor)) c.mem c.panel) b h))

dd_cb_page : {S : Type 0} (make : Make S) (c : Model S) (b : ℕ) → Plain indexed_cb.totals indexed_cb.totals b → behind_pc c 0 ≡ 0xDD → behind_pc c 1 ≡ 0xCB → behind_pc c 3 ≡ b → spent make c ≡ total (entry indexed_cb.totals b)
unfolding counted_on passed indexed_cb_takes after
dd_cb_page make c b h one two last =
    subst (λ (x : ℕ). (play make (began c) (behind_first (decode_main.decoded x) c.processor.cpu.pc (counted_on c.processor)) (after c.mem c.panel 1 3)).world.tally ≡ total (entry indexed_cb.totals b)) (sym one)
    (subst (λ (x : ℕ). (play make (began c) (behind_index (decode_indexed.decoded Ix x) Ix c.processor.cpu.pc (counted_on (counted_on c.processor))) (after c.mem c.panel 2 6)).world.tally ≡ total (entry indexed_cb.totals b)) (sym two)
    (subst (λ (x : ℕ). indexed_cb_takes Ix (behind_pc c 2) make (began c) c.processor.cpu.pc (counted_on (passed (counted_on (counted_on c.processor)))) c.mem c.panel x ≡ total (entry indexed_cb.totals b)) (sym last) (timed indexed_cb.totals indexed_cb.totals (indexed_cb_takes Ix (behind_pc c 2) make (began c) c.processor.cpu.pc (counted_on (passed (counted_on (counted_on c.processor)))) c.mem c.panel) (indexed_cb_all Ix (behind_pc c 2) make (began c) c.processor.cpu.pc (counted_on (passed (counted_on (counted_on c.processor)))) c.mem c.panel) b h)))

fd_cb_page : {S : Type 0} (make : Make S) (c : Model S) (b : ℕ) → Plain indexed_cb.totals indexed_cb.totals b → behind_pc c 0 ≡ 0xFD → behind_pc c 1 ≡ 0xCB → behind_pc c 3 ≡ b → spent make c ≡ total (entry indexed_cb.totals b)
unfolding counted_on passed indexed_cb_takes after
fd_cb_page make c b h one two last =
    subst (λ (x : ℕ). (play make (began c) (behind_first (decode_main.decoded x) c.processor.cpu.pc (counted_on c.processor)) (after c.mem c.panel 1 3)).world.tally ≡ total (entry indexed_cb.totals b)) (sym one)
    (subst (λ (x : ℕ). (play make (began c) (behind_index (decode_indexed.decoded Iy x) Iy c.processor.cpu.pc (counted_on (counted_on c.processor))) (after c.mem c.panel 2 6)).world.tally ≡ total (entry indexed_cb.totals b)) (sym two)
    (subst (λ (x : ℕ). indexed_cb_takes Iy (behind_pc c 2) make (began c) c.processor.cpu.pc (counted_on (passed (counted_on (counted_on c.processor)))) c.mem c.panel x ≡ total (entry indexed_cb.totals b)) (sym last) (timed indexed_cb.totals indexed_cb.totals (indexed_cb_takes Iy (behind_pc c 2) make (began c) c.processor.cpu.pc (counted_on (passed (counted_on (counted_on c.processor)))) c.mem c.panel) (indexed_cb_all Iy (behind_pc c 2) make (began c) c.processor.cpu.pc (counted_on (passed (counted_on (counted_on c.processor)))) c.mem c.panel) b h)))

pub every : {S : Type 0} (make : Make S) → Every make
every make = record {
  main_page = λ c b h plain one. step_takes make c h _ (main_page make (begun c) b plain one);
  cb_page = λ c b h plain one two. step_takes make c h _ (cb_page make (begun c) b plain one two);
  ed_page = λ c b h plain one two. step_takes make c h _ (ed_page make (begun c) b plain one two);
  dd_page = λ c b h plain one two. step_takes make c h _ (dd_page make (begun c) b plain one two);
  fd_page = λ c b h plain one two. step_takes make c h _ (fd_page make (begun c) b plain one two);
  dd_cb_page = λ c b h plain one two last. step_takes make c h _ (dd_cb_page make (begun c) b plain one two last);
  fd_cb_page = λ c b h plain one two last. step_takes make c h _ (fd_cb_page make (begun c) b plain one two last);
}
