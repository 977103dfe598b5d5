-- The conditional forms on every card, by computing each byte with each choice of the four flags that conditions name.
-- Assumes nothing.
use Rattle.std.proofs.Common.{◌≡◌, ℕ, ◌/◌, ◌%◌, ◌<◌, Bool, true, false, cond, not, ◌&&◌, T, eqb, sym, refl, subst}
use Rattle.arithmetic.specs.Block.{lowered}
use Rattle.arithmetic.specs.declared.flags.Flags.{Flags}
use Rattle.memory.specs.Memory.{Mem}
use Rattle.panel.specs.Panel.{Make}
use Rattle.registers.specs.Operands.{holds}
use Rattle.registers.specs.Ports.{on_cpu}
use Rattle.registers.specs.Registers.{Processor, with_b, with_f}
use Rattle.cycles.specs.Play.{Began, Tally, play}
use Rattle.processor.specs.Jump.{relative}
use Rattle.processor.specs.Parts.{finish}
use Rattle.processor.specs.Step.{Model, began}
use Rattle.std.proofs.lemmas.Bool.Decides.{nat_tests}
use Rattle.card_laws.specs.Every.{Branches, behind_pc, named, total}
use Rattle.processor_laws.specs.MainPage as main
use Rattle.processor_laws.specs.Table.{entry, is_instruction, upto}
use Rattle.card_laws.proofs.Every.{after, at, counted_on, main_takes, passed, same_time}
use Rattle.card_laws.proofs.Executing.{begun, spent, step_takes}
use Rattle.card_laws.proofs.Repeats.{repeated}

-- whether a byte asks for flags at most
of_flags : ℕ → Bool
of_flags b = is_instruction main.shorter b && not (eqb b 0x10)

chosen : Flags → ℕ → ℕ
chosen f b = entry (cond (holds (named b) f) main.longer main.shorter) b

with_flags : Flags → Processor → Processor
with_flags f p = on_cpu (with_f f) p

right : (Flags → ℕ → Tally) → Flags → ℕ → Bool
unfolding of_flags chosen
right takes f b = cond (of_flags b) (eqb (takes f b).cycles (chosen f b / 100) && eqb (takes f b).states (chosen f b % 100)) true

takes : {S : Type 0} → Make S → Began → ℕ → Processor → Mem → S → Flags → ℕ → Tally
unfolding with_flags
takes make w start p m s f b = main_takes make w start (with_flags f p) m s b

flags : Bool → Bool → Bool → Bool → Flags → Flags
flags s z pv c f = record { s = s; z = z; bit5 = f.bit5; h = f.h; bit3 = f.bit3; pv = pv; n = f.n; c = c }

all : {S : Type 0} (make : Make S) (w : Began) (start : ℕ) (p : Processor) (m : Mem) (v : S) (f : Flags) (s z pv c : Bool) → T (upto 256 (right (takes make w start p m v) (flags s z pv c f)))
unfolding right takes flags of_flags chosen with_flags main_takes after
all make w start p m v f false false false false = tt
all make w start p m v f true false false false = tt
all make w start p m v f false true false false = tt
all make w start p m v f true true false false = tt
all make w start p m v f false false true false = tt
all make w start p m v f true false true false = tt
all make w start p m v f false true true false = tt
all make w start p m v f true true true false = tt
all make w start p m v f false false false true = tt
all make w start p m v f true false false true = tt
all make w start p m v f false true false true = tt
all make w start p m v f true true false true = tt
all make w start p m v f false false true true = tt
all make w start p m v f true false true true = tt
all make w start p m v f false true true true = tt
all make w start p m v f true true true true = tt

every_flags : {S : Type 0} (make : Make S) (w : Began) (start : ℕ) (p : Processor) (m : Mem) (v : S) (f : Flags) → T (upto 256 (right (takes make w start p m v) f))
unfolding flags
every_flags make w start p m v f = all make w start p m v f f.s f.z f.pv f.c

met : (take : Flags → ℕ → Tally) (f : Flags) (b : ℕ) → T (right take f b) → of_flags b ≡ true → take f b ≡ total (chosen f b)
unfolding right
met take f b t h = split (of_flags b) t h
  where
    split : (x : Bool) → T (cond x (eqb (take f b).cycles (chosen f b / 100) && eqb (take f b).states (chosen f b % 100)) true) → x ≡ true → take f b ≡ total (chosen f b)
    split true u e = same_time (take f b) (chosen f b) u
    split false u e = search nat_tests

conditional : {S : Type 0} (make : Make S) (c : Model S) (b : ℕ) → b < 256 → is_instruction main.shorter b && not (eqb b 0x10) ≡ true → behind_pc c 0 ≡ b → spent make c ≡ total (entry (cond (holds (named b) c.processor.cpu.main.f) main.longer main.shorter) b)
unfolding of_flags chosen takes with_flags main_takes after counted_on
conditional make c b small defined one =
    subst (λ (x : ℕ). main_takes make (began c) c.processor.cpu.pc (counted_on c.processor) c.mem c.panel x ≡ total (chosen c.processor.cpu.main.f b)) (sym one)
    (met (takes make (began c) c.processor.cpu.pc (counted_on c.processor) c.mem c.panel) c.processor.cpu.main.f b
    (at 256 (right (takes make (began c) c.processor.cpu.pc (counted_on c.processor) c.mem c.panel) c.processor.cpu.main.f) (every_flags make (began c) c.processor.cpu.pc (counted_on c.processor) c.mem c.panel c.processor.cpu.main.f) b small) defined)

-- DJNZ behind its displacement
either : {S : Type 0} (make : Make S) (w : Began) (e : ℕ) (q : Processor) (m : Mem) (s : S) (x : Bool) → (play make w (cond x (finish (λ t. t) q) (relative e q)) (after m s 3 7)).world.tally ≡ total (entry (cond x main.shorter main.longer) 0x10)
unfolding after
either make w e q m s true = refl
either make w e q m s false = refl

lowered_b : Processor → Processor
lowered_b p = on_cpu (λ s. with_b (lowered s.main.b) s) p

count : {S : Type 0} (make : Make S) (c : Model S) → behind_pc c 0 ≡ 0x10 → spent make c ≡ total (entry (cond (eqb (lowered c.processor.cpu.main.b) 0) main.shorter main.longer) 0x10)
unfolding main_takes after counted_on passed lowered_b
count make c one =
    subst (λ (x : ℕ). main_takes make (began c) c.processor.cpu.pc (counted_on c.processor) c.mem c.panel x ≡ total (entry (cond (eqb (lowered c.processor.cpu.main.b) 0) main.shorter main.longer) 0x10)) (sym one)
    (either make (began c) (behind_pc c 1) (passed (lowered_b (counted_on c.processor))) c.mem c.panel (eqb (lowered c.processor.cpu.main.b) 0))

pub branches : {S : Type 0} (make : Make S) → Branches make
branches make = record {
  conditional = λ c b h small defined one. step_takes make c h _ (conditional make (begun c) b small defined one);
  count = λ c h one. step_takes make c h _ (count make (begun c) one);
  repeated = λ c b h small differ one two. step_takes make c h _ (repeated make (begun c) b small differ one two);
}
