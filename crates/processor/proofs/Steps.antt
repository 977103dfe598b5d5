-- Seclusion of a step, from that of trees. Assumes nothing.
use Rattle.std.proofs.Common.{ℕ, Bool, true, false, cond, Ok, refl, ap, ap₂, subst₂}
use Rattle.memory.specs.Memory.{Agree, Mem}
use Rattle.panel.specs.Panel.{Make}
use Rattle.registers.specs.Registers.{Processor}
use Rattle.cycles.specs.Footprint.{Few, OpensWithin, on_pages}
use Rattle.cycles.specs.Play.{no_time, world}
use Rattle.cycles.proofs.Trees as trees
use Rattle.processor.specs.Interrupt.{accepted}
use Rattle.processor.specs.Isolation.{Alike, IfTaken}
use Rattle.processor.specs.Seclusion.{Both, StepLaws}
use Rattle.processor.specs.Step.{Model, Turn, began, cycles_of, denied, no_restart, step, taken}

-- the same card over another memory
abbrev pub with_mem : {S : Type 0} → Mem → Model S → Model S
with_mem m c = record { processor = c.processor; mem = m; panel = c.panel }

module _ {S : Type 0} (make : Make S) where
  taken_both : (pages : ℕ → Bool) (c : Model S) (m : Mem) → OpensWithin pages c.processor.window → Agree (on_pages pages) c.mem m → Both pages c (with_mem m c) (taken make c) (taken make (with_mem m c))
  taken_both pages c m shown agree =
      let set = on_pages pages in
      let tree = cycles_of make c in
      let one = world c.mem c.panel no_time in
      let laws = trees.laws make Processor in
      let same = laws.same set (began c) tree one m (laws.within pages (began c) tree one shown) agree in
      record {
        answer = ap Ok same.tally;
        alike = record { processor = same.value; panel = ap₂ (λ s t. make.told s t.states) same.panel same.tally; memory = same.memory };
        first = same.first;
        second = same.second;
      }

  denied_both : (pages : ℕ → Bool) (c : Model S) (m : Mem) (number : ℕ) → Agree (on_pages pages) c.mem m → Both pages c (with_mem m c) (denied number c) (denied number (with_mem m c))
  denied_both pages c m number agree = record {
    answer = refl;
    alike = record { processor = refl; panel = refl; memory = agree };
    first = trees.kept_none (on_pages pages) c.mem;
    second = trees.kept_none (on_pages pages) m;
  }

  -- a step by its two tests
  abbrev pub by_tests : Bool → Bool → Model S → Turn S
  by_tests full bad c = cond full (denied 8 c) (cond bad (denied 9 c) (taken make c))

  tests_both : (pages : ℕ → Bool) (c : Model S) (m : Mem) (full bad : Bool) → IfTaken (by_tests full bad c).answer (OpensWithin pages c.processor.window) → Agree (on_pages pages) c.mem m → Both pages c (with_mem m c) (by_tests full bad c) (by_tests full bad (with_mem m c))
  tests_both pages c m true bad shown agree = denied_both pages c m 8 agree
  tests_both pages c m false true shown agree = denied_both pages c m 9 agree
  tests_both pages c m false false shown agree = taken_both pages c m shown agree

  tests_few : (c : Model S) (full bad : Bool) → Few c.processor.window 2 c.mem (by_tests full bad c).card.mem
  tests_few c true bad = trees.few_none c.processor.window 2 c.mem
  tests_few c false true = trees.few_none c.processor.window 2 c.mem
  tests_few c false false = (trees.laws make Processor).few (began c) (cycles_of make c) (world c.mem c.panel no_time)

  abbrev pub bad_byte : Model S → Bool
  bad_byte c = no_restart (accepted make c.panel c.processor.cpu) c.processor.cpu.im (make.int0_byte c.panel)

  -- what holds over another memory holds of every card that is alike
  pub carried : (pages : ℕ → Bool) (c d : Model S) (P : Model S → Type 0) → Alike pages c d → P (with_mem d.mem c) → P d
  carried pages c d P alike h = subst₂ (λ u v. P (record { processor = u; mem = d.mem; panel = v })) alike.processor alike.panel h

  pub laws : StepLaws make
  laws = record {
    both = λ pages c d alike shown. carried pages c d (λ e. Both pages c e (step make c) (step make e)) alike (tests_both pages c d.mem (make.full c.panel) (bad_byte c) shown alike.memory);
    few = λ c. tests_few c (make.full c.panel) (bad_byte c);
  }
