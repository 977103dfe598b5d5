-- Isolation, once over trees of machine cycles. Assumes nothing.
use Rattle.std.proofs.Common.{◌≡◌, ℕ, zero, suc, ◌<◌, Bool, true, sym, refl, ap, ◌∙◌, subst, suc-le-suc, zero-le, arith, lt-ltb}
use borrow.Author.Tests.{both_ways}
use Rattle.std.proofs.lemmas.Bool.{and_from}
use Rattle.memory.specs.Memory.{Agree, Mem, store}
use Rattle.memory.proofs.Stores as stores
use Rattle.panel.specs.Panel.{Make}
use Rattle.registers.specs.declared.window.Window.{Window}
use Rattle.registers.specs.Window.{OpensOn, page_of, physical_of}
use Rattle.registers.proofs.Opened as opened
use Rattle.cycles.specs.Tree.{Cycles, Cycles.done, Cycles.fetch, Cycles.read, Cycles.write, Cycles.input, Cycles.output, Cycles.acknowledge, Cycles.internal}
use Rattle.cycles.specs.Play.{Began, Played, World, answer_of, byte_at, play, world_after}
use Rattle.cycles.specs.Footprint.{Few, Kept, OpensWithin, Same, TouchesOnly, TreeLaws, on_pages, with_memory}

pub kept_none : (set : ℕ → Bool) (m : Mem) → Kept set m m
kept_none set m = record { byte = λ a address out. refl; takes = λ a. refl }

pub kept_then : (set : ℕ → Bool) (k m n : Mem) → Kept set k m → Kept set m n → Kept set k n
kept_then set k m n one two =
    record { byte = λ a address out. two.byte a address out ∙ one.byte a address out; takes = λ a. two.takes a ∙ one.takes a }

kept_store : (set : ℕ → Bool) (m : Mem) (a b : ℕ) → set a ≡ true → Kept set m (store m a b)
kept_store set m a b in-set = record {
  byte = λ x address out. (stores.laws).elsewhere m a b x (λ e. both_ways (set x) out (subst (λ y. set y ≡ true) (sym e) in-set));
  takes = λ x. refl;
}

-- what was kept before two plays is kept with them
same_then : {A S : Type 0} (set : ℕ → Bool) (k l m n : Mem) (one other : Played A S) → Kept set k m → Kept set l n → Same set m n one other → Same set k l one other
same_then set k l m n one other h h' same = record {
  value = same.value;
  panel = same.panel;
  tally = same.tally;
  memory = same.memory;
  first = kept_then set k m one.world.mem h same.first;
  second = kept_then set l n other.world.mem h' same.second;
}

module _ {S : Type 0} (make : Make S) where
  same : {A : Type 0} {n : ℕ} (set : ℕ → Bool) (began : Began) (tree : Cycles A n) (v : World S) (m : Mem) → TouchesOnly set make began tree v → Agree set v.mem m → Same set v.mem m (play make began tree v) (play make began tree (with_memory m v))
  same set began (done x) v m touches agree = record { value = refl; panel = refl; tally = refl; memory = agree; first = kept_none set v.mem; second = kept_none set m }
  same set began (fetch code a next) v m touches agree =
      let at = physical_of began.window a in
      let on = world_after make began (fetch code a next) v in
      subst (λ b. Same set v.mem m (play make began (next (byte_at began a v)) on) (play make began (next b) (with_memory m on))) (agree at touches.0).0
      (same set began (next (byte_at began a v)) on m touches.1 agree)
  same set began (read a next) v m touches agree =
      let at = physical_of began.window a in
      let on = world_after make began (read a next) v in
      subst (λ b. Same set v.mem m (play make began (next (byte_at began a v)) on) (play make began (next b) (with_memory m on))) (agree at touches.0).0
      (same set began (next (byte_at began a v)) on m touches.1 agree)
  same set began (write a b next) v m touches agree =
      let at = physical_of began.window a in
      let on = world_after make began (write a b next) v in
      let m' = store m at b in
      same_then set v.mem m on.mem m' (play make began next on) (play make began next (with_memory m' on)) (kept_store set v.mem at b touches.0) (kept_store set m at b touches.0)
      (same set began next on m' touches.1 ((stores.laws).agreement set v.mem m at b touches.0 agree))
  same set began (input p next) v m touches agree =
      same set began (next (answer_of make v.panel p)) (world_after make began (input p next) v) m touches agree
  same set began (output p b next) v m touches agree =
      same set began next (world_after make began (output p b next) v) m touches agree
  same set began (acknowledge line states next) v m touches agree =
      same set began next (world_after make began (acknowledge line states next) v) m touches agree
  same set began (internal states next) v m touches agree =
      same set began next (world_after make began (internal states next) v) m touches agree

  touched : {A : Type 0} {n : ℕ} (set : ℕ → Bool) (began : Began) (tree : Cycles A n) (v : World S) (m : Mem) → TouchesOnly set make began tree v → Agree set v.mem m → TouchesOnly set make began tree (with_memory m v)
  touched set began (done x) v m touches agree = tt
  touched set began (fetch code a next) v m touches agree =
      let on = world_after make began (fetch code a next) v in
      (touches.0, subst (λ b. TouchesOnly set make began (next b) (with_memory m on)) (agree (physical_of began.window a) touches.0).0 (touched set began (next (byte_at began a v)) on m touches.1 agree))
  touched set began (read a next) v m touches agree =
      let on = world_after make began (read a next) v in
      (touches.0, subst (λ b. TouchesOnly set make began (next b) (with_memory m on)) (agree (physical_of began.window a) touches.0).0 (touched set began (next (byte_at began a v)) on m touches.1 agree))
  touched set began (write a b next) v m touches agree =
      let at = physical_of began.window a in
      (touches.0, touched set began next (world_after make began (write a b next) v) (store m at b) touches.1 ((stores.laws).agreement set v.mem m at b touches.0 agree))
  touched set began (input p next) v m touches agree =
      touched set began (next (answer_of make v.panel p)) (world_after make began (input p next) v) m touches agree
  touched set began (output p b next) v m touches agree =
      touched set began next (world_after make began (output p b next) v) m touches agree
  touched set began (acknowledge line states next) v m touches agree =
      touched set began next (world_after make began (acknowledge line states next) v) m touches agree
  touched set began (internal states next) v m touches agree =
      touched set began next (world_after make began (internal states next) v) m touches agree

  kept : {A : Type 0} {n : ℕ} (set : ℕ → Bool) (began : Began) (tree : Cycles A n) (v : World S) → TouchesOnly set make began tree v → Kept set v.mem (play make began tree v).world.mem
  kept set began (done x) v touches = kept_none set v.mem
  kept set began (fetch code a next) v touches =
      kept set began (next (byte_at began a v)) (world_after make began (fetch code a next) v) touches.1
  kept set began (read a next) v touches =
      kept set began (next (byte_at began a v)) (world_after make began (read a next) v) touches.1
  kept set began (write a b next) v touches =
      let on = world_after make began (write a b next) v in
      kept_then set v.mem on.mem (play make began next on).world.mem (kept_store set v.mem (physical_of began.window a) b touches.0) (kept set began next on touches.1)
  kept set began (input p next) v touches =
      kept set began (next (answer_of make v.panel p)) (world_after make began (input p next) v) touches
  kept set began (output p b next) v touches =
      kept set began next (world_after make began (output p b next) v) touches
  kept set began (acknowledge line states next) v touches =
      kept set began next (world_after make began (acknowledge line states next) v) touches
  kept set began (internal states next) v touches =
      kept set began next (world_after make began (internal states next) v) touches

  -- a physical address lies in a page of the set
  pub in_pages : (pages : ℕ → Bool) (w : Window) (a : ℕ) → OpensWithin pages w → on_pages pages (physical_of w a) ≡ true
  in_pages pages w a shown =
      let page = opened.translated w a in
      and_from _ _ (lt-ltb _ _ ((opened.laws).within w a)) (ap pages page.2 ∙ shown page.0 page.1)

  within : {A : Type 0} {n : ℕ} (pages : ℕ → Bool) (began : Began) (tree : Cycles A n) (v : World S) → OpensWithin pages began.window → TouchesOnly (on_pages pages) make began tree v
  within pages began (done x) v shown = tt
  within pages began (fetch code a next) v shown =
      (in_pages pages began.window a shown, within pages began (next (byte_at began a v)) (world_after make began (fetch code a next) v) shown)
  within pages began (read a next) v shown =
      (in_pages pages began.window a shown, within pages began (next (byte_at began a v)) (world_after make began (read a next) v) shown)
  within pages began (write a b next) v shown =
      (in_pages pages began.window a shown, within pages began next (world_after make began (write a b next) v) shown)
  within pages began (input p next) v shown =
      within pages began (next (answer_of make v.panel p)) (world_after make began (input p next) v) shown
  within pages began (output p b next) v shown =
      within pages began next (world_after make began (output p b next) v) shown
  within pages began (acknowledge line states next) v shown =
      within pages began next (world_after make began (acknowledge line states next) v) shown
  within pages began (internal states next) v shown =
      within pages began next (world_after make began (internal states next) v) shown

-- a place before others
before : ℕ → (ℕ → ℕ) → ℕ → ℕ
before a place zero = a
before a place (suc i) = place i

pub few_none : (w : Window) (n : ℕ) (m : Mem) → Few w n m m
few_none w n m = record { place = λ _. physical_of w 0; opened = λ i h. opened.translated w 0; byte = λ a h. refl; takes = λ a. refl }

few_more : (w : Window) (n a b : ℕ) (m m' : Mem) → Few w n (store m (physical_of w a) b) m' → Few w (suc n) m m'
unfolding before
few_more w n a b m m' rest = record {
  place = before (physical_of w a) rest.place;
  opened = shown;
  byte = λ x other. rest.byte x (λ i h. other (suc i) (suc-le-suc h)) ∙ (stores.laws).elsewhere m (physical_of w a) b x (other 0 (suc-le-suc zero-le));
  takes = rest.takes;
}
  where
    shown : (i : ℕ) → i < suc n → OpensOn w (page_of (before (physical_of w a) rest.place i))
    shown zero h = opened.translated w a
    shown (suc i) h = rest.opened i (omega arith)

module _ {S : Type 0} (make : Make S) where
  few : {A : Type 0} {n : ℕ} (began : Began) (tree : Cycles A n) (v : World S) → Few began.window n v.mem (play make began tree v).world.mem
  few began (done x) v = few_none began.window _ v.mem
  few began (fetch code a next) v =
      few began (next (byte_at began a v)) (world_after make began (fetch code a next) v)
  few began (read a next) v =
      few began (next (byte_at began a v)) (world_after make began (read a next) v)
  few began (write a b next) v =
      few_more began.window _ a b v.mem _ (few began next (world_after make began (write a b next) v))
  few began (input p next) v =
      few began (next (answer_of make v.panel p)) (world_after make began (input p next) v)
  few began (output p b next) v =
      few began next (world_after make began (output p b next) v)
  few began (acknowledge line states next) v =
      few began next (world_after make began (acknowledge line states next) v)
  few began (internal states next) v =
      few began next (world_after make began (internal states next) v)

  pub laws : (A : Type 0) → TreeLaws A make
  laws A = record { same = same make; touches = touched make; kept = kept make; within = within make; few = few }
