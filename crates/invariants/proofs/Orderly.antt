-- One walk over a tree of machine cycles that sees to all that is wanted of it: what it comes to, where code is fetched, and
-- that outputs find room. Assumes nothing.
use Rattle.std.proofs.Common.{◌≡◌, ℕ, ◌+◌, ◌%◌, Bool, true, false, cond, T, ltb, ap, ◌∙◌, arith, ltb→lt}
use Rattle.panel.specs.Panel.{Make}
use Rattle.registers.specs.Ports.{on_cpu}
use Rattle.registers.specs.Registers.{Processor, down, up, with_pc}
use Rattle.cycles.specs.Play.{Began, World, answer_of, byte_at, play, world_after}
use Rattle.cycles.specs.Tree.{Cycles, Cycles.acknowledge, Cycles.done, Cycles.fetch, Cycles.input, Cycles.internal, Cycles.output, Cycles.read, Cycles.write}
use Rattle.processor.specs.Block.{again_if}
use Rattle.processor.specs.Port.{again_at_zero}
use Rattle.invariants.specs.Fetches.{FetchesBelow}
use Rattle.invariants.specs.Room.{FindsRoom}

-- s is the panel's state as the step began
module _ {S : Type 0} (make : Make S) (began : Began) (s : S) where
  -- if the panel had room as the step began, it has it now
  abbrev pub Room : World S → Type 0
  Room v = make.full s ≡ false → make.full v.panel ≡ false

  -- after k code fetches of n, and with the next code byte at an address
  abbrev pub Orderly : {m : ℕ} → (Processor → Type 0) → ℕ → ℕ → ℕ → Cycles Processor m → World S → Type 0
  Orderly P n k at (done q) v = P q
  Orderly P n k at (fetch code a next) v =
      T (ltb k n) × (a ≡ at) × Orderly P n (k + 1) (up at 1) (next (byte_at began a v)) (world_after make began (fetch code a next) v)
  Orderly P n k at (read a next) v = Orderly P n k at (next (byte_at began a v)) (world_after make began (read a next) v)
  Orderly P n k at (write a b next) v = Orderly P n k at next (world_after make began (write a b next) v)
  Orderly P n k at (input p next) v = Orderly P n k at (next (answer_of make v.panel p)) (world_after make began (input p next) v)
  Orderly P n k at (output p b next) v = Room v × Orderly P n k at next (world_after make began (output p b next) v)
  Orderly P n k at (acknowledge line states next) v = Orderly P n k at next (world_after make began (acknowledge line states next) v)
  Orderly P n k at (internal states next) v = Orderly P n k at next (world_after make began (internal states next) v)

  pub value : {m : ℕ} (P : Processor → Type 0) (n k at : ℕ) (tree : Cycles Processor m) (v : World S) → Orderly P n k at tree v → P (play make began tree v).value
  value P n k at (done q) v h = h
  value P n k at (fetch code a next) v h = value P n (k + 1) (up at 1) (next (byte_at began a v)) (world_after make began (fetch code a next) v) h.2
  value P n k at (read a next) v h = value P n k at (next (byte_at began a v)) (world_after make began (read a next) v) h
  value P n k at (write a b next) v h = value P n k at next (world_after make began (write a b next) v) h
  value P n k at (input p next) v h = value P n k at (next (answer_of make v.panel p)) (world_after make began (input p next) v) h
  value P n k at (output p b next) v h = value P n k at next (world_after make began (output p b next) v) h.1
  value P n k at (acknowledge line states next) v h = value P n k at next (world_after make began (acknowledge line states next) v) h
  value P n k at (internal states next) v h = value P n k at next (world_after make began (internal states next) v) h

  pub weaken : {m : ℕ} (P Q : Processor → Type 0) (n k at : ℕ) (tree : Cycles Processor m) (v : World S) → ((q : Processor) → P q → Q q) → Orderly P n k at tree v → Orderly Q n k at tree v
  weaken P Q n k at (done q) v f h = f q h
  weaken P Q n k at (fetch code a next) v f h =
      (h.0, h.1, weaken P Q n (k + 1) (up at 1) (next (byte_at began a v)) (world_after make began (fetch code a next) v) f h.2)
  weaken P Q n k at (read a next) v f h = weaken P Q n k at (next (byte_at began a v)) (world_after make began (read a next) v) f h
  weaken P Q n k at (write a b next) v f h = weaken P Q n k at next (world_after make began (write a b next) v) f h
  weaken P Q n k at (input p next) v f h = weaken P Q n k at (next (answer_of make v.panel p)) (world_after make began (input p next) v) f h
  weaken P Q n k at (output p b next) v f h = (h.0, weaken P Q n k at next (world_after make began (output p b next) v) f h.1)
  weaken P Q n k at (acknowledge line states next) v f h = weaken P Q n k at next (world_after make began (acknowledge line states next) v) f h
  weaken P Q n k at (internal states next) v f h = weaken P Q n k at next (world_after make began (internal states next) v) f h

  pub fetches : {m : ℕ} (P : Processor → Type 0) (n k at pc : ℕ) (tree : Cycles Processor m) (v : World S) → at % 65536 ≡ up pc k → Orderly P n k at tree v → FetchesBelow n pc k make began tree v
  fetches P n k at pc (done q) v e h = tt
  fetches P n k at pc (fetch code a next) v e h =
      (ltb→lt k n h.0, ap (λ x. x % 65536) h.1 ∙ e, fetches P n (k + 1) (up at 1) pc (next (byte_at began a v)) (world_after make began (fetch code a next) v) (omega arith) h.2)
  fetches P n k at pc (read a next) v e h = fetches P n k at pc (next (byte_at began a v)) (world_after make began (read a next) v) e h
  fetches P n k at pc (write a b next) v e h = fetches P n k at pc next (world_after make began (write a b next) v) e h
  fetches P n k at pc (input p next) v e h = fetches P n k at pc (next (answer_of make v.panel p)) (world_after make began (input p next) v) e h
  fetches P n k at pc (output p b next) v e h = fetches P n k at pc next (world_after make began (output p b next) v) e h.1
  fetches P n k at pc (acknowledge line states next) v e h = fetches P n k at pc next (world_after make began (acknowledge line states next) v) e h
  fetches P n k at pc (internal states next) v e h = fetches P n k at pc next (world_after make began (internal states next) v) e h

  pub room : {m : ℕ} (P : Processor → Type 0) (n k at : ℕ) (tree : Cycles Processor m) (v : World S) → make.full s ≡ false → Orderly P n k at tree v → FindsRoom make began tree v
  room P n k at (done q) v e h = tt
  room P n k at (fetch code a next) v e h = room P n (k + 1) (up at 1) (next (byte_at began a v)) (world_after make began (fetch code a next) v) e h.2
  room P n k at (read a next) v e h = room P n k at (next (byte_at began a v)) (world_after make began (read a next) v) e h
  room P n k at (write a b next) v e h = room P n k at next (world_after make began (write a b next) v) e h
  room P n k at (input p next) v e h = room P n k at (next (answer_of make v.panel p)) (world_after make began (input p next) v) e h
  room P n k at (output p b next) v e h = (h.0 e, room P n k at next (world_after make began (output p b next) v) e h.1)
  room P n k at (acknowledge line states next) v e h = room P n k at next (world_after make began (acknowledge line states next) v) e h
  room P n k at (internal states next) v e h = room P n k at next (world_after make began (internal states next) v) e h

  -- two ways on
  pub either : {m : ℕ} (P : Processor → Type 0) (n k at : ℕ) (v : World S) (test : Bool) (x y : Cycles Processor m) → Orderly P n k at x v → Orderly P n k at y v → Orderly P n k at (cond test x y) v
  either P n k at v true x y one two = one
  either P n k at v false x y one two = two

  -- a block instruction at its end
  pub again : (m : ℕ) (P : Processor → Type 0) (n k at : ℕ) (v : World S) (more : Bool) (q : Processor) → P (on_cpu (λ r. with_pc (down r.pc 2) r) q) → P q → Orderly P n k at (again_if {n = m} more q) v
  again m P n k at v true q one two = one
  again m P n k at v false q one two = two

  pub again_0 : (P : Processor → Type 0) (n k at : ℕ) (v : World S) (more : Bool) (q : Processor) → P (on_cpu (λ r. with_pc (down r.pc 2) r) q) → P q → Orderly P n k at (again_at_zero more q) v
  again_0 P n k at v true q one two = one
  again_0 P n k at v false q one two = two
