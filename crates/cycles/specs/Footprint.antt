-- Which addresses a play touches, and that nothing else matters to it. Assumes nothing.
use Rattle.std.specs.Prelude.{◌≡◌, ℕ, ◌<◌, Bool, true, false, ◌&&◌, ◌≢◌}
use Rattle.memory.specs.Memory.{Agree, Mem, is_address}
use Rattle.panel.specs.Panel.{Make}
use Rattle.registers.specs.declared.window.Window.{Window}
use Rattle.registers.specs.Window.{OpensOn, page_of, physical_of, shown_page}
use Rattle.cycles.specs.Tree.{Cycles, Cycles.done, Cycles.fetch, Cycles.read, Cycles.write, Cycles.input, Cycles.output, Cycles.acknowledge, Cycles.internal}
use Rattle.cycles.specs.Play.{Began, Played, World, answer_of, byte_at, play, world, world_after}

-- Every address that playing the tree reads, or tries to write, lies in a set.
abbrev pub TouchesOnly : {A S : Type 0} {n : ℕ} → (ℕ → Bool) → Make S → Began → Cycles A n → World S → Type 0
TouchesOnly set make began (done x) v = Unit {0}
TouchesOnly set make began (fetch code a next) v =
    (set (physical_of began.window a) ≡ true)
    × TouchesOnly set make began (next (byte_at began a v)) (world_after make began (fetch code a next) v)
TouchesOnly set make began (read a next) v =
    (set (physical_of began.window a) ≡ true)
    × TouchesOnly set make began (next (byte_at began a v)) (world_after make began (read a next) v)
TouchesOnly set make began (write a b next) v =
    (set (physical_of began.window a) ≡ true)
    × TouchesOnly set make began next (world_after make began (write a b next) v)
TouchesOnly set make began (input p next) v =
    TouchesOnly set make began (next (answer_of make v.panel p)) (world_after make began (input p next) v)
TouchesOnly set make began (output p b next) v =
    TouchesOnly set make began next (world_after make began (output p b next) v)
TouchesOnly set make began (acknowledge line states next) v =
    TouchesOnly set make began next (world_after make began (acknowledge line states next) v)
TouchesOnly set make began (internal states next) v =
    TouchesOnly set make began next (world_after make began (internal states next) v)

-- From one memory to another, no address outside a set has changed, and none has come to take writes or ceased to.
pub record Kept (set : ℕ → Bool) (before after : Mem) : Type 0 where
  pub byte : (a : ℕ) → is_address a ≡ true → set a ≡ false → after.byte a ≡ before.byte a
  pub takes : (a : ℕ) → after.takes a ≡ before.takes a

-- The same world with another memory.
abbrev pub with_memory : {S : Type 0} → Mem → World S → World S
with_memory m v = world m v.panel v.tally

-- Two plays, begun over the memories m and n, ended alike: the same value, panel state and time, memories that agree on a set,
-- and neither has a byte changed outside it.
pub record Same {A S : Type 0} (set : ℕ → Bool) (m n : Mem) (one other : Played A S) : Type 0 where
  pub value : one.value ≡ other.value
  pub panel : one.world.panel ≡ other.world.panel
  pub tally : one.world.tally ≡ other.world.tally
  pub memory : Agree set one.world.mem other.world.mem
  pub first : Kept set m one.world.mem
  pub second : Kept set n other.world.mem

-- From one memory to another at most n bytes have changed, each in a page that the window opens on.
pub record Few (w : Window) (n : ℕ) (before after : Mem) : Type 0 where
  pub place : ℕ → ℕ
  pub opened : (i : ℕ) → i < n → OpensOn w (page_of (place i))
  pub byte : (a : ℕ) → ((i : ℕ) → i < n → a ≢ place i) → after.byte a ≡ before.byte a
  pub takes : (a : ℕ) → after.takes a ≡ before.takes a

-- The addresses of a set of pages.
abbrev pub on_pages : (ℕ → Bool) → ℕ → Bool
on_pages pages a = is_address a && pages (page_of a)

-- The sixteen pages that the window opens on are all in a set of pages.
abbrev pub OpensWithin : (ℕ → Bool) → Window → Type 0
OpensWithin pages w = (p : ℕ) → p < 16 → pages (shown_page w p) ≡ true

-- Of every tree of machine cycles that comes to a value in A, played with a make of panel:
pub record TreeLaws (A : Type 0) {S : Type 0} (make : Make S) : Type 0 where
  -- two memories that agree on a set of addresses give the same, if the play touches only that set over the first: they agree
  -- on it still, and nothing outside it has changed in either
  pub same : {n : ℕ} (set : ℕ → Bool) (began : Began) (tree : Cycles A n) (v : World S) (m : Mem) → TouchesOnly set make began tree v → Agree set v.mem m → Same set v.mem m (play make began tree v) (play make began tree (with_memory m v))
  -- over the second, too, the play touches only that set
  pub touches : {n : ℕ} (set : ℕ → Bool) (began : Began) (tree : Cycles A n) (v : World S) (m : Mem) → TouchesOnly set make began tree v → Agree set v.mem m → TouchesOnly set make began tree (with_memory m v)
  -- of one memory alone: nothing has changed outside a set that the play touches only
  pub kept : {n : ℕ} (set : ℕ → Bool) (began : Began) (tree : Cycles A n) (v : World S) → TouchesOnly set make began tree v → Kept set v.mem (play make began tree v).world.mem
  -- with the sixteen mapped pages in a set of pages, the play touches only addresses of that set
  pub within : {n : ℕ} (pages : ℕ → Bool) (began : Began) (tree : Cycles A n) (v : World S) → OpensWithin pages began.window → TouchesOnly (on_pages pages) make began tree v
  -- at most as many bytes have changed as the tree's index says, each in a mapped page
  pub few : {n : ℕ} (began : Began) (tree : Cycles A n) (v : World S) → Few began.window n v.mem (play make began tree v).world.mem
