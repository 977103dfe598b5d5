-- What playing a tree of machine cycles does to memory and panel, and how long it takes. Assumes nothing.
use Rattle.std.specs.Prelude.{ℕ, ◌+◌}
use Rattle.memory.specs.Memory.{Mem, store}
use Rattle.panel.specs.Panel.{Make, wrote}
use Rattle.registers.specs.declared.window.Window.{Window}
use Rattle.registers.specs.Window.{physical_of}
use Rattle.cycles.specs.Tree.{Cycles, Cycles.done, Cycles.fetch, Cycles.read, Cycles.write, Cycles.input, Cycles.output, Cycles.acknowledge, Cycles.internal, Port, Port.internal_port, Port.panel_port}

-- What stood when the step began, and holds until its end: a port may change the window only for the next step.
pub record Began : Type 0 where
  pub window : Window

-- How much time has passed.
pub record Tally : Type 0 where
  pub cycles : ℕ
  pub states : ℕ

abbrev pub no_time : Tally
no_time = record { cycles = 0; states = 0 }

-- One more cycle, of so many states.
abbrev pub after_cycle : ℕ → Tally → Tally
after_cycle states t = record { cycles = t.cycles + 1; states = t.states + states }

-- What a port answers, and the panel's state after an input and after an output. Internal ports do not reach the panel, and a
-- full panel keeps its state.
abbrev pub answer_of : {S : Type 0} → Make S → S → Port → ℕ
answer_of make s (internal_port b) = b
answer_of make s (panel_port p) = make.answer s p

abbrev pub after_input : {S : Type 0} → Make S → S → Port → S
after_input make s (internal_port b) = s
after_input make s (panel_port p) = make.read s p

abbrev pub after_output : {S : Type 0} → Make S → S → Port → ℕ → S
after_output make s (internal_port b) v = s
after_output make s (panel_port p) v = wrote make s p v

-- What the cycles act on, and the time that has passed.
pub record World (S : Type 0) : Type 0 where
  pub mem : Mem
  pub panel : S
  pub tally : Tally

pub record Played (A S : Type 0) : Type 0 where
  pub value : A
  pub world : World S

abbrev pub world : {S : Type 0} → Mem → S → Tally → World S
world m s t = record { mem = m; panel = s; tally = t }

-- The byte that an access to a logical address brings.
abbrev pub byte_at : {S : Type 0} → Began → ℕ → World S → ℕ
byte_at began a v = v.mem.byte (physical_of began.window a)

-- What the first cycle of a tree does to memory, and to the panel's state.
abbrev pub mem_after : {A : Type 0} {n : ℕ} → Began → Cycles A n → Mem → Mem
mem_after began (write a b next) m = store m (physical_of began.window a) b
mem_after began another m = m

abbrev pub panel_after : {A S : Type 0} {n : ℕ} → Make S → Cycles A n → S → S
panel_after make (input p next) s = after_input make s p
panel_after make (output p b next) s = after_output make s p b
panel_after make (acknowledge line states next) s = make.acknowledged s line
panel_after make another s = s

-- How many states it takes: an access to memory, a port or an instruction's byte three, any other as many as its node says.
abbrev pub states_of : {A : Type 0} {n : ℕ} → Cycles A n → ℕ
states_of (done x) = 0
states_of (acknowledge line states next) = states
states_of (internal states next) = states
states_of an_access = 3

-- The world after that cycle.
abbrev pub world_after : {A S : Type 0} {n : ℕ} → Make S → Began → Cycles A n → World S → World S
world_after make began (done x) v = v
world_after make began tree v =
    world (mem_after began tree v.mem) (panel_after make tree v.panel) (after_cycle (states_of tree) v.tally)

-- The tree, played. Logical addresses become physical only here.
abbrev pub play : {A S : Type 0} {n : ℕ} → Make S → Began → Cycles A n → World S → Played A S
play make began (done x) v = record { value = x; world = v }
play make began (fetch code a next) v =
    play make began (next (byte_at began a v)) (world_after make began (fetch code a next) v)
play make began (read a next) v =
    play make began (next (byte_at began a v)) (world_after make began (read a next) v)
play make began (write a b next) v =
    play make began next (world_after make began (write a b next) v)
play make began (input p next) v =
    play make began (next (answer_of make v.panel p)) (world_after make began (input p next) v)
play make began (output p b next) v =
    play make began next (world_after make began (output p b next) v)
play make began (acknowledge line states next) v =
    play make began next (world_after make began (acknowledge line states next) v)
play make began (internal states next) v =
    play make began next (world_after make began (internal states next) v)
