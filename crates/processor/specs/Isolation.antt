-- ISOLATION: pages that the window never opens on neither feel the processor nor sway it.
--
-- Two cards are made with equal panel states and with memories that agree on a set of pages, in bytes and in what takes writes.
-- Nothing else is presumed of the two memories, which may be of different makes. Both are given the same list of calls. Up to
-- any line, presume that each step of the first card that is not denied, also inside a run, begins with its sixteen mapped pages
-- in the set, and that the window of each accepted look has its sixteen in it. (To ask it only of steps that are not denied
-- presumes less than to ask it of all: a denied step reads nothing.) Then at that line all answers so far are equal, with all
-- that denials give and the bytes of looks; registers and panel states are equal; the memories agree on the set; no byte outside
-- it has changed in either; and every step so far of either card, also inside a run, has changed at most two bytes, each in a
-- page that was mapped as it began. Assumes nothing.
--
-- What this file takes from others, in plain words:
--   Agree set m n (memory/specs/Memory): at each address of the set m and n have the same byte, and both take writes or neither.
--   on_pages pages (cycles/specs/Footprint): the addresses 0 to 524,287 whose page, the address / 4,096, is in pages.
--   OpensWithin pages w (Footprint): each of the sixteen pages that the window w shows is in pages.
--   Kept set m n (Footprint): from m to n no address outside the set has another byte, and each takes writes as it did.
--   Few w k m n (Footprint): from m to n at most k bytes have changed, each in a page that w shows; writes are taken as before.
--   Make S (panel/specs/Panel): what a panel, with states of type S, answers and does.
--   Model (Step): a card: its registers and window, its memory, and its panel's state.
--   Stepped (Run): one step: the card before it, its answer, and the card after it. The answer is a Tally (cycles/specs/Play),
--     the cycles and states that it took, or Faulted (Step) if it was denied: the denial, and where PC stood.
--   is_look w n (Run): both bases of w are at most 127, and n is at most 4,096. Any other look is denied.
--   Call (Log): a step, a run with its budget, a reset, or a look through a window from an address on, of so many bytes.
--   serve make call c (Log): one call on the card c: its answer, the card after it, and each step that was taken in it.
--   made m s (Log): a card just made of the memory m and the panel's state s, its registers as after reset.
--   replay make calls m s (Log): all the calls in turn on that card: the answers, the card after them, and each step.
--   replay_from make calls c (Log): the same on any card.
use Rattle.std.specs.Prelude.{◌≡◌, ℕ, Bool, true, List, [], ◌∷◌, take, Ok, Err, Result}
use Rattle.memory.specs.Memory.{Agree, Mem}
use Rattle.panel.specs.Panel.{Make}
use Rattle.cycles.specs.Footprint.{Few, Kept, OpensWithin, on_pages}
use Rattle.cycles.specs.Play.{Tally}
use Rattle.processor.specs.Log.{Call, Call.looking, Call.resetting, Call.running, Call.stepping, Replayed, made, replay, replay_from, serve}
use Rattle.processor.specs.Run.{Stepped, is_look}
use Rattle.processor.specs.Step.{Faulted, Model}

-- Two cards differ at most in the memory outside a set of pages.
pub record Alike {S : Type 0} (pages : ℕ → Bool) (c d : Model S) : Type 0 where
  pub processor : c.processor ≡ d.processor
  pub panel : c.panel ≡ d.panel
  pub memory : Agree (on_pages pages) c.mem d.mem

-- Something holds of each item of a list.
abbrev pub Each : {X : Type 0} → (X → Type 0) → List X → Type 0
Each P [] = Unit {0}
Each P (x ∷ xs) = P x × Each P xs

-- What is presumed of a step only if it is not denied.
abbrev pub IfTaken : Result Tally Faulted → Type 0 → Type 0
IfTaken (Ok cost) A = A
IfTaken (Err why) A = Unit {0}

-- A step that is not denied begins with its sixteen mapped pages in the set.
abbrev pub StepWithin : {S : Type 0} → (ℕ → Bool) → Stepped S → Type 0
StepWithin pages one = IfTaken one.turn.answer (OpensWithin pages one.before.processor.window)

-- A look that is accepted opens on pages of the set.
abbrev pub LookWithin : (ℕ → Bool) → Call → Type 0
LookWithin pages stepping = Unit {0}
LookWithin pages (running budget) = Unit {0}
LookWithin pages resetting = Unit {0}
LookWithin pages (looking w at n) = is_look w n ≡ true → OpensWithin pages w

-- Every step and every look of these calls, on this card, stays in the set.
abbrev pub StaysWithin : {S : Type 0} → (ℕ → Bool) → Make S → List Call → Model S → Type 0
StaysWithin pages make [] c = Unit {0}
StaysWithin pages make (call ∷ calls) c =
    Each (StepWithin pages) (serve make call c).steps × LookWithin pages call × StaysWithin pages make calls (serve make call c).card

-- A step has changed at most two bytes, each in a page mapped as it began.
abbrev pub ChangesFew : {S : Type 0} → Stepped S → Type 0
ChangesFew one = Few one.before.processor.window 2 one.before.mem one.turn.card.mem

-- What two logs cannot tell, of cards made with the memories m and n.
pub record Isolated {S : Type 0} (pages : ℕ → Bool) (m n : Mem) (one other : Replayed S) : Type 0 where
  pub answers : one.answers ≡ other.answers
  pub alike : Alike pages one.card other.card
  pub first : Kept (on_pages pages) m one.card.mem
  pub second : Kept (on_pages pages) n other.card.mem
  pub first_steps : Each ChangesFew one.steps
  pub second_steps : Each ChangesFew other.steps

-- The theorem from any two cards on that are alike on the set, of a make of panel.
abbrev pub IsolationFrom : {S : Type 0} → Make S → Type 0
IsolationFrom {S} make =
    (pages : ℕ → Bool) (calls : List Call) (c d : Model S) → Alike pages c d →
    (line : ℕ) → StaysWithin pages make (take line calls) c →
    Isolated pages c.mem d.mem (replay_from make (take line calls) c) (replay_from make (take line calls) d)

-- The theorem from their making on.
abbrev pub Isolation : {S : Type 0} → Make S → Type 0
Isolation {S} make =
    (pages : ℕ → Bool) (calls : List Call) (m n : Mem) (s t : S) → s ≡ t → Agree (on_pages pages) m n →
    (line : ℕ) → StaysWithin pages make (take line calls) (made m s) →
    Isolated pages m n (replay make (take line calls) m s) (replay make (take line calls) n t)
