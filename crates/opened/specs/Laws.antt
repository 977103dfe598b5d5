-- What holds of sets of pages, and of the pages that a list of calls opens. Assumes nothing.
use Rattle.std.specs.Prelude.{◌≡◌, ℕ, Bool, true, List, ◌++◌}
use Rattle.memory.specs.Memory.{Agree, Mem}
use Rattle.panel.specs.Panel.{Make}
use Rattle.cycles.specs.Footprint.{on_pages}
use Rattle.processor.specs.Isolation.{Alike, Isolated, StaysWithin}
use Rattle.processor.specs.Log.{Call, replay_from}
use Rattle.processor.specs.Step.{Model}
use Rattle.opened.specs.Opened.{opened}
use Rattle.opened.specs.Pages.{joined, none}

-- Joining is a union.
pub record SetLaws : Type 0 where
  pub with_none : (a : ℕ → Bool) → joined a none ≡ a
  pub with_itself : (a : ℕ → Bool) → joined a a ≡ a
  pub either_way : (a b : ℕ → Bool) → joined a b ≡ joined b a
  pub in_any_order : (a b c : ℕ → Bool) → joined (joined a b) c ≡ joined a (joined b c)
  -- a page of one of them is in the union
  pub first : (a b : ℕ → Bool) (q : ℕ) → a q ≡ true → joined a b q ≡ true
  pub second : (a b : ℕ → Bool) (q : ℕ) → b q ≡ true → joined a b q ≡ true
  -- and the union is in every set that both are in
  pub least : (a b c : ℕ → Bool) → ((q : ℕ) → a q ≡ true → c q ≡ true) → ((q : ℕ) → b q ≡ true → c q ≡ true) → (q : ℕ) → joined a b q ≡ true → c q ≡ true
  -- memories that agree on the union agree on each
  pub agreement : (a b : ℕ → Bool) (m n : Mem) → Agree (on_pages (joined a b)) m n → Agree (on_pages a) m n × Agree (on_pages b) m n

-- Of every list of calls, with every make of panel:
pub record OpenedLaws {S : Type 0} (make : Make S) : Type 0 where
  -- the pages that it opens are such as isolation presumes
  pub presumed : (calls : List Call) (c : Model S) → StaysWithin (opened make calls c) make calls c
  -- and they are in every other set that isolation could presume, so no page is in it for nothing
  pub least : (pages : ℕ → Bool) (calls : List Call) (c : Model S) → StaysWithin pages make calls c → (q : ℕ) → opened make calls c q ≡ true → pages q ≡ true
  -- so every card that is alike on them answers the same
  pub suffice : (calls : List Call) (c d : Model S) → Alike (opened make calls c) c d → Isolated (opened make calls c) c.mem d.mem (replay_from make calls c) (replay_from make calls d)
  -- one list and then another open what they open together
  pub in_turn : (one other : List Call) (c : Model S) → opened make (one ++ other) c ≡ joined (opened make one c) (opened make other (replay_from make one c).card)
