-- What the host meets on its way along a chain. Assumes nothing.
use Rattle.std.specs.Prelude.{ℕ, zero, suc, List, [], ◌∷◌, Some, None, Option}
use Rattle.panel.specs.declared.record.Record.{Record}
use Rattle.panel.specs.declared.chain.walk.Walk.{Walk}
use Rattle.panel.specs.Chains.{Entry, State, first_number, record_of}
use Rattle.panel.specs.Shown.{chain_state}

-- A chain as it is listed: each record with its number, and as its next the number of the one behind it, or 0.
abbrev pub listed : List Entry → List (ℕ × Record)
listed [] = []
listed (e ∷ es) = (e.number, record { port = e.port; byte = e.byte; next = first_number es }) ∷ listed es

-- From a number on by next numbers, but so many at most. The record under the number is given, if there is one.
abbrev pub onward : Option Record → ℕ → (ℕ → List (ℕ × Record)) → List (ℕ × Record)
onward None n on = []
onward (Some r) n on = (n, r) ∷ on r.next

abbrev pub walked : State → ℕ → ℕ → List (ℕ × Record)
walked s zero n = []
walked s (suc most) n = onward (record_of s n) n (walked s most)

abbrev pub left_to_walk : Walk → List (ℕ × Record)
left_to_walk w = walked (chain_state w.panel.now) w.most w.number
