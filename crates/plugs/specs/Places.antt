-- How a plug keeps its entries: each in a place of its own, an entry with the key of an earlier one in that one's place.
-- Assumes nothing.
use Rattle.std.specs.Prelude.{ℕ, cond, List, [], ◌∷◌, Option, ◌==◌}
use Rattle.std.specs.List.{find}
use Rattle.plugs.specs.declared.table.Table.{Table}

-- The entries in the places used.
abbrev pub held : {E : Type 0} → Table E → List E
held t = t.entries.items

-- The entry of the key k.
abbrev pub entry_of : {E : Type 0} → (E → ℕ) → List E → ℕ → Option E
entry_of key es k = find (λ e. key e == k) es

-- The places after the entry new has taken its own.
abbrev pub placed : {E : Type 0} → (E → ℕ) → E → List E → List E
placed key new [] = new ∷ []
placed key new (e ∷ es) = cond (key e == key new) (new ∷ es) (e ∷ placed key new es)

-- The places after each entry of a list has taken its own, the first one first.
abbrev pub all_placed : {E : Type 0} → (E → ℕ) → List E → List E → List E
all_placed key places [] = places
all_placed key places (e ∷ es) = all_placed key (placed key e places) es
