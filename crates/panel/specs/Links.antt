-- How a table holds chains: each record names the next one, and 0 ends a chain. Assumes nothing.
use Rattle.std.specs.Prelude.{◌≡◌, ℕ, zero, suc, ◌+◌, cond, ◌&&◌, List, [], ◌∷◌, length, map, Some, None, Option, ◌==◌, nat_le, nat_lt, slice_index, slice_index_or, slice_set}
use Rattle.panel.specs.declared.record.Record.{Record}
use Rattle.panel.specs.declared.chain.span.Span.{Span}
use Rattle.panel.specs.declared.track.Track.{Track}
use Rattle.panel.specs.Tracks.{track_of, track_number}
use Rattle.panel.specs.Chains.{Entry, State, sum_below, is_full, fresh_number, last_number}

abbrev pub blank : Record
blank = record { port = 0; byte = 0; next = 0 }

-- The record of a number.
abbrev pub row : List Record → ℕ → Record
row table n = slice_index_or table n blank

abbrev pub entry_at : List Record → ℕ → Entry
entry_at table n = record { number = n; port = (row table n).port; byte = (row table n).byte }

-- The entries on the way from the number n along next numbers to 0, but so many at most.
abbrev pub followed : List Record → ℕ → ℕ → List Entry
followed table zero n = []
followed table (suc most) n = cond (n == 0) [] (entry_at table n ∷ followed table most (row table n).next)

-- The numbers of the first records of chains, and of the last ones.
abbrev pub firsts_of : List Span → List ℕ
firsts_of spans = map (λ s. s.first) spans

abbrev pub lasts_of : List Span → List ℕ
lasts_of spans = map (λ s. s.last) spans

-- The chains that begin with these numbers.
abbrev pub chains_in : List Record → List ℕ → ℕ → List Entry
chains_in table firsts k = followed table (length table) (slice_index firsts k)

-- How often the record n stands on a chain.
abbrev pub count_of : ℕ → List Entry → ℕ
count_of n [] = 0
count_of n (e ∷ es) = cond (e.number == n) 1 0 + count_of n es

-- The records 1 to u stand on the chains, each once, and no other does.
abbrev pub Once : (ℕ → List Entry) → ℕ → Type 0
Once chain u = (n : ℕ) → sum_below 3 (λ k. count_of n (chain k)) ≡ cond (nat_lt 0 n && nat_le n u) 1 0

-- These are the numbers of the chains' last records.
abbrev pub Ends : (ℕ → List Entry) → List ℕ → Type 0
Ends chain lasts = (k : ℕ) → slice_index lasts k ≡ last_number 0 (chain k)

-- What a write does to the table.

-- A record that ends its chain.
abbrev pub ending : ℕ → ℕ → Record
ending port byte = record { port = port; byte = byte; next = 0 }

abbrev pub with_next : ℕ → Record → Record
with_next n r = record { port = r.port; byte = r.byte; next = n }

-- The record `last` names n as its next; there is none such if it is 0.
abbrev pub named : ℕ → ℕ → List Record → List Record
named last n table = cond (last == 0) table (slice_set table last (with_next n (row table last)))

-- A write on a track fills the fresh record, and the last record of that chain names it. Nothing else changes.
abbrev pub filed : State → List Record → Option Track → ℕ → ℕ → List Record
filed s table None port byte = table
filed s table (Some track) port byte =
    named (last_number 0 (s.chain (track_number track))) (fresh_number s) (slice_set table (fresh_number s) (ending port byte))

-- The table after a write: one that is denied changes nothing.
abbrev pub table_written : State → List Record → ℕ → ℕ → List Record
table_written s table port byte = cond (is_full s) table (filed s table (track_of port) port byte)
