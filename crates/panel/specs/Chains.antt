-- The chain panel: what it shows, and what each call answers and leaves. Assumes nothing.
use Rattle.std.specs.Prelude.{ℕ, zero, suc, ◌+◌, Bool, false, cond, not, List, [], ◌∷◌, ◌++◌, length, Some, None, Option, ◌==◌}
use Rattle.panel.specs.declared.record.Record.{Record}
use Rattle.panel.specs.declared.track.Track.{Track}
use Rattle.panel.specs.declared.line.Line.{Line}
use Rattle.panel.specs.declared.line.Line.TheVariants.{Nmi, Int0, Int1, Int2}
use Rattle.panel.specs.Panel.{Make}
use Rattle.panel.specs.Tracks.{low_byte, track_of, track_number}

-- A recorded write, with the number of the record that holds it. Its next number is that of the entry behind it, or 0.
pub record Entry : Type 0 where
  pub number : ℕ
  pub port : ℕ
  pub byte : ℕ

-- All that a chain panel shows: its chains by number, first entry first, how many records it can use, its key byte, and
-- whether the stop latch is set.
pub record State : Type 0 where
  pub chain : ℕ → List Entry
  pub usable : ℕ
  pub key : ℕ
  pub latch : Bool

-- The sum of f over the numbers below n.
abbrev pub sum_below : ℕ → (ℕ → ℕ) → ℕ
sum_below zero f = 0
sum_below (suc n) f = sum_below n f + f n

-- How many records stand on the three chains.
abbrev pub used : (ℕ → List Entry) → ℕ
used chain = sum_below 3 (λ k. length (chain k))

-- Full: every usable record is used.
abbrev pub is_full : State → Bool
is_full s = used s.chain == s.usable

-- The number of the record that the next recorded write takes: they are taken in order, from 1.
abbrev pub fresh_number : State → ℕ
fresh_number s = used s.chain + 1

-- The chains with an entry behind the last of chain k.
abbrev pub appended : (ℕ → List Entry) → ℕ → Entry → ℕ → List Entry
appended chain k e j = cond (j == k) (chain j ++ e ∷ []) (chain j)

abbrev pub with_chain : (ℕ → List Entry) → State → State
with_chain chain s = record { chain = chain; usable = s.usable; key = s.key; latch = s.latch }

abbrev pub with_key : ℕ → State → State
with_key key s = record { chain = s.chain; usable = s.usable; key = key; latch = s.latch }

abbrev pub with_latch : Bool → State → State
with_latch latch s = record { chain = s.chain; usable = s.usable; key = s.key; latch = latch }

-- After a write on a track, by its fresh record; and after one that is on none.
abbrev pub recorded : State → Option Track → ℕ → ℕ → State
recorded s None port byte = s
recorded s (Some track) port byte =
    with_chain (appended s.chain (track_number track) (record { number = fresh_number s; port = port; byte = byte })) s

abbrev pub chain_written : State → ℕ → ℕ → State
chain_written s port byte = recorded s (track_of port) port byte

-- A new panel, with so many usable records; and one whose chains are emptied.
abbrev pub new_chain : ℕ → State
new_chain usable = record { chain = λ _. []; usable = usable; key = 0; latch = false }

abbrev pub cleared : State → State
cleared s = with_chain (λ _. []) s

-- INT1 is asked for while the key byte is not 0, NMI while the latch is set.
abbrev pub chain_asks : State → Line → Bool
chain_asks s Nmi = s.latch
chain_asks s Int0 = false
chain_asks s Int1 = not (s.key == 0)
chain_asks s Int2 = false

-- Acknowledging NMI clears the latch.
abbrev pub chain_acknowledged : State → Line → State
chain_acknowledged s Nmi = with_latch false s
chain_acknowledged s Int0 = s
chain_acknowledged s Int1 = s
chain_acknowledged s Int2 = s

-- The chain panel as a panel: low byte 83H reads the key byte, other ports read FFH.
abbrev pub chain_make : Make State
chain_make = record {
  full = is_full;
  asks = chain_asks;
  int0_byte = λ _. 255;
  answer = λ s port. cond (low_byte port == 131) s.key 255;
  read = λ s _. s;
  written = chain_written;
  acknowledged = chain_acknowledged;
  told = λ s _. s;
}

-- The number that a chain begins with, or 0.
abbrev pub first_number : List Entry → ℕ
first_number [] = 0
first_number (e ∷ es) = e.number

-- The number of its last entry, or d.
abbrev pub last_number : ℕ → List Entry → ℕ
last_number d [] = d
last_number d (e ∷ es) = last_number e.number es

-- The record of a number, if it is on a chain: what was written, and the number of the record behind it.
abbrev pub on_chain : List Entry → ℕ → Option Record
on_chain [] n = None
on_chain (e ∷ es) n = cond (e.number == n) (Some (record { port = e.port; byte = e.byte; next = first_number es })) (on_chain es n)

abbrev pub or_else : Option Record → Option Record → Option Record
or_else (Some r) other = Some r
or_else None other = other

abbrev pub on_any : ℕ → (ℕ → List Entry) → ℕ → Option Record
on_any zero chain n = None
on_any (suc k) chain n = or_else (on_any k chain n) (on_chain (chain k) n)

abbrev pub record_of : State → ℕ → Option Record
record_of s n = on_any 3 s.chain n
