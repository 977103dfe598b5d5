-- What a chain panel holds after any list of calls, the card's and the host's, since it was made. Assumes nothing.
use Rattle.std.specs.Prelude.{◌≡◌, ℕ, suc, ◌+◌, ◌≤◌, Bool, cond, ◌&&◌, ◌≢◌, List, [], ◌∷◌, ◌++◌, map, length, Some, Ok, Err, filter, ◌==◌, nat_le}
use Rattle.denial.specs.Denials.{numbered}
use Rattle.panel.specs.declared.record.Record.{Record}
use Rattle.panel.specs.declared.sent.Sent.{Sent}
use Rattle.panel.specs.declared.track.Track.{Track}
use Rattle.panel.specs.Panel.{accepted}
use Rattle.panel.specs.Acts.{Act, read, write, acknowledge, tell, acted}
use Rattle.panel.specs.Tracks.{low_byte, track_of, track_number}
use Rattle.panel.specs.Chains.{Entry, State, used, is_full, fresh_number, last_number, with_key, with_latch, new_chain, cleared, chain_make}
use Rattle.panel.specs.Links.{row, table_written}

-- The calls that may alter a chain panel: the card's, and the host's.
pub data Call : Type 0 where
  by_card : Act → Call
  set_key : ℕ → Call
  set_latch : Bool → Call
  clear : Call

-- The state after a call, and after a list of them.
abbrev pub called : State → Call → State
called s (by_card act) = acted chain_make s act
called s (set_key key) = with_key key s
called s (set_latch latch) = with_latch latch s
called s clear = cleared s

abbrev pub after : State → List Call → State
after s [] = s
after s (c ∷ cs) = after (called s c) cs

-- The writes that were accepted since making or clearing, first one first: ws, and then those of the calls.
abbrev pub noted : State → List Sent → Call → List Sent
noted s ws (by_card (read port)) = ws
noted s ws (by_card (write port byte)) = cond (is_full s) ws (ws ++ record { port = port; byte = byte } ∷ [])
noted s ws (by_card (acknowledge line)) = ws
noted s ws (by_card (tell states)) = ws
noted s ws (set_key key) = ws
noted s ws (set_latch latch) = ws
noted s ws clear = []

abbrev pub accepted_from : State → List Sent → List Call → List Sent
accepted_from s ws [] = ws
accepted_from s ws (c ∷ cs) = accepted_from (called s c) (noted s ws c) cs

-- A panel with so many usable records after a list of calls, and the writes that it accepted since making or clearing.
abbrev pub panel_after : ℕ → List Call → State
panel_after usable cs = after (new_chain usable) cs

abbrev pub accepted_since : ℕ → List Call → List Sent
accepted_since usable cs = accepted_from (new_chain usable) [] cs

-- Whether a write's port has this low byte; and whether it is one of 80H to 82H, whose writes are recorded.
abbrev pub to_low_byte : ℕ → Sent → Bool
to_low_byte low w = low_byte w.port == low

abbrev pub is_recorded : Sent → Bool
is_recorded w = nat_le 128 (low_byte w.port) && nat_le (low_byte w.port) 130

-- Writes as entries, with the numbers n, n + 1 and so on; and an entry's write.
abbrev pub numbered_from : ℕ → List Sent → List Entry
numbered_from n [] = []
numbered_from n (w ∷ ws) = record { number = n; port = w.port; byte = w.byte } ∷ numbered_from (suc n) ws

abbrev pub sent_of : Entry → Sent
sent_of e = record { port = e.port; byte = e.byte }

-- Whatever the calls were:
pub record HistoryLaws : Type 0 where
  -- each chain is exactly the accepted writes to its ports since making or clearing, in order: the pen's those to low byte
  -- 80H, the one of x those to 81H, the one of y those to 82H
  pub in_order : (usable : ℕ) (cs : List Call) (track : Track) → map sent_of ((panel_after usable cs).chain (track_number track)) ≡ filter (to_low_byte (128 + track_number track)) (accepted_since usable cs)
  -- the records of those writes are 1, 2 and so on, in the order in which they came, whichever chains they are on
  pub numbers : (usable : ℕ) (cs : List Call) (track : Track) → (panel_after usable cs).chain (track_number track) ≡ filter (λ e. to_low_byte (128 + track_number track) (sent_of e)) (numbered_from 1 (filter is_recorded (accepted_since usable cs)))
  -- a write is denied, as 8, exactly when as many writes are recorded since then as there are usable records, that is while
  -- the panel is full
  pub denied_when : (usable : ℕ) (cs : List Call) → accepted chain_make (panel_after usable cs) ≡ cond (length (filter is_recorded (accepted_since usable cs)) == usable) (Err (numbered 8)) (Ok tt)
  pub full_when : (usable : ℕ) (cs : List Call) → is_full (panel_after usable cs) ≡ (length (filter is_recorded (accepted_since usable cs)) == usable)
  -- as many records are used as writes recorded, and never more than are usable
  pub used_is : (usable : ℕ) (cs : List Call) → used (panel_after usable cs).chain ≡ length (filter is_recorded (accepted_since usable cs))
  pub used_within : (usable : ℕ) (cs : List Call) → used (panel_after usable cs).chain ≤ usable
  -- no call alters how many are usable
  pub usable_same : (usable : ℕ) (cs : List Call) → (panel_after usable cs).usable ≡ usable

-- The last record of the chain that a port is recorded on is some n.
abbrev pub IsLast : State → ℕ → ℕ → Type 0
IsLast s port n = (track : Track) × (track_of port ≡ Some track) × (n ≡ last_number 0 (s.chain (track_number track)))

-- What a write to any port does to the table, denied or not.
pub record TableLaws : Type 0 where
  -- the table stays as long as it is
  pub as_long : (s : State) (table : List Record) (port byte : ℕ) → length (table_written s table port byte) ≡ length table
  -- record 0 never changes
  pub zero_same : (s : State) (table : List Record) (port byte : ℕ) → row (table_written s table port byte) 0 ≡ row table 0
  -- a record other than the fresh one keeps its port and byte
  pub bytes_same : (s : State) (table : List Record) (port byte n : ℕ) → n ≢ fresh_number s → ((row (table_written s table port byte) n).port ≡ (row table n).port) × ((row (table_written s table port byte) n).byte ≡ (row table n).byte)
  -- and its next number too, unless it is the last of that port's chain
  pub others_same : (s : State) (table : List Record) (port byte n : ℕ) → n ≢ fresh_number s → (IsLast s port n → ⊥) → row (table_written s table port byte) n ≡ row table n
