-- The script panel: how far its list has been read, its last write, and when it asks for INT0. Assumes nothing.
use Rattle.std.specs.Prelude.{ℕ, ◌+◌, min, Bool, true, false, cond, not, ◌&&◌, List, length, Some, None, vec_items, Option, nat_le, nat_lt, slice_index_or}
use Rattle.panel.specs.declared.line.Line.{Line}
use Rattle.panel.specs.declared.line.Line.TheVariants.{Nmi, Int0, Int1, Int2}
use Rattle.panel.specs.declared.sent.Sent.{Sent}
use Rattle.panel.specs.declared.script.Script.{Script}
use Rattle.panel.specs.Panel.{Make}

pub record State : Type 0 where
  -- the list that reads answer from
  pub bytes : List ℕ
  -- how many of its bytes have been read
  pub place : ℕ
  pub last_write : Option Sent
  -- how many states it was told in all, at most 4,294,967,295
  pub told : ℕ
  -- how many it waits for
  pub threshold : ℕ
  pub acknowledged : Bool
  pub int0_byte : ℕ

-- A read answers the next byte of the list, then FFH.
abbrev pub next_byte : State → ℕ
next_byte s = slice_index_or s.bytes s.place 255

-- It goes on to the byte behind, if there was one to answer.
abbrev pub place_behind : State → ℕ
place_behind s = cond (nat_lt s.place (length s.bytes)) (s.place + 1) s.place

-- INT0 is asked for once enough states are told, until it is acknowledged, and then never again; no other line ever is.
abbrev pub script_asks : State → Line → Bool
script_asks s Nmi = false
script_asks s Int0 = nat_le s.threshold s.told && not s.acknowledged
script_asks s Int1 = false
script_asks s Int2 = false

abbrev pub with_place : ℕ → State → State
with_place n s = record { bytes = s.bytes; place = n; last_write = s.last_write; told = s.told; threshold = s.threshold; acknowledged = s.acknowledged; int0_byte = s.int0_byte }

abbrev pub with_write : Sent → State → State
with_write w s = record { bytes = s.bytes; place = s.place; last_write = Some w; told = s.told; threshold = s.threshold; acknowledged = s.acknowledged; int0_byte = s.int0_byte }

abbrev pub with_told : ℕ → State → State
with_told n s = record { bytes = s.bytes; place = s.place; last_write = s.last_write; told = n; threshold = s.threshold; acknowledged = s.acknowledged; int0_byte = s.int0_byte }

abbrev pub with_acknowledged : State → State
with_acknowledged s = record { bytes = s.bytes; place = s.place; last_write = s.last_write; told = s.told; threshold = s.threshold; acknowledged = true; int0_byte = s.int0_byte }

abbrev pub script_acknowledged : State → Line → State
script_acknowledged s Nmi = s
script_acknowledged s Int0 = with_acknowledged s
script_acknowledged s Int1 = s
script_acknowledged s Int2 = s

-- The script panel as a panel. It is never full, and takes no heed of ports but to keep that of the last write.
abbrev pub script_make : Make State
script_make = record {
  full = λ _. false;
  asks = script_asks;
  int0_byte = λ s. s.int0_byte;
  answer = λ s _. next_byte s;
  read = λ s _. with_place (place_behind s) s;
  written = λ s port byte. with_write (record { port = port; byte = byte }) s;
  acknowledged = script_acknowledged;
  told = λ s n. with_told (min (s.told + n) 4294967295) s;
}

-- A new one: nothing read, written, told or acknowledged.
abbrev pub new_script : List ℕ → ℕ → ℕ → State
new_script bytes threshold int0 = record { bytes = bytes; place = 0; last_write = None; told = 0; threshold = threshold; acknowledged = false; int0_byte = int0 }

-- The state of a value.
abbrev pub script_state : Script → State
script_state p = record {
  bytes = vec_items p.bytes;
  place = p.place;
  last_write = p.last_write;
  told = p.told;
  threshold = p.threshold;
  acknowledged = p.acknowledged;
  int0_byte = p.int0_byte;
}
