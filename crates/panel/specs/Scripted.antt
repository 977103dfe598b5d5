-- What a script panel answers after any list of acts since it was made. Assumes nothing.
use Rattle.std.specs.Prelude.{◌≡◌, ℕ, suc, ◌+◌, min, Bool, true, false, not, ◌&&◌, ◌||◌, List, [], ◌∷◌, length, Some, None, Option, nat_le, slice_index_or}
use Rattle.panel.specs.declared.line.Line.{Line}
use Rattle.panel.specs.declared.line.Line.TheVariants.{Nmi, Int0, Int1, Int2}
use Rattle.panel.specs.declared.sent.Sent.{Sent}
use Rattle.panel.specs.Acts.{Act, read, write, acknowledge, tell, acted_all}
use Rattle.panel.specs.Script.{State, new_script, script_make}

-- How many of the acts are reads.
abbrev pub reads_of : List Act → ℕ
reads_of [] = 0
reads_of (read port ∷ more) = suc (reads_of more)
reads_of (write port byte ∷ more) = reads_of more
reads_of (acknowledge line ∷ more) = reads_of more
reads_of (tell states ∷ more) = reads_of more

-- The last of the writes among them, or what was written before.
abbrev pub last_of : Option Sent → List Act → Option Sent
last_of before [] = before
last_of before (read port ∷ more) = last_of before more
last_of before (write port byte ∷ more) = last_of (Some (record { port = port; byte = byte })) more
last_of before (acknowledge line ∷ more) = last_of before more
last_of before (tell states ∷ more) = last_of before more

-- How many states they tell in all.
abbrev pub states_of : List Act → ℕ
states_of [] = 0
states_of (read port ∷ more) = states_of more
states_of (write port byte ∷ more) = states_of more
states_of (acknowledge line ∷ more) = states_of more
states_of (tell states ∷ more) = states + states_of more

-- Whether INT0 is acknowledged among them.
abbrev pub is_int0 : Line → Bool
is_int0 Nmi = false
is_int0 Int0 = true
is_int0 Int1 = false
is_int0 Int2 = false

abbrev pub acknowledges : List Act → Bool
acknowledges [] = false
acknowledges (read port ∷ more) = acknowledges more
acknowledges (write port byte ∷ more) = acknowledges more
acknowledges (acknowledge line ∷ more) = is_int0 line || acknowledges more
acknowledges (tell states ∷ more) = acknowledges more

-- A panel made with these bytes, threshold and INT0 byte, after a list of acts.
abbrev pub script_after : List ℕ → ℕ → ℕ → List Act → State
script_after bytes threshold int0 acts = acted_all script_make (new_script bytes threshold int0) acts

-- Whatever the acts were:
pub record ScriptLaws : Type 0 where
  -- the next read answers the byte at the place that the number of reads says, or FFH behind the last
  pub next_answer : (bytes : List ℕ) (threshold int0 : ℕ) (acts : List Act) (port : ℕ) → script_make.answer (script_after bytes threshold int0 acts) port ≡ slice_index_or bytes (reads_of acts) 255
  -- as many of the bytes have been read as there were reads, or all
  pub read_so_far : (bytes : List ℕ) (threshold int0 : ℕ) (acts : List Act) → (script_after bytes threshold int0 acts).place ≡ min (reads_of acts) (length bytes)
  -- the list stays
  pub bytes_same : (bytes : List ℕ) (threshold int0 : ℕ) (acts : List Act) → (script_after bytes threshold int0 acts).bytes ≡ bytes
  -- the last write is the last
  pub last_written : (bytes : List ℕ) (threshold int0 : ℕ) (acts : List Act) → (script_after bytes threshold int0 acts).last_write ≡ last_of None acts
  -- INT0 is asked for exactly when the states told in all, at most 4,294,967,295, reach the threshold and it was never
  -- acknowledged
  pub asks_when : (bytes : List ℕ) (threshold int0 : ℕ) (acts : List Act) → script_make.asks (script_after bytes threshold int0 acts) Int0 ≡ (nat_le threshold (min (states_of acts) 4294967295) && not (acknowledges acts))
  -- its INT0 byte stays
  pub byte_same : (bytes : List ℕ) (threshold int0 : ℕ) (acts : List Act) → script_make.int0_byte (script_after bytes threshold int0 acts) ≡ int0
