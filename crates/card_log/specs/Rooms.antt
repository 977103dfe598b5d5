-- The room that a line's answer needs, if any. Assumes nothing.
use Rattle.std.specs.Prelude.{ℕ, Bool, List, Option, Result, Ok, Err, Some, None, cond}
use Rattle.denial.specs.Denials.{Told, numbered}
use Rattle.registers.specs.declared.window.Window.{Window}
use Rattle.registers.specs.Window.{opens_on}
use Rattle.processor.specs.Log.{Call, Call.looking, Call.resetting, Call.running, Call.stepping}
use Rattle.processor.specs.Run.{is_look}
use Rattle.opened.specs.Pages.{none}

-- A look that will be accepted needs as many bytes as it asks for.
abbrev pub room_for : Call → Option ℕ
room_for stepping = None
room_for (running budget) = None
room_for resetting = None
room_for (looking w at n) = cond (is_look w n) (Some n) None

-- How much room there is.
abbrev pub sized : {V : Type 0} → (V → ℕ) → Option V → Option ℕ
sized len None = None
sized len (Some v) = Some (len v)

-- What is seen in the room that there is; without any, the look is denied.
abbrev pub seen_in : {V : Type 0} → (V → List ℕ) → Option V → Result (List ℕ) Told
seen_in bytes None = Err (numbered 7)
seen_in bytes (Some v) = Ok (bytes v)

-- The pages that it opens then; without any room, none.
abbrev pub shown_in : {V : Type 0} → Option V → Window → ℕ → Bool
shown_in None w = none
shown_in (Some v) w = opens_on w
