-- Why a run stopped, by name. Assumes nothing.
use Rattle.std.specs.Prelude.{ℕ, List, codes}
use Rattle.processor.specs.Run.{Stop, fault, halted, spent}

-- A card that is asleep counts as halted.
abbrev pub stop_name : Stop → List ℕ
stop_name fault = codes "fault"
stop_name halted = codes "halted"
stop_name spent = codes "spent"
