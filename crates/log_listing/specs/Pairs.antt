-- Where two logs that are served in pieces first differ. Assumes nothing.
use Rattle.std.specs.Prelude.{◌≡◌, ℕ, List, Option}
use Rattle.processor.specs.Log.{Answer}
use Rattle.card_log.specs.Joining.{counted}
use Rattle.card_log.specs.Replays.{FirstDifference}

-- After one more piece, with these answers of the two cards, behind so many lines.
abbrev pub Compared : List Answer → List Answer → Option ℕ → ℕ → Option ℕ → Type 0
Compared one other before lines after =
    (d : Option ℕ) × FirstDifference one other d × (after ≡ counted before lines d)
