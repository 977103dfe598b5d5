-- One log and then another. Assumes nothing.
use Rattle.std.specs.Prelude.{◌≡◌, ℕ, ◌+◌, ◌-◌, ◌^◌, List, ◌++◌, length, min, Some, None, Option}
use Rattle.panel.specs.Panel.{Make}
use Rattle.processor.specs.Log.{Answer, Call}
use Rattle.processor.specs.Step.{Model}
use Rattle.opened.specs.Opened.{opened}
use Rattle.opened.specs.Pages.{joined}
use Rattle.card_log.specs.Replays.{FirstDifference, SoFar, reached}

-- What two logs came to, one behind the other.
abbrev pub and_then : {S : Type 0} → SoFar S → SoFar S → SoFar S
and_then one other = record { answers = one.answers ++ other.answers; card = other.card }

-- The line at which they first differ, the first log having so many lines.
abbrev pub first_of : Option ℕ → ℕ → Option ℕ → Option ℕ
first_of (Some k) lines later = Some k
first_of None lines None = None
first_of None lines (Some k) = Some (lines + k)

-- The same, counted in 64 bits: a line behind 2^64 - 1 is told as that one.
abbrev pub counted : Option ℕ → ℕ → Option ℕ → Option ℕ
counted (Some k) lines later = Some k
counted None lines None = None
counted None lines (Some k) = Some (min (lines + k) (2 ^ 64 - 1))

-- To serve one log and then another is to serve both joined, with every make of panel:
pub record JoinLaws {S : Type 0} (make : Make S) : Type 0 where
  -- the answers stand one behind the other, and the card is the same
  pub reached_both : (one other : List Call) (c : Model S) → reached make (one ++ other) c ≡ and_then (reached make one c) (reached make other (reached make one c).card)
  -- the pages are those of both
  pub opened_both : (one other : List Call) (c : Model S) → opened make (one ++ other) c ≡ joined (opened make one c) (opened make other (reached make one c).card)
  -- and the first line at which two cards' answers differ is that of the first log, or else of the second behind it
  pub difference : (one other later last : List Answer) (d e : Option ℕ) → length one ≡ length other → FirstDifference one other d → FirstDifference later last e → FirstDifference (one ++ later) (other ++ last) (first_of d (length one) e)
