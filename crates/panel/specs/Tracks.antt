-- The three chains: which one a port is recorded on, and their numbers and names. Assumes nothing.
use Rattle.std.specs.Prelude.{ℕ, ◌%◌, cond, List, Some, None, Option, ◌==◌, codes}
use Rattle.panel.specs.declared.track.Track.{Track}
use Rattle.panel.specs.declared.track.Track.TheVariants.{Pen, X, Y}

-- The low byte of a port.
abbrev pub low_byte : ℕ → ℕ
low_byte port = port % 256

-- The one mapping: ports with low byte 80H are the pen's, with 81H those of x, with 82H those of y. No other is recorded.
abbrev pub track_of : ℕ → Option Track
track_of port =
    cond (low_byte port == 128) (Some Pen) (cond (low_byte port == 129) (Some X) (cond (low_byte port == 130) (Some Y) None))

-- The chains by number, in the order in which a plot is listed.
abbrev pub track_number : Track → ℕ
track_number Pen = 0
track_number X = 1
track_number Y = 2

-- Their names in a listing.
abbrev pub track_name : Track → List ℕ
track_name Pen = codes "pen"
track_name X = codes "x"
track_name Y = codes "y"
