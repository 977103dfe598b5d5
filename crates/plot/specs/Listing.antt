-- The whole listing of a plot, and what is printed in its place where there is none. Assumes nothing.
use Rattle.std.specs.Prelude.{◌≡◌, ℕ, List, [], ◌∷◌, ◌++◌, Ok, Err, string_bytes, codes, Result, String}
use Rattle.registers.specs.declared.registers.Registers.{Registers}
use Rattle.registers.specs.declared.window.Window.{Window}
use Rattle.panel.specs.declared.record.Record.{Record}
use Rattle.panel.specs.declared.track.Track.{Track}
use Rattle.panel.specs.declared.track.Track.TheVariants.{Pen, X, Y}
use Rattle.panel.specs.Chains.{State}
use Rattle.panel.specs.Tracks.{track_number}
use Rattle.panel.specs.Walking.{listed}
use Rattle.processor.specs.Run.{Ran}
use Rattle.plot.specs.declared.unplotted.Unplotted.{Unplotted}
use Rattle.plot.specs.declared.unplotted.Unplotted.TheVariants.{TooLong, NoMemory}
use Rattle.plot.specs.Lines.{line, record_line, register_line, run_line}

-- A line for each record with its number.
abbrev pub lines_of : Track → List (ℕ × Record) → List ℕ
lines_of track [] = []
lines_of track (x ∷ xs) = line (record_line track x.0 x.1) ++ lines_of track xs

-- The records of a track, in the order of its chain.
abbrev pub track_text : State → Track → List ℕ
track_text s track = lines_of track (listed (s.chain (track_number track)))

-- The chains of pen, x and y.
abbrev pub chains_text : State → List ℕ
chains_text s = track_text s Pen ++ (track_text s X ++ track_text s Y)

-- The two lines of the run, then the chains.
abbrev pub text_of_plot : Ran → Registers → Window → State → List ℕ
text_of_plot ran cpu w s =
    line (run_line ran) ++ (line (register_line cpu w) ++ chains_text s)

-- What is printed where there is no listing.
abbrev pub unplotted_line : Unplotted → List ℕ
unplotted_line TooLong = codes "too long"
unplotted_line NoMemory = codes "no memory for the listing"

-- An answer is the listing; want of memory alone may come in its place.
abbrev pub Lists : {A : Type 0} → Result (String A) Unplotted → List ℕ → Type 0
Lists (Ok text) want = string_bytes text ≡ want
Lists (Err TooLong) want = ⊥
Lists (Err NoMemory) want = Unit {0}
