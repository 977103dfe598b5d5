-- The lines of the listing. Assumes nothing.
use Rattle.std.specs.Prelude.{ℕ, List, [], ◌∷◌, ◌++◌, codes, decimal}
use Rattle.text.specs.Hexadecimal.{hex_byte, hex_word}
use Rattle.arithmetic.specs.Flags as flags
use Rattle.registers.specs.declared.registers.Registers.{Registers}
use Rattle.registers.specs.declared.window.Window.{Window}
use Rattle.panel.specs.declared.record.Record.{Record}
use Rattle.panel.specs.declared.track.Track.{Track}
use Rattle.panel.specs.Tracks.{track_name}
use Rattle.processor.specs.Run.{Ran}
use Rattle.card.specs.Stops.{stop_name}

-- The line feed behind each line.
abbrev pub line : List ℕ → List ℕ
line text = text ++ (10 ∷ [])

-- How a run ended; the sums are decimal.
unfoldable pub run_line : Ran → List ℕ
run_line r =
    codes "stop=" ++ (stop_name r.stop ++ (codes " steps=" ++ (decimal r.steps ++ (codes " cycles=" ++ (decimal r.tally.cycles ++ (codes " states=" ++ decimal r.tally.states))))))

-- The registers, in hexadecimal; F is the low byte of AF.
unfoldable pub register_line : Registers → Window → List ℕ
register_line cpu w =
    codes "pc=" ++ (hex_word cpu.pc ++ (codes " sp=" ++ (hex_word cpu.sp ++ (codes " af=" ++ (hex_byte cpu.main.a ++ (hex_byte (flags.byte cpu.main.f) ++ (codes " cbar=" ++ hex_byte w.cbar)))))))

-- A record with its number: the numbers of records are decimal, port and byte hexadecimal.
unfoldable pub record_line : Track → ℕ → Record → List ℕ
record_line track n r =
    track_name track ++ (codes " " ++ (decimal n ++ (codes " " ++ (hex_word r.port ++ (codes " " ++ (hex_byte r.byte ++ (codes " " ++ decimal r.next)))))))
