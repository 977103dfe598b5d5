-- A logical page as the window shows it. Assumes nothing.
use Rattle.std.specs.Prelude.{ℕ, ◌+◌, ◌-◌, ◌*◌, min, List, map}
use Rattle.std.specs.List.{range_with_len}
use Rattle.memory.specs.Memory.{Mem}
use Rattle.registers.specs.declared.window.Window.{Window}
use Rattle.registers.specs.Window.{physical_of}

-- The byte at a logical address, read through a window.
abbrev pub byte_seen_through : Mem → Window → ℕ → ℕ
byte_seen_through m w a = m.byte (physical_of w a)

-- n bytes from a logical address on.
unfoldable pub bytes_through : Mem → Window → ℕ → ℕ → List ℕ
bytes_through m w a n = map (λ k. byte_seen_through m w (a + k)) (range_with_len 0 n)

-- How many addresses of a physical page a bank of so many bytes has.
abbrev pub present : ℕ → ℕ → ℕ
present bytes page = min (bytes - page * 4096) 4096
