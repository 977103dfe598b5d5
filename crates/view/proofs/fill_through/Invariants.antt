use Rattle.std.proofs.Common.{◌≡◌, ℕ, ◌+◌, ◌%◌, ◌<◌, get_or}
use Rattle.registers.specs.Window.{physical_of}
use Rattle.view.proofs.fill_through.Given as goal

abbrev pub invariant-loop-byte : goal.invariant-loop-byte
invariant-loop-byte g l =
    (l.place ≡ (l.at + l.byte-index) % 65536)
    × ((k : ℕ) → k < l.byte-index → get_or l.buffer k 0 ≡ (g.M.Memory.memory l.memory).byte (physical_of l.window ((l.at + k) % 65536)))
