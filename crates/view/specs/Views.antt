-- The bytes that a window shows from a logical address on. Assumes nothing.
use Rattle.std.specs.Prelude.{ℕ, ◌+◌, ◌%◌, List, map}
use Rattle.std.specs.List.{range_with_len}
use Rattle.registers.specs.declared.window.Window.{Window}
use Rattle.registers.specs.Window.{physical_of}

-- Each address wraps, and is mapped by itself. It is over a byte function of the physical address, since it asks no more of
-- what is looked at.
-- The definition of the card says the same of a look, in words of its own: it leans on no crate of code, and this one on none of it.
unfoldable pub shown : (ℕ → ℕ) → Window → ℕ → ℕ → List ℕ
shown byte w at n = map (λ k. byte (physical_of w ((at + k) % 65536))) (range_with_len 0 n)
