-- A logical page ends where the window's addresses end, or before. Assumes nothing.
use Rattle.std.proofs.Common.{◌≡◌, ℕ, ◌+◌, ◌%◌, ◌≤◌, map, ap, ◌∙◌, arith}
use Rattle.std.specs.List.{range_with_len}
use Rattle.std.proofs.lemmas.List.FromFn.{fill_by_all, get_or-map-range_with_len, length-map-range_with_len}
use Rattle.memory.specs.Memory.{Mem}
use Rattle.registers.specs.declared.window.Window.{Window}
use Rattle.registers.specs.Window.{physical_of}
use Rattle.view.specs.Views.{shown}
use Rattle.pagemap.specs.Pages.{byte_seen_through, bytes_through}

pub unwrapped : (m : Mem) (w : Window) (a n : ℕ) → a + n ≤ 65536 → shown m.byte w a n ≡ bytes_through m w a n
unfolding shown bytes_through
unwrapped m w a n fits =
    let wrapping = λ (k : ℕ). m.byte (physical_of w ((a + k) % 65536)) in
    fill_by_all (λ k. byte_seen_through m w (a + k)) (map wrapping (range_with_len 0 n)) n 0 (length-map-range_with_len wrapping 0 n)
    (λ k h. let same : (a + k) % 65536 ≡ a + k = omega arith in
    get_or-map-range_with_len wrapping 0 n k k 0 h (omega arith) ∙ ap (λ j. m.byte (physical_of w j)) same)
