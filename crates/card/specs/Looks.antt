-- What a look may ask for, and what it fills. Assumes nothing.
use Rattle.std.specs.Prelude.{ℕ, Bool, ◌&&◌, cond, List, length, Ok, Err, Result, nat_le, nat_lt}
use Rattle.denial.specs.Denials.{Told, numbered}
use Rattle.registers.specs.declared.window.Window.{Window}
use Rattle.processor.specs.Run.{looked}

abbrev pub has_bases : Window → Bool
has_bases w = nat_lt w.cbr 128 && nat_lt w.bbr 128

abbrev pub is_length : ℕ → Bool
is_length n = nat_le n 4096

-- The answer to a buffer of n bytes: too many are denied as 7.
abbrev pub filling : ℕ → Result Unit Told
filling n = cond (is_length n) (Ok tt) (Err (numbered 7))

-- The buffer after it: the bytes that are seen through the window, from a logical address on; one that is too long is as it was.
abbrev pub filled : (ℕ → ℕ) → Window → ℕ → List ℕ → List ℕ
filled byte window at buffer = cond (is_length (length buffer)) (looked byte window at (length buffer)) buffer
