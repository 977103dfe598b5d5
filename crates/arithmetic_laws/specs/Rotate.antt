-- Left and right rotates undo each other. Assumes nothing.
use Rattle.std.specs.Prelude.{◌≡◌, ℕ, ◌<◌}
use Rattle.arithmetic.specs.Rotate.{apply, rld, rrd}
use Rattle.arithmetic.specs.declared.flags.Flags.{Flags}
use Rattle.arithmetic.specs.declared.rotate.Rotate.{Rotate}
use Rattle.arithmetic.specs.declared.rotate.Rotate.TheVariants.{Rlc, Rrc, Rl, Rr}

abbrev pub Circular : Type 0
Circular =
    (v : ℕ) (f g : Flags) → v < 256 →
    ((apply Rrc (apply Rlc v f).0 g).0 ≡ v) × ((apply Rlc (apply Rrc v f).0 g).0 ≡ v)

-- Through C, nine bits rotate: the second rotate begins with the C that the first one left, and both come back.
abbrev pub again : Rotate → ℕ × Flags → ℕ × Flags
again kind r = apply kind r.0 r.1

abbrev pub IsBack : ℕ → Flags → ℕ × Flags → Type 0
IsBack v f r = (r.0 ≡ v) × (r.1.c ≡ f.c)

abbrev pub ThroughCarry : Type 0
ThroughCarry =
    (v : ℕ) (f : Flags) → v < 256 →
    IsBack v f (again Rr (apply Rl v f)) × IsBack v f (again Rl (apply Rr v f))

-- Three digits, of A and of a byte of memory.
abbrev pub Digits : Type 0
Digits =
    (a m : ℕ) (f g : Flags) → a < 256 → m < 256 →
    ((rrd (rld a m f).0.0 (rld a m f).0.1 g).0 ≡ (a, m))
    × ((rld (rrd a m f).0.0 (rrd a m f).0.1 g).0 ≡ (a, m))
