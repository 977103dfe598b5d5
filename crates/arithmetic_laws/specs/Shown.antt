-- S, Z and parity show the result. Assumes nothing.
use Rattle.std.specs.Prelude.{◌≡◌, ℕ, ◌%◌, ◌<◌, Bool, ◌==◌, count_ones}
use Rattle.arithmetic.specs.Add.{plus, minus, negate}
use Rattle.arithmetic.specs.Block.{port_zero}
use Rattle.arithmetic.specs.Decimal.{adjust}
use Rattle.arithmetic.specs.Flags.{even_parity}
use Rattle.arithmetic.specs.Increment.{increment, decrement}
use Rattle.arithmetic.specs.Logic.{and, or, xor}
use Rattle.arithmetic.specs.Port.{input}
use Rattle.arithmetic.specs.Rotate.{apply}
use Rattle.arithmetic.specs.declared.flags.Flags.{Flags}
use Rattle.arithmetic.specs.declared.rotate.Rotate.{Rotate}
use Rattle.arithmetic_laws.specs.Results.{Shows}

-- S and Z show the byte.
abbrev pub Sums : Type 0
Sums =
    (a b : ℕ) (k : Bool) (f : Flags) →
    Shows 128 (plus a b k f)
    × Shows 128 (minus a b k f)
    × Shows 128 (negate a f)
    × Shows 128 (increment a f)
    × Shows 128 (decrement a f)

-- P/V shows its parity too.
abbrev pub ShowsParity : ℕ × Flags → Type 0
ShowsParity r = Shows 128 r × (r.1.pv ≡ even_parity r.0)

abbrev pub Logic : Type 0
Logic = (a b : ℕ) (f : Flags) → ShowsParity (and a b f) × ShowsParity (or a b f) × ShowsParity (xor a b f)

abbrev pub Others : Type 0
Others =
    (kind : Rotate) (v m : ℕ) (f : Flags) →
    ShowsParity (apply kind v f)
    × ShowsParity (adjust v f)
    × ShowsParity (input v f)
    × ShowsParity (port_zero v m f)

-- Parity is exactly an even number of ones.
abbrev pub Parity : Type 0
Parity = (v : ℕ) → v < 256 → even_parity v ≡ (count_ones v % 2 == 0)
