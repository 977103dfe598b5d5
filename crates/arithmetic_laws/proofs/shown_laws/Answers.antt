use Rattle.std.proofs.Common.{ℕ, ◌%◌, Bool, eqb, refl}
use lib.Count.{ones, ones_in}
use Rattle.arithmetic.specs.Add.{plus, minus, negate}
use Rattle.arithmetic.specs.Block.{port_zero}
use Rattle.arithmetic.specs.Decimal.{adjust}
use Rattle.arithmetic.specs.Flags.{alike, even_parity}
use Rattle.arithmetic.specs.Increment.{increment, decrement}
use Rattle.arithmetic.specs.Logic.{and, or, xor}
use Rattle.arithmetic.specs.Rotate.{apply}
use Rattle.arithmetic.specs.declared.flags.Flags.{Flags}
use Rattle.arithmetic.specs.declared.rotate.Rotate.{Rotate}
use Rattle.arithmetic.specs.declared.rotate.Rotate.TheVariants.{Rlc, Rrc, Rl, Rr, Sla, Sra, Srl}
use Rattle.arithmetic_laws.specs.Shown.{Sums, Logic, Others, Parity, ShowsParity}
use Rattle.arithmetic_laws.proofs.Shows.{shows}
use Rattle.arithmetic_laws.proofs.Upto.{at, same}
use Rattle.arithmetic_laws.proofs.shown_laws.Goals as goal

sums : Sums
sums a b k f =
    (shows 128 (plus a b k f).0, shows 128 (minus a b k f).0, shows 128 (negate a f).0, shows 128 (increment a f).0, shows 128 (decrement a f).0)

logic : Logic
logic a b f =
    ((shows 128 (and a b f).0, refl), (shows 128 (or a b f).0, refl), (shows 128 (xor a b f).0, refl))

rotated : (kind : Rotate) (v : ℕ) (f : Flags) → ShowsParity (apply kind v f)
rotated Rlc v f = (shows 128 (apply Rlc v f).0, refl)
rotated Rrc v f = (shows 128 (apply Rrc v f).0, refl)
rotated Rl v f = (shows 128 (apply Rl v f).0, refl)
rotated Rr v f = (shows 128 (apply Rr v f).0, refl)
rotated Sla v f = (shows 128 (apply Sla v f).0, refl)
rotated Sra v f = (shows 128 (apply Sra v f).0, refl)
rotated Srl v f = (shows 128 (apply Srl v f).0, refl)

others : Others
others kind v m f =
    (rotated kind v f, (shows 128 (adjust v f).0, refl), (shows 128 v, refl), (shows 128 (port_zero v m f).0, refl))

counted : ℕ → Bool
counted v = alike (even_parity v) (eqb (ones v % 2) 0)

parity : Parity
unfolding counted ones ones_in
parity v h = same (even_parity v) (eqb (ones v % 2) 0) (at 256 counted tt v h)

pub returns : goal.returns
returns c = record { sums = sums; logic = logic; others = others; parity = parity }
