use Rattle.std.proofs.Common.{ℕ, ◌-◌, ◌/◌, ◌%◌, Bool, true, false, cond, ◌&&◌, T, eqb}
use lib.Bits.{bit_and, bit_or}
use Rattle.arithmetic.specs.Bits.{weight}
use Rattle.arithmetic.specs.Flags.{alike}
use Rattle.arithmetic_laws.proofs.Upto.{at, first, same, second, upto}
use Rattle.arithmetic_laws.proofs.bit_laws.Goals as goal

-- bit i of v is 0
clear : ℕ → ℕ → Bool
clear i v = eqb (v / weight i % 2) 0

set_right : ℕ → ℕ → ℕ → Bool
unfolding clear
set_right b i v = alike (clear i (bit_or v (weight b))) (cond (eqb i b) false (clear i v))

reset_right : ℕ → ℕ → ℕ → Bool
unfolding clear
reset_right b i v = alike (clear i (bit_and v (255 - weight b))) (cond (eqb i b) true (clear i v))

right : ℕ → ℕ → ℕ → Bool
unfolding set_right reset_right
right b i v = set_right b i v && reset_right b i v

every : T (upto 8 (λ b. upto 8 (λ i. upto 256 (right b i))))
unfolding clear set_right reset_right right
every = tt

pub returns : goal.returns
unfolding clear set_right reset_right right
returns c b i v f p q h =
    let t : T (right b i v) = at 256 (right b i) (at 8 (λ j. upto 256 (right b j)) (at 8 (λ a. upto 8 (λ j. upto 256 (right a j))) every b p) i q) v h in
    (same (clear i (bit_or v (weight b))) (cond (eqb i b) false (clear i v)) (first (set_right b i v) (reset_right b i v) t), same (clear i (bit_and v (255 - weight b))) (cond (eqb i b) true (clear i v)) (second (set_right b i v) (reset_right b i v) t))
