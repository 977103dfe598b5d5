use Rattle.std.proofs.Common.{refl, lt_of_le_of_lt, le_of_lt, mul-le-mul_left, arith}
use borrow.Author.Differences.{ints}
use Rattle.std.proofs.lemmas.Bool.Decides.{nat_tests}
use Rattle.arithmetic.specs.Wide.{add_with_carry, subtract_with_carry}
use Rattle.arithmetic_laws.specs.Wide.{Carried, Overflowed, Shown, Product}
use Rattle.arithmetic_laws.proofs.Shows.{shows}
use Rattle.arithmetic_laws.proofs.Upto.{bit_small}
use Rattle.arithmetic_laws.proofs.wide_laws.Goals as goal

carried : Carried
carried a b f p q =
    let h = bit_small f.c in
    (grind (arith, nat_tests), grind (arith, nat_tests), grind (arith, nat_tests))

overflowed : Overflowed
overflowed a b f p q = let h = bit_small f.c in (grind (arith, nat_tests, ints), grind (arith, nat_tests, ints))

shown : Shown
shown a b f = (shows 32768 (add_with_carry a b f).0, shows 32768 (subtract_with_carry a b f).0)

product : Product
product a b f p q = (refl, lt_of_le_of_lt (mul-le-mul_left a (le_of_lt q)) (omega arith))

pub returns : goal.returns
returns c = record { carried = carried; overflowed = overflowed; shown = shown; product = product }
