use Rattle.std.proofs.Common.{refl, arith}
use borrow.Author.Differences.{ints}
use Rattle.std.proofs.lemmas.Bool.Decides.{nat_tests}
use Rattle.arithmetic_laws.specs.Sums.{Undone, Compared, Carried, Borrowed, Halved, Overflowed}
use Rattle.arithmetic_laws.proofs.Upto.{bit_small}
use Rattle.arithmetic_laws.proofs.sum_laws.Goals as goal

undone : Undone
undone a b k f g p q = let h = bit_small k in (omega arith, omega arith)

compared : Compared
compared a b f p q =
    (refl, ((λ e. grind (arith, nat_tests)), (λ e. grind (arith, nat_tests))), ((λ e. grind (arith, nat_tests)), (λ e. grind (arith, nat_tests))))

carried : Carried
carried a b k f p q =
    let h = bit_small k in
    (((λ e. grind (arith, nat_tests)), (λ e. grind (arith, nat_tests))), grind (arith, nat_tests))

borrowed : Borrowed
borrowed a b k f p q =
    let h = bit_small k in
    (((λ e. grind (arith, nat_tests)), (λ e. grind (arith, nat_tests))), grind (arith, nat_tests))

halved : Halved
halved a b k f p q = let h = bit_small k in (grind (arith, nat_tests), grind (arith, nat_tests))

overflowed : Overflowed
overflowed a b k f p q = let h = bit_small k in (grind (arith, nat_tests, ints), grind (arith, nat_tests, ints))

pub returns : goal.returns
returns c =
    record { undone = undone; compared = compared; carried = carried; borrowed = borrowed; halved = halved; overflowed = overflowed }
