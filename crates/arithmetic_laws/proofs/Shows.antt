-- The tests that S and Z are formed by decide what they show, at any width. Assumes nothing.
use Rattle.std.proofs.Common.{◌≡◌, ℕ, ◌≤◌, eqb, leb, Decides, arith}
use Rattle.std.proofs.lemmas.Bool.Decides.{nat_tests}

pub shows : (half v : ℕ) → Decides (leb half v) (half ≤ v) × Decides (eqb v 0) (v ≡ 0)
shows half v = (((λ e. grind (arith, nat_tests)), (λ e. grind (arith, nat_tests))), ((λ e. grind (arith, nat_tests)), (λ e. grind (arith, nat_tests))))
