-- What holds of every number below a bound, by computing it at each. Assumes nothing.
use Rattle.std.proofs.Common.{◌≡◌, ℕ, zero, suc, ◌<◌, ◌≤◌, Bool, true, false, ◌&&◌, T, ◌⊎◌, sym, refl, subst, inl, inr, arith}
use Rattle.arithmetic.specs.Flags.{alike, bit}

abbrev pub upto : ℕ → (ℕ → Bool) → Bool
upto zero p = true
upto (suc n) p = p n && upto n p

pub first : (a b : Bool) → T (a && b) → T a
first true b t = tt
first false b t = t

pub second : (a b : Bool) → T (a && b) → T b
second true b t = t
second false b t = absurd t

last_or_below : (n k : ℕ) → k < suc n → (k ≡ n) ⊎ (k < n)
last_or_below n k h = search arith

pub at : (n : ℕ) (p : ℕ → Bool) → T (upto n p) → (k : ℕ) → k < n → T (p k)
at zero p t k h = let no : ⊥ = omega arith in absurd no
at (suc n) p t k h =
    elim (last_or_below n k h) [ inl e ↦ subst (λ (m : ℕ). T (p m)) (sym e) (first (p n) (upto n p) t) | inr l ↦ at n p (second (p n) (upto n p) t) k l ]

-- two flags that were compared are one
pub same : (a b : Bool) → T (alike a b) → a ≡ b
same true true t = refl
same true false t = absurd t
same false true t = absurd t
same false false t = refl

pub bit_small : (b : Bool) → bit b ≤ 1
bit_small true = omega arith
bit_small false = omega arith
