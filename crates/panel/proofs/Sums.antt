-- What holds of sums over the numbers below n. Assumes nothing.
use Rattle.std.proofs.Common.{◌≡◌, ℕ, zero, suc, ◌+◌, ◌<◌, ◌≤◌, cond, eqb, ◌≢◌, sym, refl, ◌∙◌, subst, ⊎_elim, arith}
use Rattle.std.proofs.lemmas.Bool.{cases_eq, cond-true, cond-false, eq-eqb, ne_eqb}
use Rattle.panel.specs.Chains.{sum_below}

-- the sums of two functions that are alike there
pub sum_same : (n : ℕ) (f g : ℕ → ℕ) → ((i : ℕ) → i < n → f i ≡ g i) → sum_below n f ≡ sum_below n g
sum_same zero f g same = refl
sum_same (suc n) f g same = omega (arith, sum_same n f g (λ i h. same i (omega arith)), same n (omega arith))

-- the sums of two functions that differ at k alone
pub sum_change : (n : ℕ) (f g : ℕ → ℕ) (k : ℕ) → k < n → ((i : ℕ) → i ≢ k → f i ≡ g i) → sum_below n f + g k ≡ sum_below n g + f k
sum_change zero f g k h same = absurd (omega arith)
sum_change (suc n) f g k h same =
    ⊎_elim
    (λ (e : n ≡ k).
    let below = sum_same n f g (λ i l. same i (omega arith)) in
    subst (λ m. sum_below n f + f n + g m ≡ sum_below n g + g n + f m) e (omega arith))
    (λ (d : n ≢ k). let less : k < n = omega arith in omega (arith, sum_change n f g k less same, same n d))
    (cases_eq n k)

-- a part is at most the sum, if what lies behind is 0
pub part : (n : ℕ) (f : ℕ → ℕ) → ((i : ℕ) → n ≤ i → f i ≡ 0) → (k : ℕ) → f k ≤ sum_below n f
part zero f none k = omega (arith, none k (omega arith))
part (suc n) f none k =
    ⊎_elim
    (λ (e : k ≡ n). subst (λ m. f m ≤ sum_below n f + f n) (sym e) (omega arith))
    (λ (d : k ≢ n).
    let g : ℕ → ℕ = λ i. cond (eqb i n) 0 (f i) in
    let here : g n ≡ 0 = cond-true (eqb n n) 0 (f n) (eq-eqb n n refl) in
    let there : (i : ℕ) → i ≢ n → g i ≡ f i = λ i ne. cond-false (eqb i n) 0 (f i) (ne_eqb i n ne) in
    let behind : (i : ℕ) → n ≤ i → g i ≡ 0 = λ i l. ⊎_elim (λ (e : i ≡ n). subst (λ m. g m ≡ 0) (sym e) here) (λ (ne : i ≢ n). there i ne ∙ none i (omega arith)) (cases_eq i n) in
    omega (arith, part n g behind k, there k d, sum_same n g f (λ i l. there i (omega arith))))
    (cases_eq k n)

-- and so are two parts
pub parts : (n : ℕ) (f : ℕ → ℕ) → ((i : ℕ) → n ≤ i → f i ≡ 0) → (j k : ℕ) → j ≢ k → k < n → f j + f k ≤ sum_below n f
parts n f none j k ne h =
    let g : ℕ → ℕ = λ i. cond (eqb i k) 0 (f i) in
    let here : g k ≡ 0 = cond-true (eqb k k) 0 (f k) (eq-eqb k k refl) in
    let there : (i : ℕ) → i ≢ k → g i ≡ f i = λ i d. cond-false (eqb i k) 0 (f i) (ne_eqb i k d) in
    let behind : (i : ℕ) → n ≤ i → g i ≡ 0 = λ i l. there i (omega arith) ∙ none i l in
    omega (arith, part n g behind j, there j ne, sum_change n f g k h (λ i d. sym (there i d)))
