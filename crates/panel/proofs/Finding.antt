-- What the host finds on the chains of a panel. Assumes nothing.
use Rattle.std.proofs.Common.{◌≡◌, ℕ, zero, suc, ◌<◌, ◌≤◌, true, cond, ◌&&◌, eqb, ltb, leb, ◌⊎◌, List, [], ◌∷◌, get_or, is_some, Some, None, sym, refl, ap, ◌∙◌, inl, inr, ⊎_elim, arith}
use Rattle.std.proofs.lemmas.Bool.{both_ways, cond_both, cond-false, cases_eq, cases_lt, eqb-true, ne_eqb}
use Rattle.std.proofs.lemmas.Bool.Decides.{nat_tests}
use Rattle.panel.specs.declared.record.Record.{Record}
use Rattle.panel.specs.declared.chain.Chain.{Chain}
use Rattle.panel.specs.Chains.{Entry, sum_below, first_number, on_chain, on_any, or_else, record_of}
use Rattle.panel.specs.Links.{row, count_of, firsts_of}
use Rattle.panel.specs.Shown.{chain_state, table_of}
use Rattle.panel.specs.Walking.{listed, walked}
use Rattle.panel.proofs.Following.{Leads, apart_from, leads_first}
use Rattle.panel.proofs.Tables.{few, in_use, well}
use Rattle.panel.proofs.Walks.{walked_is}
use Rattle.panel.proofs.Joining.{short_here, null_here, three_here}

absent : (n : ℕ) (es : List Entry) → count_of n es ≡ 0 → on_chain es n ≡ None
absent n [] z = refl
absent n (e ∷ es) z = let o = apart_from n e es z in cond-false (eqb e.number n) _ (on_chain es n) (ne_eqb e.number n o.0) ∙ absent n es o.1

present : (t : List Record) (a n : ℕ) (es : List Entry) → Leads t a es → 0 < count_of n es → on_chain es n ≡ Some (row t n)
present t a n [] l h = absurd (omega arith)
present t a n (e ∷ es) (p, l) h =
    let here : Record = record { port = e.port; byte = e.byte; next = first_number es } in
    let f = leads_first t (row t a).next es l in
    let same : row t a ≡ here = λ i. record { port = (p i).port; byte = (p i).byte; next = f i } in
    cond_both (eqb e.number n) (Some here) (on_chain es n) (λ o. o ≡ Some (row t n))
    (λ y. ap Some (sym same ∙ ap (row t) (ap (λ x. x.number) p ∙ eqb-true e.number n y)))
    (λ y. present t (row t a).next n es l (grind (arith, nat_tests)))

-- on the first k chains together
absent_below : (c : ℕ → List Entry) (n k : ℕ) → sum_below k (λ j. count_of n (c j)) ≡ 0 → on_any k c n ≡ None
absent_below c n zero z = refl
absent_below c n (suc k) z = ap (λ o. or_else o (on_chain (c k) n)) (absent_below c n k (omega arith)) ∙ absent n (c k) (omega arith)

module _ (t : List Record) (firsts : ℕ → ℕ) (c : ℕ → List Entry) (leads : (k : ℕ) → Leads t (firsts k) (c k)) (n : ℕ) where
  present_below : (k : ℕ) → 0 < sum_below k (λ j. count_of n (c j)) → on_any k c n ≡ Some (row t n)
  present_below zero h = absurd (omega arith)
  present_below (suc k) h =
      ⊎_elim
      (λ (y : 0 < sum_below k (λ j. count_of n (c j))). ap (λ o. or_else o (on_chain (c k) n)) (present_below k y))
      (λ y. ap (λ o. or_else o (on_chain (c k) n)) (absent_below c n k (omega arith)) ∙ present t (firsts k) n (c k) (leads k) (omega arith))
      (cases_lt 0 (sum_below k (λ j. count_of n (c j))))

module _ (p : Chain) where
  leads : (k : ℕ) → Leads (table_of p) (get_or (firsts_of p.spans) k 0) ((chain_state p).chain k)
  leads = well (table_of p) (firsts_of p.spans) (short_here p) (null_here p)

  -- a record on a chain is not record 0
  positive : (i k : ℕ) → 0 < count_of i ((chain_state p).chain k) → 0 < i
  positive zero k on = absurd (omega (arith, null_here p k))
  positive (suc i) k on = omega arith

  pub first_is : (k : ℕ) → get_or (firsts_of p.spans) k 0 ≡ first_number ((chain_state p).chain k)
  first_is k = leads_first (table_of p) (get_or (firsts_of p.spans) k 0) ((chain_state p).chain k) (leads k)

  pub record_none : (n : ℕ) → (n ≡ 0) ⊎ (p.used < n) → None ≡ record_of (chain_state p) n
  record_none n h =
      let z : cond {A = ℕ} (ltb 0 n && leb n p.used) 1 0 ≡ 0 = grind (arith, nat_tests) in
      sym (absent_below (chain_state p).chain n 3 (p.once n ∙ z))

  pub record_some : (n : ℕ) → 0 < n → n ≤ p.used → Some (row (table_of p) n) ≡ record_of (chain_state p) n
  record_some n low high =
      let z : cond {A = ℕ} (ltb 0 n && leb n p.used) 1 0 ≡ 1 = grind (arith, nat_tests) in
      let o = p.once n in
      sym (present_below (table_of p) (λ k. get_or (firsts_of p.spans) k 0) (chain_state p).chain leads n 3 (omega arith))

  -- what the host finds under a number is what stands in the table
  pub record_found : (n : ℕ) → is_some (record_of (chain_state p) n) ≡ true → record_of (chain_state p) n ≡ Some (row (table_of p) n)
  record_found n h =
      ⊎_elim
      (λ (past : p.used < n). absurd (both_ways _ (ap is_some (sym (record_none n (inr past)))) h))
      (λ within.
      ⊎_elim
      (λ (z : n ≡ 0). absurd (both_ways _ (ap is_some (sym (record_none n (inl z)))) h))
      (λ (ne : n ≡ 0 → ⊥). let low : 0 < n = omega arith in sym (record_some n low within))
      (cases_eq n 0))
      (cases_lt p.used n)

  -- a walk of as many steps as records are used meets a whole chain
  pub walk_is : (k n : ℕ) → n ≡ first_number ((chain_state p).chain k) → walked (chain_state p) p.used n ≡ listed ((chain_state p).chain k)
  walk_is k n first =
      let firsts = firsts_of p.spans in
      let used_here = in_use (table_of p) firsts p.used (three_here p).0 p.room p.total p.once in
      ap (walked (chain_state p) p.used) (first ∙ sym (first_is k))
      ∙ walked_is (chain_state p) (table_of p) (sym (record_none 0 (inl refl))) p.used (get_or firsts k 0) ((chain_state p).chain k) (leads k)
      (λ i on. sym (record_some i (positive i k on) (used_here i k on)))
      (few (table_of p) firsts p.used (three_here p).0 p.room p.total p.once k)
