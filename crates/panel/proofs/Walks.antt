-- A walk by record numbers meets exactly the records of a chain. Assumes nothing.
use Rattle.std.proofs.Common.{◌≡◌, ℕ, zero, suc, ◌-◌, ◌<◌, ◌≤◌, List, [], ◌∷◌, length, Some, None, sym, refl, ap, ◌∙◌, arith}
use Rattle.std.proofs.lemmas.Bool.Decides.{nat_tests}
use Rattle.panel.specs.declared.record.Record.{Record}
use Rattle.panel.specs.Chains.{Entry, State, record_of}
use Rattle.panel.specs.Links.{row, count_of}
use Rattle.panel.specs.Walking.{listed, onward, walked}
use Rattle.panel.proofs.Following.{Leads, leads_first}

module _ (s : State) (t : List Record) (zero_none : record_of s 0 ≡ None) where
  pub walked_is : (most n : ℕ) (es : List Entry) → Leads t n es → ((i : ℕ) → 0 < count_of i es → record_of s i ≡ Some (row t i)) → length es ≤ most → walked s most n ≡ listed es
  walked_is zero n [] l found h = refl
  walked_is (suc most) n [] l found h = ap (λ o. onward o n (walked s most)) (ap (record_of s) l ∙ zero_none)
  walked_is zero n (e ∷ es) l found h = absurd (omega arith)
  walked_is (suc most) n (e ∷ es) (p, l) found h =
      let number = ap (λ x. x.number) p in
      let next = leads_first t (row t n).next es l in
      let here : 0 < count_of n (e ∷ es) = grind (arith, nat_tests) in
      ap (λ o. onward o n (walked s most)) (found n here)
      ∙ (λ i. (number i, record { port = (p i).port; byte = (p i).byte; next = next i }) ∷ walked_is most (row t n).next es l (λ j on. found j (omega arith)) (omega arith) i)

-- one step of a walk, and its end
pub walked_on : (s : State) (most n : ℕ) (r : Record) → (most ≡ 0 → ⊥) → Some r ≡ record_of s n → walked s most n ≡ (n, r) ∷ walked s (most - 1) r.next
walked_on s zero n r some found = absurd (some refl)
walked_on s (suc most) n r some found =
    let less : most ≡ suc most - 1 = omega arith in
    ap (λ o. onward o n (walked s most)) (sym found) ∙ ap (λ m. (n, r) ∷ walked s m r.next) less

pub walked_end : (s : State) (most n : ℕ) → None ≡ record_of s n → length (walked s most n) ≡ 0
walked_end s zero n none = refl
walked_end s (suc most) n none = ap (λ o. length (onward o n (walked s most))) (sym none)
