-- One chain in a table: what following the next numbers gives, and what a change of the table does to that. Assumes nothing.
use Rattle.std.proofs.Common.{◌≡◌, ℕ, zero, suc, ◌+◌, ◌<◌, ◌≤◌, cond, eqb, List, [], ◌∷◌, ◌++◌, length, sym, refl, ap, ◌∙◌, subst, arith}
use Rattle.std.proofs.lemmas.Bool.{cond_both, cond-false, cond-true, eqb-true, eq-eqb, ne_eqb}
use Rattle.std.proofs.lemmas.Bool.Decides.{nat_tests}
use Rattle.panel.specs.declared.record.Record.{Record}
use Rattle.panel.specs.Chains.{Entry, first_number, last_number}
use Rattle.panel.specs.Links.{row, entry_at, followed, count_of, with_next}

-- From n the next numbers lead through these entries, and then to 0.
abbrev pub Leads : List Record → ℕ → List Entry → Type 0
Leads t n [] = n ≡ 0
Leads t n (e ∷ es) = (entry_at t n ≡ e) × Leads t (row t n).next es

-- the number of the entry that n leads to
number_is : (t : List Record) (n : ℕ) (e : Entry) → entry_at t n ≡ e → n ≡ e.number
number_is t n e p = ap (λ x. x.number) p

-- the entry of a record that is the same but for its next number
entry_kept : (u : List Record) (n : ℕ) (r : Record) (e : Entry) → row u n ≡ r → record { number = n; port = r.port; byte = r.byte } ≡ e → entry_at u n ≡ e
entry_kept u n r e same is = ap (λ x. record { number = n; port = x.port; byte = x.byte }) same ∙ is

pub leads_first : (t : List Record) (n : ℕ) (es : List Entry) → Leads t n es → n ≡ first_number es
leads_first t n [] l = l
leads_first t n (e ∷ es) l = number_is t n e l.0

-- following that stopped before it had to has come to 0
pub ended : (t : List Record) (f n : ℕ) → length (followed t f n) < f → Leads t n (followed t f n)
ended t zero n h = absurd (omega arith)
ended t (suc f) n h =
    cond_both (eqb n 0) [] (entry_at t n ∷ followed t f (row t n).next)
    (λ es. length es < suc f → Leads t n es)
    (λ e _. eqb-true n 0 e)
    (λ e s. (refl, ended t f (row t n).next (omega arith)))
    h

pub apart_from : (i : ℕ) (e : Entry) (es : List Entry) → count_of i (e ∷ es) ≡ 0 → (e.number ≡ i → ⊥) × (count_of i es ≡ 0)
apart_from i e es z = (grind (arith, nat_tests), grind (arith, nat_tests))

-- what a number leads to is what following it gives
pub followed_is : (t : List Record) (f n : ℕ) (es : List Entry) → Leads t n es → count_of 0 es ≡ 0 → length es ≤ f → followed t f n ≡ es
followed_is t zero n [] l z h = refl
followed_is t (suc f) n [] l z h = cond-true (eqb n 0) [] _ (eq-eqb n 0 l)
followed_is t zero n (e ∷ es) l z h = absurd (omega arith)
followed_is t (suc f) n (e ∷ es) (p, l) z h =
    let o = apart_from 0 e es z in
    let rest = followed_is t f (row t n).next es l o.1 (omega arith) in
    cond-false (eqb n 0) [] (entry_at t n ∷ followed t f (row t n).next) (ne_eqb n 0 (λ y. o.0 (sym (number_is t n e p) ∙ y)))
    ∙ (λ i. p i ∷ rest i)

-- a table whose records on the way are the same
pub leads_still : (t u : List Record) (n : ℕ) (es : List Entry) → ((i : ℕ) → 0 < count_of i es → row u i ≡ row t i) → Leads t n es → Leads u n es
leads_still t u n [] same l = l
leads_still t u n (e ∷ es) same (p, l) =
    let is = number_is t n e p in
    let here : 0 < count_of n (e ∷ es) = grind (arith, nat_tests) in
    let s = same n here in (
      entry_kept u n _ e s p,
      subst (λ r. Leads u r.next es) (sym s) (leads_still t u (row t n).next es (λ i h. same i (omega arith)) l),
    )

pub last_on : (d : ℕ) (es : List Entry) → 0 < length es → 0 < count_of (last_number d es) es
last_on d [] h = absurd (omega arith)
last_on d (e ∷ []) h = grind (arith, nat_tests)
last_on d (e ∷ f ∷ es) h = let y = last_on e.number (f ∷ es) (omega arith) in omega arith

pub last_there : (es : List Entry) → (last_number 0 es ≡ 0 → ⊥) → 0 < count_of (last_number 0 es) es
last_there [] h = absurd (h refl)
last_there (e ∷ es) h = last_on 0 (e ∷ es) (omega arith)

-- a chain with no last record is empty
pub no_last : (es : List Entry) → count_of 0 es ≡ 0 → last_number 0 es ≡ 0 → es ≡ []
no_last [] z h = refl
no_last (e ∷ es) z h = absurd (let y = subst (λ i. 0 < count_of i (e ∷ es)) h (last_on 0 (e ∷ es) (omega arith)) in omega arith)

pub count_push : (i : ℕ) (es : List Entry) (x : Entry) → count_of i (es ++ x ∷ []) ≡ count_of i es + cond (eqb x.number i) 1 0
count_push i [] x = omega arith
count_push i (e ∷ es) x = omega (arith, count_push i es x)

pub last_push : (d : ℕ) (es : List Entry) (x : Entry) → last_number d (es ++ x ∷ []) ≡ x.number
last_push d [] x = refl
last_push d (e ∷ es) x = last_push e.number es x

module _ (t u : List Record) (x : Entry) (end : Leads u x.number (x ∷ [])) where
  extended :
      (n : ℕ) (e : Entry) (es : List Entry) →
      ((i : ℕ) → 0 < count_of i (e ∷ es) → (i ≡ last_number e.number es → ⊥) → row u i ≡ row t i) →
      row u (last_number e.number es) ≡ with_next x.number (row t (last_number e.number es)) →
      ((i : ℕ) → count_of i (e ∷ es) ≤ 1) → Leads t n (e ∷ es) → Leads u n (e ∷ es ++ x ∷ [])
  extended n e [] same link once (p, l) =
      let s = subst (λ m. row u m ≡ with_next x.number (row t m)) (sym (number_is t n e p)) link in (
        entry_kept u n _ e s p,
        subst (λ m. Leads u m (x ∷ [])) (sym (ap (λ r. r.next) s)) end,
      )
  extended n e (f ∷ es) same link once (p, l) =
      let is = number_is t n e p in
      let y = last_on e.number (f ∷ es) (omega arith) in
      let o = once (last_number f.number es) in
      let ne : n ≡ last_number f.number es → ⊥ = grind (arith, nat_tests) in
      let here : 0 < count_of n (e ∷ f ∷ es) = grind (arith, nat_tests) in
      let s = same n here ne in (
        entry_kept u n _ e s p,
        subst (λ r. Leads u r.next (f ∷ es ++ x ∷ [])) (sym s)
            (extended (row t n).next f es (λ i h k. same i (omega arith) k) link (λ i. let h = once i in omega arith) l),
      )

  -- the entry x behind the last one, whose record now names it
  pub extend :
      (n : ℕ) (es : List Entry) → (last_number 0 es ≡ 0 → ⊥) →
      ((i : ℕ) → 0 < count_of i es → (i ≡ last_number 0 es → ⊥) → row u i ≡ row t i) →
      row u (last_number 0 es) ≡ with_next x.number (row t (last_number 0 es)) →
      ((i : ℕ) → count_of i es ≤ 1) → Leads t n es → Leads u n (es ++ x ∷ [])
  extend n [] ne same link once l = absurd (ne refl)
  extend n (e ∷ es) ne same link once l = extended n e es same link once l
