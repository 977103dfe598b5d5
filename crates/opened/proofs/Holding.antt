-- Marks in the list of a set of pages. Assumes nothing.
use Rattle.std.proofs.Common.{◌≡◌, ℕ, suc, ◌<◌, Bool, true, false, ◌||◌, eqb, List, length, get_or, set, replicate, sym, ap, ◌∙◌, ap₂, ⊎_elim, arith, eq-eqb}
use Rattle.std.proofs.Math.Bool.{or-false, or_assoc}
use Rattle.std.proofs.lemmas.Bool.{cases_eq, cases_lt, ne_eqb, or_right}
use Rattle.std.proofs.lemmas.List.{get_or-replicate, get_or-set_other, get_or-set_same, get_or_past, length-replicate}
use Rattle.registers.specs.declared.window.Window.{Window}
use Rattle.registers.specs.Window.{shown_among, shown_page}
use Rattle.opened.specs.Pages.{joined}
use Rattle.opened.proofs.Sets.{same_set}

-- whether a page is marked
abbrev pub marks : List Bool → ℕ → Bool
marks held q = get_or held q false

-- a page that is marked, beside those that were
marked_at : (held : List Bool) (k q : ℕ) (b : Bool) → k < length held → q ≡ k → marks (set held k b) q ≡ b
marked_at held k q b h e = ap (λ x. marks (set held k b) x) e ∙ get_or-set_same held k b false h

pub mark : (held : List Bool) (k q : ℕ) → k < length held → marks (set held k true) q ≡ (marks held q || eqb k q)
mark held k q h = ⊎_elim
    (λ same. marked_at held k q true h same ∙ sym (or_right (marks held q) (eqb k q) (eq-eqb k q (sym same))))
    (λ other. get_or-set_other held k q true false other ∙ (sym (or-false (marks held q)) ∙ ap (λ b. marks held q || b) (sym (ne_eqb k q (λ e. other (sym e))))))
    (cases_eq q k)

-- no page is marked in a list of false
pub unmarked : (n q : ℕ) → marks (replicate n false) q ≡ false
unmarked n q = ⊎_elim
    (λ under. get_or-replicate n q false false under)
    (λ over. get_or_past (replicate n false) q false (omega (arith, over, length-replicate n false)))
    (cases_lt q n)

-- with the page in that one more logical page shows
pub one_more : (init held : List Bool) (w : Window) (n m page : ℕ) → page ≡ shown_page w n → m ≡ suc n → page < length held → marks held ≡ joined (marks init) (shown_among w n) → marks (set held page true) ≡ joined (marks init) (shown_among w m)
one_more init held w n m page is next h same = same_set _ _ (λ q.
    mark held page q h
    ∙ (ap₂ (λ (f : ℕ → Bool) (p : ℕ). f q || eqb p q) same is
    ∙ (or_assoc (marks init q) (shown_among w n q) (eqb (shown_page w n) q)
    ∙ ap (λ (k : ℕ). marks init q || shown_among w k q) (sym next))))
