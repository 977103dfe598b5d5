-- The pages that a window opens on. Assumes nothing.
use Rattle.std.specs.Prelude.{◌||◌}
use Rattle.std.specs.List.{list_any, range_with_len}
use Rattle.std.proofs.Math.Bool.{or-false, or_assoc}
use Rattle.std.proofs.Common.{◌≡◌, ℕ, zero, suc, ◌+◌, ◌*◌, ◌/◌, ◌%◌, ◌<◌, true, eqb, sym, refl, ap, ◌∙◌, ⊎_elim, add-one, arith, eq-eqb, eqb-true}
use Rattle.std.proofs.lemmas.Bool.{cases_eq, or_cases, or_left, or_right}
use Rattle.registers.specs.declared.window.Window.{Window}
use Rattle.registers.specs.Window.{shown_among, shown_page, opens_on, OpensOn, physical_of, page_of, logical_page, WindowLaws}

-- the test over n further pages, from a on
pub among_any : (w : Window) (q a n m : ℕ) → a + n ≡ m → shown_among w m q ≡ shown_among w a q || list_any (λ p. eqb (shown_page w p) q) (range_with_len a n)
among_any w q a zero m e =
    let same : m ≡ a = omega arith in ap (λ k. shown_among w k q) same ∙ sym (or-false (shown_among w a q))
among_any w q a (suc n) m e =
    let rest = list_any (λ p. eqb (shown_page w p) q) (range_with_len (a + 1) n) in
    among_any w q (a + 1) n m (omega arith)
    ∙ ap (λ k. shown_among w k q || rest) (add-one a)
    ∙ or_assoc (shown_among w a q) (eqb (shown_page w a) q) rest

pub among_some : (w : Window) (n p q : ℕ) → p < n → shown_page w p ≡ q → shown_among w n q ≡ true
among_some w zero p q h is = absurd (omega arith)
among_some w (suc n) p q h is =
    ⊎_elim
    (λ last. or_right _ _ (eq-eqb _ _ (ap (shown_page w) (sym last) ∙ is)))
    (λ other. or_left _ _ (among_some w n p q (omega arith) is))
    (cases_eq p n)

among_which : (w : Window) (n q : ℕ) → shown_among w n q ≡ true → (p : ℕ) × (p < n) × (q ≡ shown_page w p)
among_which w zero q h = absurd (let z : ◌≡◌ {A = ℕ} 0 1 = cc in omega arith)
among_which w (suc n) q h =
    ⊎_elim
    (λ before. let found = among_which w n q before in (found.0, omega (arith, found.1), found.2))
    (λ here. (n, omega arith, sym (eqb-true _ _ here)))
    (or_cases _ _ h)

-- a physical address lies in the page that its logical page shows
pub translated : (w : Window) (a : ℕ) → OpensOn w (page_of (physical_of w a))
translated w a = (logical_page a, omega arith, page_kept (shown_page w (logical_page a)) a)
  where
    page_kept : (q a : ℕ) → (q * 4096 + a % 4096) / 4096 ≡ q
    page_kept q a = omega arith

pub laws : WindowLaws
unfolding opens_on
laws = record {
  exactly = λ w q h. among_which w 16 q h;
  always = λ w p h. among_some w 16 p (shown_page w p) h refl;
  translated = translated;
  within = λ w a. omega arith;
}
