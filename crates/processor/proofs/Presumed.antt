-- The example's steps and looks stay in its pages. Assumes nothing.
use Rattle.std.proofs.Common.{◌≡◌, ℕ, zero, suc, ◌<◌, Bool, true, ◌&&◌, refl, ap, ◌∙◌, ⊎_elim, arith}
use Rattle.std.proofs.lemmas.Bool.{and_parts, cases_eq}
use Rattle.registers.specs.declared.window.Window.{Window}
use Rattle.registers.specs.Registers.{fresh_window}
use Rattle.registers.specs.Window.{shown_page}
use Rattle.cycles.specs.Footprint.{OpensWithin}
use Rattle.processor.specs.Example.{PresumptionMet, low_pages}

-- a test of the pages that the first n logical pages show
abbrev shows : (ℕ → Bool) → Window → ℕ → Bool
shows pages w zero = true
shows pages w (suc n) = pages (shown_page w n) && shows pages w n

shown : (pages : ℕ → Bool) (w : Window) (n : ℕ) → shows pages w n ≡ true → (p : ℕ) → p < n → pages (shown_page w p) ≡ true
shown pages w zero h p within = absurd (omega arith)
shown pages w (suc n) h p within =
    let parts = and_parts _ _ h in
    ⊎_elim (λ (last : p ≡ n). ap (λ k. pages (shown_page w k)) last ∙ parts.0) (λ other. shown pages w n parts.1 p (omega arith)) (cases_eq p n)

all : (w : Window) → shows low_pages w 16 ≡ true → OpensWithin low_pages w
all w h = shown low_pages w 16 h

-- the window after reset, and with 04H in BBR
reset : OpensWithin low_pages fresh_window
reset = all fresh_window refl

moved : OpensWithin low_pages (record { cbar = 240; cbr = 0; bbr = 4 })
moved = all (record { cbar = 240; cbr = 0; bbr = 4 }) refl

pub met : PresumptionMet
met = record {
  stays = (
    (reset, tt),
    tt,
    (
      (reset, (reset, (moved, tt))),
      tt,
      (
        tt,
        tt,
        (
          tt,
          tt,
          (tt, (λ _. reset), tt),
        ),
      ),
    ),
  );
  runs = refl;
  moves = refl;
  denies = refl;
}
