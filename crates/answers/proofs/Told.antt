-- No two denials tell the same. Assumes nothing.
use Rattle.std.proofs.Common.{◌≡◌, ℕ, cond, ◌==◌, refl, sym, ap, ◌∙◌}
use Rattle.denial.specs.declared.Denial.{Denial}
use Rattle.denial.specs.declared.Denial.TheVariants.{MemoryTooLong, EntryOutOfRange, TooManyEntries, TableLength, AddressBeyondMemory, BudgetOutOfRange, LookOutOfRange, PanelFull, NoRestartByte}
use Rattle.denial.specs.Denials.{Told, told}

-- the denial of a number
abbrev of_number : ℕ → Denial
of_number n =
    cond (n == 1) MemoryTooLong (cond (n == 2) EntryOutOfRange (cond (n == 3) TooManyEntries (cond (n == 4) TableLength (cond (n == 5) AddressBeyondMemory (cond (n == 6) BudgetOutOfRange (cond (n == 7) LookOutOfRange (cond (n == 8) PanelFull NoRestartByte)))))))

numbered_back : (d : Denial) → of_number (told d).number ≡ d
numbered_back MemoryTooLong = refl
numbered_back EntryOutOfRange = refl
numbered_back TooManyEntries = refl
numbered_back TableLength = refl
numbered_back AddressBeyondMemory = refl
numbered_back BudgetOutOfRange = refl
numbered_back LookOutOfRange = refl
numbered_back PanelFull = refl
numbered_back NoRestartByte = refl

pub told_apart : (d e : Denial) → told d ≡ told e → d ≡ e
told_apart d e h = sym (numbered_back d) ∙ (ap (λ (t : Told). of_number t.number) h ∙ numbered_back e)
