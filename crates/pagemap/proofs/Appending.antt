-- A text that grows line by line. Assumes nothing.
use Rattle.std.proofs.Common.{◌≡◌, ℕ, ◌+◌, Bool, List, [], ◌++◌, sym, ap, ◌∙◌, append_assoc, append-nil, add-one}
use Rattle.memory.specs.Memory.{Mem}
use Rattle.registers.specs.declared.window.Window.{Window}
use Rattle.pagemap.specs.declared.report.PageReport.{PageReport}
use Rattle.pagemap.specs.Lines.{if_held, line, page_line, page_report}
use Rattle.pagemap.specs.Listing.{held_text, pages_text}

-- one more piece
after : (s done piece t u : List ℕ) → t ≡ s ++ done → u ≡ t ++ piece → u ≡ s ++ (done ++ piece)
after s done piece t u before now = now ∙ ap (λ l. l ++ piece) before ∙ append_assoc s done piece

pub no_pages : (m : Mem) (bytes : ℕ) (w : Window) (s : List ℕ) → s ≡ s ++ pages_text m bytes w 0
unfolding pages_text
no_pages m bytes w s = sym (append-nil s)

pub page_more : (m : Mem) (bytes : ℕ) (w : Window) (n : ℕ) (r : PageReport) (s t u : List ℕ) → t ≡ s ++ pages_text m bytes w n → r ≡ page_report m bytes w n → u ≡ t ++ line (page_line r) → u ≡ s ++ pages_text m bytes w (n + 1)
unfolding pages_text
page_more m bytes w n r s t u before is now =
    after s (pages_text m bytes w n) (line (page_line (page_report m bytes w n))) t u before (now ∙ ap (λ p. t ++ line (page_line p)) is)
    ∙ ap (λ k. s ++ pages_text m bytes w k) (sym (add-one n))

pub none_held : (holds : ℕ → Bool) (s : List ℕ) → s ≡ s ++ held_text holds 0
unfolding held_text
none_held holds s = sym (append-nil s)

pub held_more : (holds : ℕ → Bool) (n : ℕ) (held : Bool) (s t u : List ℕ) → t ≡ s ++ held_text holds n → held ≡ holds n → u ≡ t ++ if_held held n → u ≡ s ++ held_text holds (n + 1)
unfolding held_text
held_more holds n held s t u before is now =
    after s (held_text holds n) (if_held (holds n) n) t u before (now ∙ ap (λ b. t ++ if_held b n) is)
    ∙ ap (λ k. s ++ held_text holds k) (sym (add-one n))

-- five pieces, one after another, from nothing
pub five : (a b c d e t₀ t₁ t₂ t₃ t₄ t₅ : List ℕ) → t₀ ≡ [] → t₁ ≡ t₀ ++ a → t₂ ≡ t₁ ++ b → t₃ ≡ t₂ ++ c → t₄ ≡ t₃ ++ d → t₅ ≡ t₄ ++ e → t₅ ≡ a ++ (b ++ (c ++ (d ++ e)))
five a b c d e t₀ t₁ t₂ t₃ t₄ t₅ h₀ h₁ h₂ h₃ h₄ h₅ =
    h₅ ∙ ap (λ l. l ++ e) (h₄ ∙ ap (λ l. l ++ d) (h₃ ∙ ap (λ l. l ++ c) (h₂ ∙ ap (λ l. l ++ b) (h₁ ∙ ap (λ l. l ++ a) h₀)))) ∙ simp append_assoc
