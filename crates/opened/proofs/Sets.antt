-- The laws of sets of pages. Assumes nothing.
use Rattle.std.proofs.Common.{◌≡◌, ℕ, Bool, true, ⊎_elim}
use Rattle.std.proofs.Math.Bool.{or-false, or_assoc, or_comm, or_self}
use Rattle.std.proofs.lemmas.Bool.{and_from, and_parts, or_cases, or_left, or_right}
use Rattle.memory.specs.Memory.{Agree, Mem, is_address}
use Rattle.registers.specs.Window.{page_of}
use Rattle.cycles.specs.Footprint.{on_pages}
use Rattle.opened.specs.Laws.{SetLaws}
use Rattle.opened.specs.Pages.{joined}

-- two sets with the same pages are one
pub same_set : (a b : ℕ → Bool) → ((q : ℕ) → a q ≡ b q) → a ≡ b
same_set a b each = λ i q. each q i

pub least : (a b c : ℕ → Bool) → ((q : ℕ) → a q ≡ true → c q ≡ true) → ((q : ℕ) → b q ≡ true → c q ≡ true) → (q : ℕ) → joined a b q ≡ true → c q ≡ true
least a b c one other q h = ⊎_elim (one q) (other q) (or_cases (a q) (b q) h)

-- memories that agree on a set agree on each part of it
pub agree_part : (part whole : ℕ → Bool) (m n : Mem) → ((q : ℕ) → part q ≡ true → whole q ≡ true) → Agree (on_pages whole) m n → Agree (on_pages part) m n
agree_part part whole m n within agree x h =
    let parts = and_parts (is_address x) (part (page_of x)) h in
    agree x (and_from (is_address x) (whole (page_of x)) parts.0 (within (page_of x) parts.1))

pub laws : SetLaws
laws = record {
  with_none = λ a. same_set _ _ (λ q. or-false (a q));
  with_itself = λ a. same_set _ _ (λ q. or_self (a q));
  either_way = λ a b. same_set _ _ (λ q. or_comm (a q) (b q));
  in_any_order = λ a b c. same_set _ _ (λ q. or_assoc (a q) (b q) (c q));
  first = λ a b q h. or_left (a q) (b q) h;
  second = λ a b q h. or_right (a q) (b q) h;
  least = least;
  agreement = λ a b m n agree. (agree_part a (joined a b) m n (λ q h. or_left (a q) (b q) h) agree, agree_part b (joined a b) m n (λ q h. or_right (a q) (b q) h) agree);
}
