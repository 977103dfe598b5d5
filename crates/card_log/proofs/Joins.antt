-- One log and then another. Assumes nothing.
use Rattle.std.proofs.Common.{◌≡◌, ℕ, suc, ◌+◌, List, [], ◌∷◌, ◌++◌, length, get_or, take, Some, None, Option, refl, sym, ap, ◌∙◌, ap₂, arith}
use Rattle.std.proofs.lemmas.List.{get_or_append_left, length-append, take-append-le}
use Rattle.panel.specs.Panel.{Make}
use Rattle.processor.specs.Log.{Answer, Call, serve}
use Rattle.processor.specs.Step.{Model}
use Rattle.opened.proofs.Calls as calls
use Rattle.card_log.specs.Joining.{JoinLaws, and_then, first_of}
use Rattle.card_log.specs.Replays.{FirstDifference, SoFar, reached}

module _ {S : Type 0} (make : Make S) where
  abbrev with_first : Call → Model S → SoFar S → SoFar S
  with_first call c f = record { answers = (serve make call c).answer ∷ f.answers; card = f.card }

  reached_both : (one other : List Call) (c : Model S) → reached make (one ++ other) c ≡ and_then (reached make one c) (reached make other (reached make one c).card)
  reached_both [] other c = refl
  reached_both (call ∷ one) other c = ap (with_first call c) (reached_both one other (serve make call c).card)

take_into : (xs ys : List Answer) (k : ℕ) → take (length xs + k) (xs ++ ys) ≡ xs ++ take k ys
take_into [] ys k = let e : 0 + k ≡ k = omega arith in ap (λ (n : ℕ). take n ys) e
take_into (x ∷ xs) ys k =
    let e : suc (length xs) + k ≡ suc (length xs + k) = omega arith in
    ap (λ (n : ℕ). take n (x ∷ (xs ++ ys))) e ∙ ap (λ (l : List Answer). x ∷ l) (take_into xs ys k)

get_into : (xs ys : List Answer) (k : ℕ) (d : Answer) → get_or (xs ++ ys) (length xs + k) d ≡ get_or ys k d
get_into [] ys k d = let e : 0 + k ≡ k = omega arith in ap (λ (n : ℕ). get_or ys n d) e
get_into (x ∷ xs) ys k d =
    let e : suc (length xs) + k ≡ suc (length xs + k) = omega arith in
    ap (λ (n : ℕ). get_or (x ∷ (xs ++ ys)) n d) e ∙ get_into xs ys k d

difference : (one other later last : List Answer) (d e : Option ℕ) → length one ≡ length other → FirstDifference one other d → FirstDifference later last e → FirstDifference (one ++ later) (other ++ last) (first_of d (length one) e)
difference one other later last None None long h k = ap₂ (λ (x y : List Answer). x ++ y) h k
difference one other later last None (Some i) long h k = (
  omega (arith, k.0, length-append one later),
  take_into one later i ∙ (ap₂ (λ (x y : List Answer). x ++ y) h k.1 ∙ (sym (take_into other last i) ∙ ap (λ (n : ℕ). take (n + i) (other ++ last)) (sym long))),
  λ d same. k.2 d (sym (get_into one later i d) ∙ (same ∙ (ap (λ (n : ℕ). get_or (other ++ last) (n + i) d) long ∙ get_into other last i d))),
)
difference one other later last (Some i) e long h k = (
  omega (arith, h.0, length-append one later),
  take-append-le i one later (omega (arith, h.0)) ∙ (h.1 ∙ sym (take-append-le i other last (omega (arith, h.0, long)))),
  λ d same. h.2 d (sym (get_or_append_left one later d i h.0) ∙ (same ∙ get_or_append_left other last d i (omega (arith, h.0, long)))),
)

pub laws : {S : Type 0} (make : Make S) → JoinLaws make
laws make = record { reached_both = reached_both make; opened_both = calls.in_turn make; difference = difference }
