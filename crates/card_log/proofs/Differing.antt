-- The first difference of two lists of answers, told index by index. Assumes nothing.
use Rattle.std.proofs.Common.{◌≡◌, ℕ, ◌<◌, ◌≢◌, List, map, length, get_or, take, Some, None, Option, MatchOption, sym, ◌∙◌, arith}
use Rattle.std.proofs.lemmas.List.{get_or-map, get_or-take, length-take-le, same_lists}
use lib.ListN.{length-map}
use Rattle.processor.specs.Log as log
use Rattle.answers.specs.declared.answer.Answer.{Answer}
use Rattle.answers.specs.declared.answer.Answer.TheVariants.{Reset}
use Rattle.answers.specs.Answers.{answer_of}
use Rattle.card_log.specs.Replays.{FirstDifference}

module _ (xs ys : List Answer) (long : length xs ≡ length ys) where
  abbrev one : List log.Answer
  one = map answer_of xs

  abbrev other : List log.Answer
  other = map answer_of ys

  -- the answers at an index mean the same
  abbrev pub Same : ℕ → Answer → Type 0
  Same k d = answer_of (get_or xs k d) ≡ answer_of (get_or ys k d)

  here : (k : ℕ) (a : Answer) (d : log.Answer) → k < length xs → Same k a → get_or one k d ≡ get_or other k d
  here k a d h same =
      get_or-map answer_of xs k a d h ∙ (same ∙ sym (get_or-map answer_of ys k a d (omega (arith, long))))

  apart : (k : ℕ) (a : Answer) (d : log.Answer) → k < length xs → (Same k a → ⊥) → get_or one k d ≢ get_or other k d
  apart k a d h unlike same =
      unlike (sym (get_or-map answer_of xs k a d h) ∙ (same ∙ get_or-map answer_of ys k a d (omega (arith, long))))

  before : (i : ℕ) (a : Answer) → i < length xs → ((k : ℕ) → k < i → Same k a) → take i one ≡ take i other
  before i a h each =
      let first : length (take i one) ≡ i = length-take-le i one (omega (arith, length-map xs answer_of)) in
      let second : length (take i other) ≡ i = length-take-le i other (omega (arith, long, length-map ys answer_of)) in
      same_lists (take i one) (take i other) (omega arith) (λ k d lt. let under : k < i = omega arith in get_or-take i one k d under ∙ (here k a d (omega arith) (each k under) ∙ sym (get_or-take i other k d under)))

  pub first : (r : Option ℕ) → ((d : Answer) → MatchOption r ((k : ℕ) → k < length xs → Same k d) (λ i. (i < length xs) × ((k : ℕ) → k < i → Same k d) × (Same i d → ⊥))) → FirstDifference one other r
  first None found =
      same_lists one other (omega (arith, long, length-map xs answer_of, length-map ys answer_of)) (λ k d lt. let under : k < length xs = omega (arith, length-map xs answer_of) in here k Reset d under (found Reset k under))
  first (Some i) found =
      let at = found Reset in
      (omega (arith, at.0, length-map xs answer_of), before i Reset at.0 at.1, λ d. apart i Reset d at.0 at.2)
