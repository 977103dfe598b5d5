-- A log with one line more, and its isolation. Assumes nothing.
use Rattle.std.proofs.Common.{◌≡◌, ℕ, suc, ◌+◌, ◌<◌, Bool, List, [], ◌∷◌, ◌++◌, map, length, get_or, take, sym, refl, ap, ◌∙◌, ap₂, subst, arith, take-suc}
use mathlib.Core.List.{map-append}
use Rattle.panel.specs.Panel.{Make}
use Rattle.processor.specs.Log as log
use Rattle.processor.specs.Log.{serve}
use Rattle.processor.specs.Step.{Model}
use Rattle.processor.proofs.Logs.{isolation_from}
use Rattle.opened.specs.Opened.{by_call, opened}
use Rattle.opened.specs.Pages.{joined}
use Rattle.opened.proofs.Calls as calls
use Rattle.opened.proofs.Sets as sets
use Rattle.answers.specs.declared.call.Call.{Call}
use Rattle.answers.specs.Answers.{call_of}
use Rattle.card_log.specs.Replays.{Enough, SoFar, Together, more, reached}

-- the calls of the first i + 1 lines
pub one_more : (lines : List Call) (i : ℕ) (d : Call) → i < length lines → map call_of (take i lines) ++ (call_of (get_or lines i d) ∷ []) ≡ map call_of (take (i + 1) lines)
one_more lines i d h =
    let e : suc i ≡ i + 1 = omega arith in
    sym (map-append call_of (take i lines) (get_or lines i d ∷ []))
    ∙ (ap (λ (xs : List Call). map call_of xs) (sym (take-suc lines i d h)) ∙ ap (λ (k : ℕ). map call_of (take k lines)) e)

module _ {S : Type 0} (make : Make S) where
  abbrev with_first : log.Call → Model S → SoFar S → SoFar S
  with_first call c f = record { answers = (serve make call c).answer ∷ f.answers; card = f.card }

  pub reached_more : (calls : List log.Call) (call : log.Call) (c : Model S) → more make call (reached make calls c) ≡ reached make (calls ++ (call ∷ [])) c
  reached_more [] call c = refl
  reached_more (x ∷ calls) call c = ap (with_first x c) (reached_more calls call (serve make x c).card)

  opened_more : (one : List log.Call) (call : log.Call) (c : Model S) → joined (opened make one c) (by_call make call (reached make one c).card) ≡ opened make (one ++ (call ∷ [])) c
  opened_more one call c =
      ap (joined (opened make one c)) (sym (sets.laws.with_none (by_call make call (reached make one c).card))) ∙ sym (calls.in_turn make one (call ∷ []) c)

  -- after a line that was served
  pub served : (lines : List Call) (i : ℕ) (d call : Call) (c : Model S) (before after : SoFar S) → i < length lines → before ≡ reached make (map call_of (take i lines)) c → call ≡ get_or lines i d → after ≡ more make (call_of call) before → after ≡ reached make (map call_of (take (i + 1) lines)) c
  served lines i d call c before after h one this two =
      two
      ∙ (ap₂ (λ (x : Call) (f : SoFar S). more make (call_of x) f) this one
      ∙ (reached_more (map call_of (take i lines)) (call_of (get_or lines i d)) c ∙ ap (λ (calls : List log.Call). reached make calls c) (one_more lines i d h)))

  -- and the pages that were opened then
  pub opened_then : (lines : List Call) (i : ℕ) (d call : Call) (c : Model S) (before : SoFar S) (pages after : ℕ → Bool) → i < length lines → before ≡ reached make (map call_of (take i lines)) c → pages ≡ opened make (map call_of (take i lines)) c → call ≡ get_or lines i d → after ≡ joined pages (by_call make (call_of call) before.card) → after ≡ opened make (map call_of (take (i + 1) lines)) c
  opened_then lines i d call c before pages after h one had this two =
      two
      ∙ (ap₂ (λ (x : Call) (f : SoFar S). joined pages (by_call make (call_of x) f.card)) this one
      ∙ (ap (λ (p : ℕ → Bool). joined p (by_call make (call_of (get_or lines i d)) (reached make (map call_of (take i lines)) c).card)) had
      ∙ (opened_more (map call_of (take i lines)) (call_of (get_or lines i d)) c ∙ ap (λ (xs : List log.Call). opened make xs c) (one_more lines i d h))))

  pub together : (calls : List log.Call) (c d : Model S) → Together make calls c d
  together calls c d pages alike line within = isolation_from make pages calls c d alike line within

  pub enough : (pages : ℕ → Bool) (xs : List log.Call) (c d : Model S) → pages ≡ opened make xs c → Enough pages make xs c d
  enough pages xs c d e = subst (λ (p : ℕ → Bool). Enough p make xs c d) (sym e) (calls.suffice make xs c d)
