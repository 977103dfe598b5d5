-- What a witness of a run has noted, as pages. Assumes nothing.
use Rattle.std.proofs.Common.{◌≡◌, ℕ, Bool, true, false, cond, List, [], ◌∷◌, Some, None, Ok, Err, Option, Result, refl, sym, ap, ◌∙◌}
use Rattle.registers.specs.declared.window.Window.{Window}
use Rattle.registers.specs.Window.{opens_on}
use Rattle.cycles.specs.Play.{Tally}
use Rattle.denial.specs.Denials.{numbered}
use Rattle.panel.specs.Panel.{Make}
use Rattle.processor.specs.Log.{Answer, Call.looking, Call.running, after_run, line}
use Rattle.processor.specs.Run.{Stepped, is_budget, is_look, run}
use Rattle.processor.specs.Step.{Faulted, Model}
use Rattle.card_log.specs.Rooms.{room_for, shown_in, sized}
use Rattle.card.specs.Witnesses.{after_answer, after_steps}
use Rattle.opened.specs.Opened.{by_answer, by_call, by_step, by_steps}
use Rattle.opened.specs.Pages.{joined, none}
use Rattle.opened.proofs.Sets as sets

abbrev pub noted : (ℕ → Bool) → Window → ℕ → Bool
noted pages w = joined pages (opens_on w)

by_one : (pages : ℕ → Bool) (answer : Result Tally Faulted) (w : Window) → after_answer noted pages answer w ≡ joined pages (by_answer answer w)
by_one pages (Ok cost) w = refl
by_one pages (Err why) w = sym (sets.laws.with_none pages)

pub by_all : {S : Type 0} (pages : ℕ → Bool) (steps : List (Stepped S)) → after_steps noted pages steps ≡ joined pages (by_steps steps)
by_all pages [] = sym (sets.laws.with_none pages)
by_all pages (one ∷ rest) =
    by_all (after_answer noted pages one.turn.answer one.before.processor.window) rest
    ∙ (ap (λ (p : ℕ → Bool). joined p (by_steps rest)) (by_one pages one.turn.answer one.before.processor.window)
    ∙ sets.laws.in_any_order pages (by_step one) (by_steps rest))

-- a window that was put in adds nothing more
pub put_in : (pages before added : ℕ → Bool) → pages ≡ joined before added → joined pages added ≡ pages
put_in pages before added e =
    ap (λ (p : ℕ → Bool). joined p added) e
    ∙ (sets.laws.in_any_order before added added ∙ (ap (joined before) (sets.laws.with_itself added) ∙ sym e))

-- a run with a budget, and one that is denied
ran : {S : Type 0} (make : Make S) (budget : ℕ) (c : Model S) (pages : ℕ → Bool) (accepted : Bool) → cond accepted (after_steps noted pages (run make budget c).steps) pages ≡ joined pages (joined (by_steps (cond accepted (after_run (run make budget c)) (line (Answer.ran (Err (numbered 6))) c [])).steps) none)
ran make budget c pages true =
    by_all pages (run make budget c).steps ∙ ap (joined pages) (sym (sets.laws.with_none (by_steps (run make budget c).steps)))
ran make budget c pages false = sym (sets.laws.with_none pages)

pub by_run : {S : Type 0} (make : Make S) (budget : ℕ) (c : Model S) (pages : ℕ → Bool) → cond (is_budget budget) (after_steps noted pages (run make budget c).steps) pages ≡ joined pages (by_call make (running budget) c)
by_run make budget c pages = ran make budget c pages (is_budget budget)

-- a look, by the room that there is for it
abbrev by_size : Option ℕ → Window → ℕ → Bool
by_size None w = none
by_size (Some n) w = opens_on w

by_room : {V : Type 0} (len : V → ℕ) (room : Option V) (w : Window) → shown_in room w ≡ by_size (sized len room) w
by_room len None w = refl
by_room len (Some v) w = refl

by_test : (n : ℕ) (w : Window) (accepted : Bool) → by_size (cond accepted (Some n) None) w ≡ cond accepted (opens_on w) none
by_test n w true = refl
by_test n w false = refl

pub by_looking : {V S : Type 0} (make : Make S) (len : V → ℕ) (room : Option V) (w : Window) (at n : ℕ) (c : Model S) → sized len room ≡ room_for (looking w at n) → shown_in room w ≡ by_call make (looking w at n) c
by_looking make len room w at n c fits =
    by_room len room w ∙ (ap (λ (o : Option ℕ). by_size o w) fits ∙ by_test n w (is_look w n))
