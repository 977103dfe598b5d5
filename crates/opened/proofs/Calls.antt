-- The pages that calls open are just those that isolation has to presume. Assumes nothing.
use Rattle.std.proofs.Common.{◌≡◌, ℕ, Bool, true, false, cond, List, [], ◌∷◌, ◌++◌, Ok, Err, Result, refl, sym, ap, ◌∙◌, subst}
use Rattle.std.proofs.lemmas.Bool.{false≢true, or_left, or_right}
use Rattle.panel.specs.Panel.{Make}
use Rattle.registers.specs.declared.window.Window.{Window}
use Rattle.registers.specs.Window.{opens_on, shown_page}
use Rattle.registers.proofs.Opened as windows
use Rattle.cycles.specs.Footprint.{OpensWithin}
use Rattle.cycles.specs.Play.{Tally}
use Rattle.processor.specs.Isolation.{Alike, Each, IfTaken, Isolated, LookWithin, StaysWithin, StepWithin}
use Rattle.processor.specs.Log.{Call, Call.looking, Call.resetting, Call.running, Call.stepping, replay_from, serve}
use Rattle.processor.specs.Run.{Stepped, is_look}
use Rattle.processor.specs.Step.{Faulted, Model}
use Rattle.processor.proofs.Logs as logs
use Rattle.opened.specs.Laws.{OpenedLaws}
use Rattle.opened.specs.Opened.{by_answer, by_call, by_look, by_step, by_steps, opened}
use Rattle.opened.specs.Pages.{joined, none}
use Rattle.opened.proofs.Sets as sets

-- a set of pages within another
abbrev pub Within : (ℕ → Bool) → (ℕ → Bool) → Type 0
Within part whole = (q : ℕ) → part q ≡ true → whole q ≡ true

left : (a b pages : ℕ → Bool) → Within (joined a b) pages → Within a pages
left a b pages h q e = h q (or_left (a q) (b q) e)

right : (a b pages : ℕ → Bool) → Within (joined a b) pages → Within b pages
right a b pages h q e = h q (or_right (a q) (b q) e)

nothing : (pages : ℕ → Bool) → Within none pages
nothing pages q e = absurd (false≢true e)

-- a window opens within a set that has all that it opens on, and the other way round
opens : (pages : ℕ → Bool) (w : Window) → Within (opens_on w) pages → OpensWithin pages w
opens pages w h p under = h (shown_page w p) (windows.laws.always w p under)

opened_by : (pages : ℕ → Bool) (w : Window) → OpensWithin pages w → Within (opens_on w) pages
opened_by pages w h q e =
    let found = windows.laws.exactly w q e in
    subst (λ k. pages k ≡ true) (sym found.2) (h found.0 found.1)

module _ {S : Type 0} (make : Make S) (pages : ℕ → Bool) where
  taken : (answer : Result Tally Faulted) (w : Window) → Within (by_answer answer w) pages → IfTaken answer (OpensWithin pages w)
  taken (Ok cost) w h = opens pages w h
  taken (Err why) w h = tt

  taken_back : (answer : Result Tally Faulted) (w : Window) → IfTaken answer (OpensWithin pages w) → Within (by_answer answer w) pages
  taken_back (Ok cost) w h = opened_by pages w h
  taken_back (Err why) w h = nothing pages

  each : (steps : List (Stepped S)) → Within (by_steps steps) pages → Each (StepWithin pages) steps
  each [] h = tt
  each (one ∷ rest) h =
      (taken one.turn.answer one.before.processor.window (left (by_step one) (by_steps rest) pages h), each rest (right (by_step one) (by_steps rest) pages h))

  each_back : (steps : List (Stepped S)) → Each (StepWithin pages) steps → Within (by_steps steps) pages
  each_back [] h = nothing pages
  each_back (one ∷ rest) h =
      sets.least (by_step one) (by_steps rest) pages (taken_back one.turn.answer one.before.processor.window h.0) (each_back rest h.1)

  accepted : (w : Window) (is : Bool) → Within (cond is (opens_on w) none) pages → is ≡ true → OpensWithin pages w
  accepted w is h e = opens pages w (subst (λ b. Within (cond b (opens_on w) none) pages) e h)

  accepted_back : (w : Window) (is : Bool) → (is ≡ true → OpensWithin pages w) → Within (cond is (opens_on w) none) pages
  accepted_back w true h = opened_by pages w (h refl)
  accepted_back w false h = nothing pages

  look : (call : Call) → Within (by_look call) pages → LookWithin pages call
  look stepping h = tt
  look (running budget) h = tt
  look resetting h = tt
  look (looking w at n) h = accepted w (is_look w n) h

  look_back : (call : Call) → LookWithin pages call → Within (by_look call) pages
  look_back stepping h = nothing pages
  look_back (running budget) h = nothing pages
  look_back resetting h = nothing pages
  look_back (looking w at n) h = accepted_back w (is_look w n) h

  stays : (calls : List Call) (c : Model S) → Within (opened make calls c) pages → StaysWithin pages make calls c
  stays [] c h = tt
  stays (call ∷ calls) c h =
      let line = serve make call c in
      let now = left (by_call make call c) (opened make calls line.card) pages h in (
        each line.steps (left (by_steps line.steps) (by_look call) pages now),
        look call (right (by_steps line.steps) (by_look call) pages now),
        stays calls line.card (right (by_call make call c) (opened make calls line.card) pages h),
      )

  stays_back : (calls : List Call) (c : Model S) → StaysWithin pages make calls c → Within (opened make calls c) pages
  stays_back [] c h = nothing pages
  stays_back (call ∷ calls) c h =
      let line = serve make call c in
      sets.least (by_call make call c) (opened make calls line.card) pages
      (sets.least (by_steps line.steps) (by_look call) pages (each_back line.steps h.0) (look_back call h.1))
      (stays_back calls line.card h.2)

module _ {S : Type 0} (make : Make S) where
  pub presumed : (calls : List Call) (c : Model S) → StaysWithin (opened make calls c) make calls c
  presumed calls c = stays make (opened make calls c) calls c (λ q e. e)

  pub suffice : (calls : List Call) (c d : Model S) → Alike (opened make calls c) c d → Isolated (opened make calls c) c.mem d.mem (replay_from make calls c) (replay_from make calls d)
  suffice calls c d alike = logs.replay_both make (opened make calls c) calls c d alike (presumed calls c)

  pub in_turn : (one other : List Call) (c : Model S) → opened make (one ++ other) c ≡ joined (opened make one c) (opened make other (replay_from make one c).card)
  in_turn [] other c = refl
  in_turn (call ∷ calls) other c =
      let line = serve make call c in
      ap (joined (by_call make call c)) (in_turn calls other line.card)
      ∙ sym (sets.laws.in_any_order (by_call make call c) (opened make calls line.card) (opened make other (replay_from make calls line.card).card))

  pub laws : OpenedLaws make
  laws = record { presumed = presumed; least = stays_back make; suffice = suffice; in_turn = in_turn }
