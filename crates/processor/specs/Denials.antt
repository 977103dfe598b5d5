-- A denied call changes nothing. Assumes nothing.
use Rattle.std.specs.Prelude.{◌≡◌, ℕ, false, [], Err}
use Rattle.panel.specs.Panel.{Make}
use Rattle.registers.specs.declared.window.Window.{Window}
use Rattle.processor.specs.Log.{Call.looking, Call.running, serve}
use Rattle.processor.specs.Run.{is_budget}
use Rattle.processor.specs.Step.{Faulted, Model, step}

pub record DenialLaws {S : Type 0} (make : Make S) : Type 0 where
  -- a denied step leaves registers, memory and panel, and tells where PC stands
  pub step_same : (c : Model S) (why : Faulted) → (step make c).answer ≡ Err why → (step make c).card ≡ c
  pub step_pc : (c : Model S) (why : Faulted) → (step make c).answer ≡ Err why → why.pc ≡ c.processor.cpu.pc
  -- a run with a budget that is none takes no step and changes nothing
  pub run_same : (budget : ℕ) (c : Model S) → is_budget budget ≡ false → (serve make (running budget) c).card ≡ c
  pub run_steps : (budget : ℕ) (c : Model S) → is_budget budget ≡ false → (serve make (running budget) c).steps ≡ []
  -- a look never changes the card, denied or not
  pub look_same : (w : Window) (at n : ℕ) (c : Model S) → (serve make (looking w at n) c).card ≡ c
