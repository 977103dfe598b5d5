use Rattle.std.proofs.Common.{◌≡◌, false, cond, refl, ap, ◌∙◌}
use Rattle.arithmetic.specs.Flags.{byte}
use Rattle.panel.specs.declared.line.Line.{Line}
use Rattle.panel.specs.declared.line.Line.TheVariants.{Int0, Int1, Int2, Nmi}
use Rattle.panel.specs.Panel.{Make}
use Rattle.panel.specs.Script.{script_make}
use Rattle.registers.specs.Operands.{af, hl}
use Rattle.processor_laws.specs.Bench.{quiet, stacked}
use Rattle.card_laws.specs.Executes.{Quiet}
use Rattle.card_laws.specs.Worked.{WorkedSteps}
use Rattle.card_laws.proofs.Executing.{executing, runs}
use Rattle.card_laws.proofs.worked_numbers.Goals as goal

steps : {S : Type 0} (make : Make S) (s : S) → Quiet make s → WorkedSteps make s
steps make s still = record {
  two_areas = ap (λ t. hl t.card.processor.cpu) (executing make _ (runs make s still _ _ refl));
  added = ap (λ t. af t.card.processor.cpu) (executing make _ (runs make s still _ _ refl));
  adjusted = ap (λ t. af t.card.processor.cpu) (executing make _ (runs make s still _ _ refl));
  counted = ap (λ t. t.card.processor.cpu.main.b) (executing make _ (runs make s still _ _ refl));
  sent = ap (λ t. byte t.card.processor.cpu.main.f) (executing make _ (runs make s still _ _ refl));
  second_address = ap stacked (executing make _ (runs make s still _ _ refl));
  second_itc = ap (λ t. t.card.processor.cpu.itc) (executing make _ (runs make s still _ _ refl));
  second_time = ap (λ t. t.answer) (executing make _ (runs make s still _ _ refl));
  third_address = ap stacked (executing make _ (runs make s still _ _ refl));
  third_itc = ap (λ t. t.card.processor.cpu.itc) (executing make _ (runs make s still _ _ refl));
  third_time = ap (λ t. t.answer) (executing make _ (runs make s still _ _ refl));
  output_port = ap (λ t. t.card.panel) (executing make _ (runs make s still _ _ refl)) ∙ ap (λ full. make.told (cond full s (make.written s 0x0138 0x01)) 10) still.room;
  output_window = ap (λ t. t.card.processor.window) (executing make _ (runs make s still _ _ refl));
}

silent : (line : Line) → script_make.asks quiet line ≡ false
silent Nmi = refl
silent Int0 = refl
silent Int1 = refl
silent Int2 = refl

pub returns : goal.returns
returns g c = record {
  windows = record { common_0 = refl; bank = refl; common_1 = refl; above_ca = refl; below_ca = refl };
  operations = record { add = refl; daa = refl; otim = refl };
  steps = steps g.P.Panel.make;
  quiet_script = record { room = refl; silent = silent };
  kept_by_script = refl;
}
