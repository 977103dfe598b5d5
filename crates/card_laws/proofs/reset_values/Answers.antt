use Rattle.std.proofs.Common.{refl}
use Rattle.card_laws.proofs.reset_values.Goals as goal

pub returns : goal.returns
returns g c = record {
  main = λ _. refl;
  f = λ _. refl;
  alternate = λ _. refl;
  alternate_f = λ _. refl;
  words_after = λ _. refl;
  singles_after = λ _. refl;
  flip_flops_after = λ _. refl;
  interrupt_mode = λ _. refl;
  mode = λ _. refl;
  window = λ _. refl;
  memory = λ _. refl;
  panel = λ _. refl;
}
