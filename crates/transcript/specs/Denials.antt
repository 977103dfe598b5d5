-- A denial, as it is printed. Assumes nothing.
use Rattle.std.specs.Prelude.{ℕ, List, ◌++◌, codes, decimal}
use Rattle.text.specs.Hexadecimal.{hex_word}
use Rattle.denial.specs.declared.Layer.{Layer}
use Rattle.denial.specs.declared.Layer.TheVariants.{Making, Memory, Card, Panel}
use Rattle.denial.specs.Denials.{Told}
use Rattle.processor.specs.Step.{Faulted}

abbrev pub layer_name : Layer → List ℕ
layer_name Making = codes "making"
layer_name Memory = codes "memory"
layer_name Card = codes "card"
layer_name Panel = codes "panel"

-- Its number is decimal.
unfoldable pub denial_text : Told → List ℕ
denial_text t = codes "denied " ++ (decimal t.number ++ (codes " " ++ layer_name t.layer))

-- A denied step's, with where PC stood.
unfoldable pub fault_text : Faulted → List ℕ
fault_text f = denial_text f.denial ++ (codes " pc=" ++ hex_word f.pc)
