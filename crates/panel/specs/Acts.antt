-- What a card does to its panel, whatever its make. Assumes nothing.
use Rattle.std.specs.Prelude.{ℕ, List, [], ◌∷◌}
use Rattle.panel.specs.declared.line.Line.{Line}
use Rattle.panel.specs.Panel.{Make, wrote}

pub data Act : Type 0 where
  read : ℕ → Act
  write : ℕ → ℕ → Act
  acknowledge : Line → Act
  tell : ℕ → Act

-- The state after an act, and after a list of them.
abbrev pub acted : {S : Type 0} → Make S → S → Act → S
acted make s (read port) = make.read s port
acted make s (write port byte) = wrote make s port byte
acted make s (acknowledge line) = make.acknowledged s line
acted make s (tell states) = make.told s states

abbrev pub acted_all : {S : Type 0} → Make S → S → List Act → S
acted_all make s [] = s
acted_all make s (a ∷ as') = acted_all make (acted make s a) as'
