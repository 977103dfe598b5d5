-- The panel of the tests: what it answers, and what each call leaves. Assumes nothing.
use Rattle.std.specs.Prelude.{ℕ, ◌+◌, min, Bool, false, cond, Some}
use Rattle.panel.specs.declared.line.Line.{Line}
use Rattle.panel.specs.declared.line.Line.TheVariants.{Int0, Int1, Int2, Nmi}
use Rattle.panel.specs.declared.sent.Sent.{Sent}
use Rattle.panel.specs.Panel.{Make}
use Rattle.check_execution.specs.declared.probe.Asked.{Asked}
use Rattle.check_execution.specs.declared.probe.Probe.{Probe}

abbrev pub is_asked : Asked → Line → Bool
is_asked a Nmi = a.nmi
is_asked a Int0 = a.int0
is_asked a Int1 = a.int1
is_asked a Int2 = a.int2

-- One line is asked for, or not; the others are as before.
abbrev pub with_asked : Line → Bool → Asked → Asked
with_asked Nmi asked a = record { nmi = asked; int0 = a.int0; int1 = a.int1; int2 = a.int2 }
with_asked Int0 asked a = record { nmi = a.nmi; int0 = asked; int1 = a.int1; int2 = a.int2 }
with_asked Int1 asked a = record { nmi = a.nmi; int0 = a.int0; int1 = asked; int2 = a.int2 }
with_asked Int2 asked a = record { nmi = a.nmi; int0 = a.int0; int1 = a.int1; int2 = asked }

abbrev pub with_read : ℕ → Probe → Probe
with_read port p = record { asked = p.asked; keeps = p.keeps; byte = p.byte; full = p.full; answer = p.answer; acknowledged = p.acknowledged; told = p.told; last_write = p.last_write; last_read = Some port }

abbrev pub with_write : Sent → Probe → Probe
with_write w p = record { asked = p.asked; keeps = p.keeps; byte = p.byte; full = p.full; answer = p.answer; acknowledged = p.acknowledged; told = p.told; last_write = Some w; last_read = p.last_read }

abbrev pub with_told : ℕ → Probe → Probe
with_told n p = record { asked = p.asked; keeps = p.keeps; byte = p.byte; full = p.full; answer = p.answer; acknowledged = p.acknowledged; told = n; last_write = p.last_write; last_read = p.last_read }

abbrev pub with_acknowledged : Line → Probe → Probe
with_acknowledged l p = record { asked = cond p.keeps p.asked (with_asked l false p.asked); keeps = p.keeps; byte = p.byte; full = p.full; answer = p.answer; acknowledged = Some l; told = p.told; last_write = p.last_write; last_read = p.last_read }

abbrev pub probe_make : Make Probe
probe_make = record {
  full = λ p. p.full;
  asks = λ p line. is_asked p.asked line;
  int0_byte = λ p. p.byte;
  answer = λ p _. p.answer;
  read = λ p port. with_read port p;
  written = λ p port byte. with_write (record { port = port; byte = byte }) p;
  acknowledged = λ p line. with_acknowledged line p;
  told = λ p n. with_told (min (p.told + n) 4294967295) p;
}
