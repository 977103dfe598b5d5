-- How INT1 and INT2 are served, and INT0 in mode 2. Assumes nothing.
use Rattle.std.specs.Prelude.{ℕ, ◌*◌}
use Rattle.panel.specs.declared.line.Line.{Line}
use Rattle.registers.specs.Registers.{Processor, up}
use Rattle.cycles.specs.Tree.{Cycles, Cycles.acknowledge}
use Rattle.processor.specs.Interrupt.{vectored}

-- The service of a line by a place in the table at I x 256.
abbrev pub by_table : Line → ℕ → Processor → Cycles Processor 2
by_table l place p = acknowledge l 6 (vectored (up (p.cpu.i * 256) place) p)
