-- A card asleep behind EI. Assumes nothing.
use Rattle.std.specs.Prelude.{false, true}
use Rattle.registers.specs.declared.registers.Mode.TheVariants.{Asleep}
use Rattle.registers.specs.Registers.{with_ei, with_mode}
use Rattle.processor_laws.specs.Interrupts.{Idles, panel_asks, ready, stepping}

-- Not even a line that only EI before shuts out wakes it, since IEF1 is 1: it idles.
abbrev pub IdlesBehindEi : Type 0
IdlesBehindEi =
    Idles Asleep (stepping (with_mode Asleep (with_ei true ready)) (panel_asks false true true true 0xFF))
