-- A worked listing: A = 5 was written to port 80H, and the card halted. Assumes nothing.
use Rattle.std.specs.Prelude.{◌≡◌, None, codes}
use Rattle.registers.specs.Registers.{fresh_registers, with_a, with_pc}
use Rattle.panel.specs.Chains.{chain_written, new_chain}
use Rattle.processor.specs.Run.{halted}
use Rattle.plot.specs.Listing.{text_of_plot}

abbrev pub WorkedListing : Type 0
WorkedListing =
    text_of_plot (record { stop = halted; steps = 3; tally = record { cycles = 8; states = 22 }; fault = None })
    (with_pc 6 (with_a 5 fresh_registers)) (record { cbar = 0xF0; cbr = 0; bbr = 0 }) (chain_written (new_chain 63) 0x80 5)
    ≡ codes "stop=halted steps=3 cycles=8 states=22\npc=0006 sp=0000 af=0500 cbar=F0\npen 1 0080 05 0\n"
