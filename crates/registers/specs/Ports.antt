-- The internal ports: which ports are the processor's own, what they read as, and what a write leaves. Assumes nothing.
use Rattle.std.specs.Prelude.{ℕ, ◌+◌, ◌*◌, ◌/◌, ◌%◌, Bool, cond, ◌==◌, nat_le}
use Rattle.registers.specs.declared.registers.Registers.{Registers}
use Rattle.registers.specs.declared.window.Window.{Window}
use Rattle.registers.specs.Registers.{Processor, with_icr, with_il, with_itc}

-- A port is internal if its upper half is 0 and its bits 7 and 6 are those of ICR.
abbrev pub is_internal : Registers → ℕ → Bool
is_internal s port = port / 64 == s.icr / 64

-- Its low six bits choose: 33H IL, 34H ITC, 38H CBR, 39H BBR, 3AH CBAR, 3FH ICR; any other reads FFH.
abbrev pub port_byte : Processor → ℕ → ℕ
port_byte p low =
    cond (low == 0x33) p.cpu.il
    (cond (low == 0x34) p.cpu.itc
    (cond (low == 0x38) p.window.cbr
    (cond (low == 0x39) p.window.bbr
    (cond (low == 0x3A) p.window.cbar
    (cond (low == 0x3F) p.cpu.icr 255)))))

-- IL and ICR store bits 7 to 5; below them IL reads 0, ICR 1. CBR and BBR store seven bits.
abbrev pub il_stored : ℕ → ℕ
il_stored b = b / 32 * 32

abbrev pub icr_stored : ℕ → ℕ
icr_stored b = b / 32 * 32 + 31

abbrev pub base_stored : ℕ → ℕ
base_stored b = b % 128

-- ITC: TRAP (bit 7) is cleared by writing 0 and else kept, UFO (bit 6) is kept, bits 5 to 3 read 1, and bits 2 to 0, which
-- enable INT2, INT1 and INT0, are stored.
abbrev pub itc_stored : ℕ → ℕ → ℕ
itc_stored old b = cond (nat_le 128 b) (old / 128 * 128) 0 + old / 64 % 2 * 64 + 56 + b % 8

abbrev pub on_cpu : (Registers → Registers) → Processor → Processor
on_cpu change p = record { cpu = change p.cpu; window = p.window }

abbrev pub with_window : Window → Processor → Processor
with_window w p = record { cpu = p.cpu; window = w }

-- After a write of b; other ports ignore it.
abbrev pub port_written : Processor → ℕ → ℕ → Processor
port_written p low b =
    cond (low == 0x33) (on_cpu (with_il (il_stored b)) p)
    (cond (low == 0x34) (on_cpu (with_itc (itc_stored p.cpu.itc b)) p)
    (cond (low == 0x38) (with_window (record { cbar = p.window.cbar; cbr = base_stored b; bbr = p.window.bbr }) p)
    (cond (low == 0x39) (with_window (record { cbar = p.window.cbar; cbr = p.window.cbr; bbr = base_stored b }) p)
    (cond (low == 0x3A) (with_window (record { cbar = b; cbr = p.window.cbr; bbr = p.window.bbr }) p)
    (cond (low == 0x3F) (on_cpu (with_icr (icr_stored b)) p) p)))))
