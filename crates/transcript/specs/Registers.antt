-- The registers, as four lines. Assumes nothing.
use Rattle.std.specs.Prelude.{ℕ, Bool, true, false, List, ◌++◌, codes}
use Rattle.text.specs.Hexadecimal.{hex_byte, hex_word}
use Rattle.arithmetic.specs.Flags as flags
use Rattle.registers.specs.declared.registers.InterruptMode.{InterruptMode}
use Rattle.registers.specs.declared.registers.InterruptMode.TheVariants.{Zero, One, Two}
use Rattle.registers.specs.declared.registers.Mode.{Mode}
use Rattle.registers.specs.declared.registers.Mode.TheVariants.{Running, Halted, Asleep}
use Rattle.registers.specs.declared.registers.Registers.{Registers}
use Rattle.registers.specs.declared.registers.RegisterSet.{RegisterSet}
use Rattle.registers.specs.Registers.{Processor}
use Rattle.registers.specs.Ports.{port_byte}
use Rattle.plot.specs.Lines.{line}

-- A pair, its high byte first.
abbrev pub pair_text : ℕ → ℕ → List ℕ
pair_text high low = hex_byte high ++ hex_byte low

-- The pairs in use; F is the low byte of AF.
unfoldable pub pairs_text : RegisterSet → List ℕ
pairs_text s =
    codes "af=" ++ (pair_text s.a (flags.byte s.f) ++ (codes " bc=" ++ (pair_text s.b s.c ++ (codes " de=" ++ (pair_text s.d s.e ++ (codes " hl=" ++ pair_text s.h s.l))))))

-- Then the words.
unfoldable pub main_text : Registers → List ℕ
main_text s =
    pairs_text s.main ++ (codes " ix=" ++ (hex_word s.ix ++ (codes " iy=" ++ (hex_word s.iy ++ (codes " sp=" ++ (hex_word s.sp ++ (codes " pc=" ++ hex_word s.pc)))))))

-- The pairs of the other set.
unfoldable pub alternate_text : RegisterSet → List ℕ
alternate_text s =
    codes "af'=" ++ (pair_text s.a (flags.byte s.f) ++ (codes " bc'=" ++ (pair_text s.b s.c ++ (codes " de'=" ++ (pair_text s.d s.e ++ (codes " hl'=" ++ pair_text s.h s.l))))))

abbrev pub bit_text : Bool → List ℕ
bit_text false = codes "0"
bit_text true = codes "1"

abbrev pub interrupt_mode_text : InterruptMode → List ℕ
interrupt_mode_text Zero = codes "0"
interrupt_mode_text One = codes "1"
interrupt_mode_text Two = codes "2"

abbrev pub mode_name : Mode → List ℕ
mode_name Running = codes "running"
mode_name Halted = codes "halted"
mode_name Asleep = codes "asleep"

-- I and R, what interrupts go by, and whether the processor is at rest.
unfoldable pub status_text : Registers → List ℕ
status_text s =
    codes "i=" ++ (hex_byte s.i ++ (codes " r=" ++ (hex_byte s.r ++ (codes " ief1=" ++ (bit_text s.ief1 ++ (codes " ief2=" ++ (bit_text s.ief2
    ++ (codes " im=" ++ (interrupt_mode_text s.im ++ (codes " mode=" ++ (mode_name s.mode ++ (codes " ei=" ++ bit_text s.ei))))))))))))

-- The internal ports, each as a read of it gives it.
unfoldable pub ports_text : Processor → List ℕ
ports_text p =
    codes "il=" ++ (hex_byte (port_byte p 0x33) ++ (codes " itc=" ++ (hex_byte (port_byte p 0x34) ++ (codes " cbr=" ++ (hex_byte (port_byte p 0x38) ++ (codes " bbr=" ++ (hex_byte (port_byte p 0x39)
    ++ (codes " cbar=" ++ (hex_byte (port_byte p 0x3A) ++ (codes " icr=" ++ hex_byte (port_byte p 0x3F)))))))))))

abbrev pub processor_text : Processor → List ℕ
processor_text p = line (main_text p.cpu) ++ (line (alternate_text p.cpu.alternate) ++ (line (status_text p.cpu) ++ line (ports_text p)))
