-- The two bottom ends: what memory a lent run of bytes makes. Assumes nothing.
use Rattle.std.specs.Prelude.{ℕ, ◌-◌, false, cond, ◌&&◌, List, length, Ok, Err, Result, nat_le, nat_lt, slice_index, slice_set}
use Rattle.denial.specs.Denials.{Told, numbered}
use Rattle.memory.specs.Memory.{Mem, is_address}
use Rattle.memory.specs.declared.length.BoardLength.{BoardLength}
use Rattle.memory.specs.declared.bank.Bank.{Bank}
use Rattle.memory.specs.declared.rom_ram.RomRam.{RomRam}

-- What is behind a board's last byte: FFH, and no writes.
abbrev pub run_byte : List ℕ → ℕ → ℕ
run_byte bytes a = cond (nat_lt a (length bytes)) (slice_index bytes a) 255

-- A bank: the bytes from address 0 on, which all take writes.
abbrev pub bank : List ℕ → Mem
bank bytes = record { byte = run_byte bytes; takes = λ a. nat_lt a (length bytes) }

-- A ROM-and-RAM board: bytes that take no writes, then bytes that do.
abbrev pub rom_ram : List ℕ → List ℕ → Mem
rom_ram rom ram = record {
  byte = λ a. cond (nat_lt a (length rom)) (slice_index rom a) (run_byte ram (a - length rom));
  takes = λ a. cond (nat_lt a (length rom)) false (nat_lt (a - length rom) (length ram));
}

-- A board that ends at address n, whatever was lent behind it.
abbrev pub cut : ℕ → Mem → Mem
cut n m = record { byte = λ a. cond (nat_lt a n) (m.byte a) 255; takes = λ a. nat_lt a n && m.takes a }

-- The memory that a board's value means.
abbrev pub bank_memory : Bank → Mem
bank_memory b = cut b.length (bank b.bytes.now)

abbrev pub rom_ram_memory : RomRam → Mem
rom_ram_memory b = cut b.length (rom_ram b.rom.now b.ram.now)

-- The lent bytes after a write of b to the address a of a board that ends at n: what was lent behind its end stays too.
abbrev pub bank_run : ℕ → List ℕ → ℕ → ℕ → List ℕ
bank_run n bytes a b = cond (is_address a && (cut n (bank bytes)).takes a) (slice_set bytes a b) bytes

abbrev pub ram_run : RomRam → ℕ → ℕ → List ℕ
ram_run k a b =
    cond (is_address a && (rom_ram_memory k).takes a)
    (slice_set k.ram.now (a - length k.rom.now) b) k.ram.now

-- How long a board of n bytes is: at most 524,288, or it is denied.
abbrev pub board_length : ℕ → Result ℕ Told
board_length n = cond (nat_le n 524288) (Ok n) (Err (numbered 1))

abbrev pub bytes_of : BoardLength → ℕ
bytes_of l = l.bytes
