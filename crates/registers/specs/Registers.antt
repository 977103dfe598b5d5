-- One register changed and the others kept, pairs as words, and what reset leaves. Assumes nothing.
use Rattle.std.specs.Prelude.{ℕ, ◌+◌, ◌-◌, ◌*◌, ◌/◌, ◌%◌, Bool, false, cond, nat_lt}
use Rattle.arithmetic.specs.declared.flags.Flags.{Flags}
use Rattle.arithmetic.specs.Flags.{from}
use Rattle.registers.specs.declared.registers.RegisterSet.{RegisterSet}
use Rattle.registers.specs.declared.registers.InterruptMode.{InterruptMode}
use Rattle.registers.specs.declared.registers.InterruptMode.TheVariants.{Zero}
use Rattle.registers.specs.declared.registers.Mode.{Mode}
use Rattle.registers.specs.declared.registers.Mode.TheVariants.{Running}
use Rattle.registers.specs.declared.registers.Registers.{Registers}
use Rattle.registers.specs.declared.window.Window.{Window}

abbrev pub with_main : RegisterSet → Registers → Registers
with_main v s = record { main = v; alternate = s.alternate; ix = s.ix; iy = s.iy; sp = s.sp; pc = s.pc; i = s.i; r = s.r; ief1 = s.ief1; ief2 = s.ief2; im = s.im; mode = s.mode; ei = s.ei; il = s.il; itc = s.itc; icr = s.icr }

abbrev pub with_alternate : RegisterSet → Registers → Registers
with_alternate v s = record { main = s.main; alternate = v; ix = s.ix; iy = s.iy; sp = s.sp; pc = s.pc; i = s.i; r = s.r; ief1 = s.ief1; ief2 = s.ief2; im = s.im; mode = s.mode; ei = s.ei; il = s.il; itc = s.itc; icr = s.icr }

abbrev pub with_ix : ℕ → Registers → Registers
with_ix v s = record { main = s.main; alternate = s.alternate; ix = v; iy = s.iy; sp = s.sp; pc = s.pc; i = s.i; r = s.r; ief1 = s.ief1; ief2 = s.ief2; im = s.im; mode = s.mode; ei = s.ei; il = s.il; itc = s.itc; icr = s.icr }

abbrev pub with_iy : ℕ → Registers → Registers
with_iy v s = record { main = s.main; alternate = s.alternate; ix = s.ix; iy = v; sp = s.sp; pc = s.pc; i = s.i; r = s.r; ief1 = s.ief1; ief2 = s.ief2; im = s.im; mode = s.mode; ei = s.ei; il = s.il; itc = s.itc; icr = s.icr }

abbrev pub with_sp : ℕ → Registers → Registers
with_sp v s = record { main = s.main; alternate = s.alternate; ix = s.ix; iy = s.iy; sp = v; pc = s.pc; i = s.i; r = s.r; ief1 = s.ief1; ief2 = s.ief2; im = s.im; mode = s.mode; ei = s.ei; il = s.il; itc = s.itc; icr = s.icr }

abbrev pub with_pc : ℕ → Registers → Registers
with_pc v s = record { main = s.main; alternate = s.alternate; ix = s.ix; iy = s.iy; sp = s.sp; pc = v; i = s.i; r = s.r; ief1 = s.ief1; ief2 = s.ief2; im = s.im; mode = s.mode; ei = s.ei; il = s.il; itc = s.itc; icr = s.icr }

abbrev pub with_i : ℕ → Registers → Registers
with_i v s = record { main = s.main; alternate = s.alternate; ix = s.ix; iy = s.iy; sp = s.sp; pc = s.pc; i = v; r = s.r; ief1 = s.ief1; ief2 = s.ief2; im = s.im; mode = s.mode; ei = s.ei; il = s.il; itc = s.itc; icr = s.icr }

abbrev pub with_r : ℕ → Registers → Registers
with_r v s = record { main = s.main; alternate = s.alternate; ix = s.ix; iy = s.iy; sp = s.sp; pc = s.pc; i = s.i; r = v; ief1 = s.ief1; ief2 = s.ief2; im = s.im; mode = s.mode; ei = s.ei; il = s.il; itc = s.itc; icr = s.icr }

-- The two interrupt flip-flops.
abbrev pub with_ief1 : Bool → Registers → Registers
with_ief1 v s = record { main = s.main; alternate = s.alternate; ix = s.ix; iy = s.iy; sp = s.sp; pc = s.pc; i = s.i; r = s.r; ief1 = v; ief2 = s.ief2; im = s.im; mode = s.mode; ei = s.ei; il = s.il; itc = s.itc; icr = s.icr }

abbrev pub with_ief2 : Bool → Registers → Registers
with_ief2 v s = record { main = s.main; alternate = s.alternate; ix = s.ix; iy = s.iy; sp = s.sp; pc = s.pc; i = s.i; r = s.r; ief1 = s.ief1; ief2 = v; im = s.im; mode = s.mode; ei = s.ei; il = s.il; itc = s.itc; icr = s.icr }

abbrev pub with_im : InterruptMode → Registers → Registers
with_im v s = record { main = s.main; alternate = s.alternate; ix = s.ix; iy = s.iy; sp = s.sp; pc = s.pc; i = s.i; r = s.r; ief1 = s.ief1; ief2 = s.ief2; im = v; mode = s.mode; ei = s.ei; il = s.il; itc = s.itc; icr = s.icr }

abbrev pub with_mode : Mode → Registers → Registers
with_mode v s = record { main = s.main; alternate = s.alternate; ix = s.ix; iy = s.iy; sp = s.sp; pc = s.pc; i = s.i; r = s.r; ief1 = s.ief1; ief2 = s.ief2; im = s.im; mode = v; ei = s.ei; il = s.il; itc = s.itc; icr = s.icr }

abbrev pub with_ei : Bool → Registers → Registers
with_ei v s = record { main = s.main; alternate = s.alternate; ix = s.ix; iy = s.iy; sp = s.sp; pc = s.pc; i = s.i; r = s.r; ief1 = s.ief1; ief2 = s.ief2; im = s.im; mode = s.mode; ei = v; il = s.il; itc = s.itc; icr = s.icr }

abbrev pub with_il : ℕ → Registers → Registers
with_il v s = record { main = s.main; alternate = s.alternate; ix = s.ix; iy = s.iy; sp = s.sp; pc = s.pc; i = s.i; r = s.r; ief1 = s.ief1; ief2 = s.ief2; im = s.im; mode = s.mode; ei = s.ei; il = v; itc = s.itc; icr = s.icr }

abbrev pub with_itc : ℕ → Registers → Registers
with_itc v s = record { main = s.main; alternate = s.alternate; ix = s.ix; iy = s.iy; sp = s.sp; pc = s.pc; i = s.i; r = s.r; ief1 = s.ief1; ief2 = s.ief2; im = s.im; mode = s.mode; ei = s.ei; il = s.il; itc = v; icr = s.icr }

abbrev pub with_icr : ℕ → Registers → Registers
with_icr v s = record { main = s.main; alternate = s.alternate; ix = s.ix; iy = s.iy; sp = s.sp; pc = s.pc; i = s.i; r = s.r; ief1 = s.ief1; ief2 = s.ief2; im = s.im; mode = s.mode; ei = s.ei; il = s.il; itc = s.itc; icr = v }

-- The byte registers in use.
abbrev pub with_a : ℕ → Registers → Registers
with_a v s = with_main (record { a = v; f = s.main.f; b = s.main.b; c = s.main.c; d = s.main.d; e = s.main.e; h = s.main.h; l = s.main.l }) s

abbrev pub with_f : Flags → Registers → Registers
with_f v s = with_main (record { a = s.main.a; f = v; b = s.main.b; c = s.main.c; d = s.main.d; e = s.main.e; h = s.main.h; l = s.main.l }) s

abbrev pub with_b : ℕ → Registers → Registers
with_b v s = with_main (record { a = s.main.a; f = s.main.f; b = v; c = s.main.c; d = s.main.d; e = s.main.e; h = s.main.h; l = s.main.l }) s

abbrev pub with_c : ℕ → Registers → Registers
with_c v s = with_main (record { a = s.main.a; f = s.main.f; b = s.main.b; c = v; d = s.main.d; e = s.main.e; h = s.main.h; l = s.main.l }) s

abbrev pub with_d : ℕ → Registers → Registers
with_d v s = with_main (record { a = s.main.a; f = s.main.f; b = s.main.b; c = s.main.c; d = v; e = s.main.e; h = s.main.h; l = s.main.l }) s

abbrev pub with_e : ℕ → Registers → Registers
with_e v s = with_main (record { a = s.main.a; f = s.main.f; b = s.main.b; c = s.main.c; d = s.main.d; e = v; h = s.main.h; l = s.main.l }) s

abbrev pub with_h : ℕ → Registers → Registers
with_h v s = with_main (record { a = s.main.a; f = s.main.f; b = s.main.b; c = s.main.c; d = s.main.d; e = s.main.e; h = v; l = s.main.l }) s

abbrev pub with_l : ℕ → Registers → Registers
with_l v s = with_main (record { a = s.main.a; f = s.main.f; b = s.main.b; c = s.main.c; d = s.main.d; e = s.main.e; h = s.main.h; l = v }) s

-- A word of two bytes.
abbrev pub word : ℕ → ℕ → ℕ
word high low = high * 256 + low

-- Sums of 16 bits wrap at 65,536.
abbrev pub up : ℕ → ℕ → ℕ
up a n = (a + n) % 65536

abbrev pub down : ℕ → ℕ → ℕ
down a n = (a + (65536 - n)) % 65536

-- What a displacement, a signed byte, adds to an address.
abbrev pub displaced : ℕ → ℕ → ℕ
displaced a d = up a (cond (nat_lt d 128) d (d + 65280))

-- R's low seven bits gain one for each opcode byte read; bit 7 stays.
abbrev pub counted : ℕ → ℕ
counted r = r / 128 * 128 + (r + 1) % 128

-- The registers and the window's three bytes together: all that reset sets.
pub record Processor : Type 0 where
  pub cpu : Registers
  pub window : Window

abbrev pub no_bytes : RegisterSet
no_bytes = record { a = 0; f = from 0; b = 0; c = 0; d = 0; e = 0; h = 0; l = 0 }

-- What reset, and making, leave: zeros, mode 0, running, no EI before, and the bytes of the internal ports.
abbrev pub fresh_registers : Registers
fresh_registers = record {
  main = no_bytes;
  alternate = no_bytes;
  ix = 0;
  iy = 0;
  sp = 0;
  pc = 0;
  i = 0;
  r = 0;
  ief1 = false;
  ief2 = false;
  im = Zero;
  mode = Running;
  ei = false;
  il = 0;
  itc = 0x39;
  icr = 0x1F;
}

abbrev pub fresh_window : Window
fresh_window = record { cbar = 0xF0; cbr = 0; bbr = 0 }

abbrev pub fresh_processor : Processor
fresh_processor = record { cpu = fresh_registers; window = fresh_window }
