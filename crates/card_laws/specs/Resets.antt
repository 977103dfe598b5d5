-- What reset leaves, value by value. Assumes nothing.
use Rattle.std.specs.Prelude.{◌≡◌, ℕ, Bool, false}
use Rattle.arithmetic.specs.Flags.{from}
use Rattle.registers.specs.declared.registers.InterruptMode.TheVariants.{Zero}
use Rattle.registers.specs.declared.registers.Mode.TheVariants.{Running}
use Rattle.registers.specs.declared.registers.Registers.{Registers}
use Rattle.registers.specs.declared.registers.RegisterSet.{RegisterSet}
use Rattle.registers.specs.declared.window.Window.{Window}
use Rattle.processor.specs.Run.{reset}
use Rattle.processor.specs.Step.{Model}

-- A, B, C, D, E, H and L.
abbrev pub bytes : RegisterSet → ℕ × ℕ × ℕ × ℕ × ℕ × ℕ × ℕ
bytes s = (s.a, s.b, s.c, s.d, s.e, s.h, s.l)

-- IX, IY, SP and PC.
abbrev pub words : Registers → ℕ × ℕ × ℕ × ℕ
words s = (s.ix, s.iy, s.sp, s.pc)

-- I, R, IL, ITC and ICR.
abbrev pub singles : Registers → ℕ × ℕ × ℕ × ℕ × ℕ
singles s = (s.i, s.r, s.il, s.itc, s.icr)

-- IEF1, IEF2, and whether the last step was EI.
abbrev pub flip_flops : Registers → Bool × Bool × Bool
flip_flops s = (s.ief1, s.ief2, s.ei)

-- CBAR, CBR and BBR.
abbrev pub shown : Window → ℕ × ℕ × ℕ
shown w = (w.cbar, w.cbr, w.bbr)

pub record Resets (S : Type 0) : Type 0 where
  pub main : (c : Model S) → bytes (reset c).processor.cpu.main ≡ (0, 0, 0, 0, 0, 0, 0)
  pub f : (c : Model S) → (reset c).processor.cpu.main.f ≡ from 0x00
  pub alternate : (c : Model S) → bytes (reset c).processor.cpu.alternate ≡ (0, 0, 0, 0, 0, 0, 0)
  pub alternate_f : (c : Model S) → (reset c).processor.cpu.alternate.f ≡ from 0x00
  pub words_after : (c : Model S) → words (reset c).processor.cpu ≡ (0, 0, 0, 0)
  pub singles_after : (c : Model S) → singles (reset c).processor.cpu ≡ (0, 0, 0x00, 0x39, 0x1F)
  pub flip_flops_after : (c : Model S) → flip_flops (reset c).processor.cpu ≡ (false, false, false)
  pub interrupt_mode : (c : Model S) → (reset c).processor.cpu.im ≡ Zero
  pub mode : (c : Model S) → (reset c).processor.cpu.mode ≡ Running
  pub window : (c : Model S) → shown (reset c).processor.window ≡ (0xF0, 0x00, 0x00)
  -- memory and panel are not touched
  pub memory : (c : Model S) → (reset c).mem ≡ c.mem
  pub panel : (c : Model S) → (reset c).panel ≡ c.panel
