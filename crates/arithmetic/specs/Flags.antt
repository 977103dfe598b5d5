-- The flag register F: its byte, and what its flags are formed from. Assumes nothing.
use Rattle.std.specs.Prelude.{Bool, false, cond, not, ℕ, ◌+◌, ◌*◌, ◌/◌, ◌%◌, eqb, leb}
use mir.Val.{bool_byte}
use Rattle.arithmetic.specs.declared.flags.Flags.{Flags}

-- A flag as a number.
abbrev pub bit : Bool → ℕ
bit b = bool_byte b

-- Two flags are alike.
abbrev pub alike : Bool → Bool → Bool
alike a b = cond a b (not b)

abbrev pub odd : ℕ → Bool
odd x = eqb (x % 2) 1

-- Whether x has the bit of weight w.
abbrev pub has : ℕ → ℕ → Bool
has w x = odd (x / w)

-- F as a byte: S in bit 7, Z 6, H 4, P/V 2, N 1, C 0.
abbrev pub byte : Flags → ℕ
byte f =
    bit f.s * 128 + bit f.z * 64 + bit f.bit5 * 32 + bit f.h * 16
    + bit f.bit3 * 8 + bit f.pv * 4 + bit f.n * 2 + bit f.c

abbrev pub from : ℕ → Flags
from x =
    record {
      s = has 128 x;
      z = has 64 x;
      bit5 = has 32 x;
      h = has 16 x;
      bit3 = has 8 x;
      pv = has 4 x;
      n = has 2 x;
      c = odd x;
    }

-- A row of flags: S, Z, H, P/V, N and C, in this order, as an operation leaves them; bits 5 and 3 stay.
abbrev pub row : Flags → Bool → Bool → Bool → Bool → Bool → Bool → Flags
row f s z h pv n c = record { s = s; z = z; bit5 = f.bit5; h = h; bit3 = f.bit3; pv = pv; n = n; c = c }

-- The top bit of a number below m (256 for a byte, 65,536 for a word), which is its sign.
abbrev pub negative : ℕ → ℕ → Bool
negative m v = leb (m / 2) v

abbrev pub zero : ℕ → Bool
zero v = eqb v 0

-- How many ones a byte has.
abbrev pub ones : ℕ → ℕ
ones v = v % 2 + v / 2 % 2 + v / 4 % 2 + v / 8 % 2 + v / 16 % 2 + v / 32 % 2 + v / 64 % 2 + v / 128

abbrev pub even_parity : ℕ → Bool
even_parity v = eqb (ones v % 2) 0

-- The row of an operation that shows a byte v: S, Z and even parity of v, H and C as given, N 0.
abbrev pub showing : Flags → ℕ → Bool → Bool → Flags
showing f v h c = row f (negative 256 v) (zero v) h (even_parity v) false c
