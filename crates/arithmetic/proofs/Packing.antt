-- F's byte and its flags tell the same: packing and unpacking undo each other. Assumes nothing.
use mathlib.Core.Path.{◌≡◌, refl, ◌∙◌, ap}
use mathlib.Core.Bool.{Bool, true, false}
use Prim.Native.Nat.{ℕ, zero, suc, ◌+◌, ◌*◌, ◌/◌, ◌%◌, ◌≤◌, ◌<◌}
use native.Mathlib.Omega.{arith}
use lib.Dec.{eqb}
use Rattle.arithmetic.specs.Flags.{bit, odd, byte, from}
use Rattle.arithmetic.specs.declared.flags.Flags.{Flags}

bit_small : (b : Bool) → bit b ≤ 1
bit_small true = omega arith
bit_small false = omega arith

bit_one : (b : Bool) → eqb (bit b) 1 ≡ b
bit_one true = refl
bit_one false = refl

reads : (b : Bool) (n : ℕ) → n ≡ bit b → eqb n 1 ≡ b
reads b n e = ap (λ (x : ℕ). eqb x 1) e ∙ bit_one b

pub unpack_pack : (f : Flags) → from (byte f) ≡ f
unpack_pack f =
    let s = bit_small f.s in
    let z = bit_small f.z in
    let y = bit_small f.bit5 in
    let h = bit_small f.h in
    let x = bit_small f.bit3 in
    let p = bit_small f.pv in
    let n = bit_small f.n in
    let c = bit_small f.c in
    λ i. record {
      s = reads f.s (byte f / 128 % 2) (omega arith) i;
      z = reads f.z (byte f / 64 % 2) (omega arith) i;
      bit5 = reads f.bit5 (byte f / 32 % 2) (omega arith) i;
      h = reads f.h (byte f / 16 % 2) (omega arith) i;
      bit3 = reads f.bit3 (byte f / 8 % 2) (omega arith) i;
      pv = reads f.pv (byte f / 4 % 2) (omega arith) i;
      n = reads f.n (byte f / 2 % 2) (omega arith) i;
      c = reads f.c (byte f % 2) (omega arith) i;
    }

stays : (n : ℕ) → n < 2 → bit (eqb n 1) ≡ n
stays zero h = refl
stays (suc zero) h = refl
stays (suc (suc n)) h = omega arith

-- the bit that y has below its half
low : (y : ℕ) → bit (odd y) + 2 * (y / 2) ≡ y
low y = let e = stays (y % 2) (omega arith) in omega (arith, e)

pub pack_unpack : (x : ℕ) → x < 256 → byte (from x) ≡ x
pack_unpack x h =
    let h1 : x / 2 / 2 ≡ x / 4 = omega arith in
    let h2 : x / 4 / 2 ≡ x / 8 = omega arith in
    let h3 : x / 8 / 2 ≡ x / 16 = omega arith in
    let h4 : x / 16 / 2 ≡ x / 32 = omega arith in
    let h5 : x / 32 / 2 ≡ x / 64 = omega arith in
    let h6 : x / 64 / 2 ≡ x / 128 = omega arith in
    let h7 : x / 128 / 2 ≡ 0 = omega arith in
    omega (arith, low (x / 128), low (x / 64), low (x / 32), low (x / 16), low (x / 8), low (x / 4), low (x / 2), low x)
