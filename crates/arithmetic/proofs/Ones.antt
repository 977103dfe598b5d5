-- A byte's ones are its eight bits, added up. Assumes nothing.
use mathlib.Core.Path.{◌≡◌, refl, ◌∙◌, ap}
use Prim.Native.Nat.{ℕ, ◌+◌, ◌/◌, ◌%◌, ◌<◌}
use native.Mathlib.Omega.{arith}
use lib.Count.{ones, ones_step}
use Rattle.arithmetic.specs.Flags.{ones as counted}

none : ones 0 ≡ 0
unfolding ones
none = refl

-- the lowest bit of y, and the ones of its half z
step : (y z : ℕ) → y / 2 ≡ z → ones y ≡ y % 2 + ones z
step y z e = ones_step y ∙ ap (λ (x : ℕ). y % 2 + ones x) e

pub ones_of_byte : (v : ℕ) → v < 256 → ones v ≡ counted v
ones_of_byte v h =
    let s0 = step v (v / 2) refl in
    let s1 = step (v / 2) (v / 4) (omega arith) in
    let s2 = step (v / 4) (v / 8) (omega arith) in
    let s3 = step (v / 8) (v / 16) (omega arith) in
    let s4 = step (v / 16) (v / 32) (omega arith) in
    let s5 = step (v / 32) (v / 64) (omega arith) in
    let s6 = step (v / 64) (v / 128) (omega arith) in
    let s7 = step (v / 128) 0 (omega arith) in
    let top : v / 128 % 2 ≡ v / 128 = omega arith in
    let n = none in
    omega (arith, s0, s1, s2, s3, s4, s5, s6, s7, top, n)
