use Rattle.std.proofs.Common.{◌≡◌, ◌^◌, ◌<◌, drop}
use Rattle.text.specs.Numbers.{below, digits_behind}
use Rattle.text.proofs.digits.number.Given as goal

abbrev pub invariant-loop-c : goal.invariant-loop-c
invariant-loop-c l = record {
  fits : l.n < 2 ^ 32;
  same : below (2 ^ 32) (digits_behind l.radix l.n (drop l.c-index l.word)) ≡ below (2 ^ 32) (digits_behind l.radix 0 l.word);
}
