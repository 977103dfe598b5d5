use Rattle.std.proofs.Common.{◌≡◌, sym, ap, ◌∙◌, add-one, arith}
use lib.Bits.{bit_xor}
use Rattle.pagemap.specs.Crc.{crc_bit, crc_bits}
use Rattle.pagemap.proofs.crc.after_byte.Goals as goal

pub loop-bit-init : goal.loop-bit-init
unfolding crc_bits
loop-bit-init c = ap (bit_xor c.args.crc) c.from.ensures

pub loop-bit-preserved : goal.loop-bit-preserved
unfolding crc_bits
loop-bit-preserved c =
    c.after_bit-after.ensures ∙ ap crc_bit c.loop-bit.invariant ∙ ap (λ k. crc_bits k (bit_xor c.args.crc c.args.byte)) (sym (add-one c.loop-bit._bit))

pub returns : goal.returns
returns c =
    let all : c.loop-bit._bit ≡ 8 = omega arith in
    c.loop-bit.invariant ∙ ap (λ k. crc_bits k (bit_xor c.args.crc c.args.byte)) all
