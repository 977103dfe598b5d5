use Rattle.std.proofs.Common.{◌+◌, drop, sym, ap, ◌∙◌}
use Rattle.std.proofs.lemmas.List.{at_drop_all, at_drop_more}
use Rattle.pagemap.specs.Crc.{crc_after, crc_ended}
use Rattle.pagemap.proofs.crc.crc32.Goals as goal

pub loop-byte-preserved : goal.loop-byte-preserved
loop-byte-preserved c =
    let bytes = c.args.bytes.now in
    let i = c.loop-byte.byte-index in
    ap (λ crc. crc_after crc (drop (i + 1) bytes)) c.with-sum.ensures
    ∙ sym (at_drop_more (crc_after c.loop-byte.sum.0) bytes i 0 c.loop-byte-test.true)
    ∙ c.loop-byte.invariant

pub returns : goal.returns
returns c =
    c.value.ensures
    ∙ ap crc_ended (sym (at_drop_all (crc_after c.loop-byte.sum.0) c.args.bytes.now c.loop-byte.byte-index c.loop-byte-test.false) ∙ c.loop-byte.invariant)
