use Rattle.std.proofs.Common.{◌≡◌, ◌∙◌, rules}
use Rattle.pagemap.specs.Crc.{crc_byte}
use Rattle.transcript.specs.Memory.{bytes_below}
use Rattle.transcript.proofs.Summing.{one_more}
use Rattle.transcript.proofs.memory_line.crc.Goals as goal

pub loop-at-init : goal.loop-at-init
unfolding bytes_below
loop-at-init g c = c.new-sum.ensures

pub loop-at-preserved : goal.loop-at-preserved
loop-at-preserved g c =
    let memory = g.M.Memory.memory c.args.card.now.machine.memory in
    let read : c.in-Ok.byte ≡ memory.byte c.loop-at.at = search rules in
    c.with-sum.ensures ∙ (λ i. crc_byte (c.loop-at.invariant i) (read i)) ∙ one_more memory c.loop-at.at
