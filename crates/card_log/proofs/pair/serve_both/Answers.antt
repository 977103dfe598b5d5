use Rattle.std.proofs.Common.{ap, ◌∙◌, arith}
use Rattle.opened.specs.Pages.{pages_of}
use Rattle.card_log.specs.Replays.{so_far}
use Rattle.card_log.proofs.Lines.{opened_then, served}
use Rattle.card_log.proofs.pair.serve_both.Goals as goal

pub loop-call-preserved : goal.loop-call-preserved
loop-call-preserved g c =
    let before = ap (so_far g.M.Memory.memory g.P.Panel.state c.loop-call.first) c.in_ok-line.ensures.answers ∙ c.loop-call.invariant.first in
    let second = ap (so_far g.N.Memory.memory g.P.Panel.state c.loop-call.second) c.in_ok-other.ensures.answers ∙ c.loop-call.invariant.second in
    let had = ap (λ o. pages_of o.pages) c.in_ok-line.ensures.opening ∙ c.loop-call.invariant.opened in
    record {
      first =
          served g.P.Panel.make c.args.log.now c.loop-call.call-index _ c.in_ok-line.line.call _ _ _ c.loop-call-test.true before c.in_ok-line.ensures.line c.keep.ensures.so_far;
      second =
          served g.P.Panel.make c.args.log.now c.loop-call.call-index _ c.in_ok-other.other.call _ _ _ c.loop-call-test.true second c.in_ok-other.ensures.line c.keep-in-loop-call.ensures.so_far;
      opened =
          opened_then g.P.Panel.make c.args.log.now c.loop-call.call-index _ c.in_ok-line.line.call _ _ _ _ c.loop-call-test.true before had c.in_ok-line.ensures.line c.keep.ensures.opened;
      first_len = omega (arith, c.keep.ensures.len, c.in_ok-line.ensures.len);
      second_len = omega (arith, c.keep-in-loop-call.ensures.len, c.in_ok-other.ensures.len);
    }
