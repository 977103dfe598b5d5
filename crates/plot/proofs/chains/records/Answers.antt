use Rattle.std.proofs.Common.{ℕ, List, ◌++◌, string_bytes, ap, ◌∙◌}
use Rattle.panel.specs.declared.record.Record.{Record}
use Rattle.panel.specs.Walking.{left_to_walk}
use Rattle.plot.specs.Listing.{lines_of}
use Rattle.plot.proofs.Appending.{record_more, records_done}
use Rattle.plot.proofs.chains.records.Goals as goal

pub loop-number-preserved : goal.loop-number-preserved
loop-number-preserved c =
    record_more c.args.track _ _ _ (c.in-Some.number, c.in-Some.record) _ _ c.loop-number.invariant c.in-Some.ensures.steps c.in_ok-writeln.ensures.bytes

pub returns : goal.returns
returns c =
    records_done c.args.track _ _ _ c.loop-number.invariant c.in-None.ensures.steps.0
    ∙ ap (λ (met : List (ℕ × Record)). string_bytes c.args.text.now ++ lines_of c.args.track met) (ap left_to_walk c.into_iter-number-iterator.ensures.into_iter_gives ∙ c.walk-number-items.ensures)
