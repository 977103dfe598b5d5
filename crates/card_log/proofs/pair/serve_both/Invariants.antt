use Rattle.std.proofs.Common.{◌≡◌, map, take, vec_items, vec_len}
use Rattle.answers.specs.Answers.{call_of}
use Rattle.card.specs.Cards.{model}
use Rattle.opened.specs.Opened.{opened}
use Rattle.opened.specs.Pages.{pages_of}
use Rattle.card_log.specs.Replays.{reached, so_far}
use Rattle.card_log.proofs.pair.serve_both.Given as goal

abbrev pub invariant-loop-call : goal.invariant-loop-call
invariant-loop-call g l = record {
  first :
      so_far g.M.Memory.memory g.P.Panel.state l.first (vec_items l.one.answers)
      ≡ reached g.P.Panel.make (map call_of (take l.call-index l.log)) (model g.M.Memory.memory g.P.Panel.state l.initial.first);
  second :
      so_far g.N.Memory.memory g.P.Panel.state l.second (vec_items l.two.answers)
      ≡ reached g.P.Panel.make (map call_of (take l.call-index l.log)) (model g.N.Memory.memory g.P.Panel.state l.initial.second);
  opened :
      pages_of l.one.opening.pages
      ≡ opened g.P.Panel.make (map call_of (take l.call-index l.log)) (model g.M.Memory.memory g.P.Panel.state l.initial.first);
  first_len : vec_len l.one.answers ≡ l.call-index;
  second_len : vec_len l.two.answers ≡ l.call-index;
}
