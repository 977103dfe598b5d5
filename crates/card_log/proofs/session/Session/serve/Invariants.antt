use Rattle.std.proofs.Common.{◌≡◌, map, take, vec_items, vec_len}
use Rattle.answers.specs.Answers.{call_of}
use Rattle.card.specs.Cards.{model}
use Rattle.opened.specs.Opened.{opened}
use Rattle.opened.specs.Pages.{pages_of}
use Rattle.card_log.specs.Replays.{reached, so_far}
use Rattle.card_log.proofs.session.Session.serve.Given as goal

abbrev pub invariant-loop-call : goal.invariant-loop-call
invariant-loop-call g l = record {
  so_far :
      so_far g.M.Memory.memory g.P.Panel.state l.card (vec_items l.self.answers)
      ≡ reached g.P.Panel.make (map call_of (take l.call-index l.log)) (model g.M.Memory.memory g.P.Panel.state l.initial.card);
  opened :
      pages_of l.self.opening.pages
      ≡ opened g.P.Panel.make (map call_of (take l.call-index l.log)) (model g.M.Memory.memory g.P.Panel.state l.initial.card);
  len : vec_len l.self.answers ≡ l.call-index;
}
