use Rattle.std.proofs.Common.{set, sym, ap}
use Rattle.panel.specs.Links.{ending}
use Rattle.panel.specs.Shown.{table_of}
use Rattle.panel.proofs.Joining.{number_is, sound_filled, state_filled}
use Rattle.panel.proofs.chain.Chain.take_fresh.Goals as goal

pub invariant_of-self : goal.invariant_of-self
invariant_of-self c = sound_filled c.args.self.now (ending c.args.port c.args.byte)

pub returns : goal.returns
returns c =
    let self = c.args.self.now in
    let new = ending c.args.port c.args.byte in
    record {
      number = sym (number_is self);
      same = state_filled self new;
      table = ap (λ n. set (table_of self) n new) (sym (number_is self));
    }
