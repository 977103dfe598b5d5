use Rattle.std.proofs.Common.{rules}
use Rattle.panel.specs.Shown.{chain_state}
use Rattle.panel.proofs.Walks.{walked_on, walked_end}
use Rattle.panel.proofs.chain.walk.WalkIterator.next.Goals as goal

pub returns-in_err-record-clause-steps : goal.returns-in_err-record-clause-steps
returns-in_err-record-clause-steps c =
    let self = c.args.self.now in
    let end = walked_end (chain_state self.panel.now) self.most self.number c.in_err-record.ensures in
    rw c.from_residual.ensures (end, end)

pub returns : goal.returns
returns c =
    let self = c.args.self.now in
    record {
      steps = walked_on (chain_state self.panel.now) self.most self.number c.in_ok-record.record c.if-self-eq0.false c.in_ok-record.ensures;
      goes = search rules;
    }
