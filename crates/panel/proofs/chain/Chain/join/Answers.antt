use Rattle.std.proofs.Common.{◌≡◌, get_or, ◌∙◌, arith}
use Rattle.std.proofs.lemmas.List.{get_or_read}
use Rattle.panel.specs.Links.{blank, row}
use Rattle.panel.specs.Shown.{table_of}
use Rattle.panel.proofs.Joining.{Ready, spare, number_is, last_inside, sound_begun, state_begun, table_begun, sound_joined, state_joined, table_joined}
use Rattle.panel.proofs.chain.Chain.join.Goals as goal
use Rattle.panel.proofs.chain.Chain.join.Goals.{After-number-chain, After-index_mut}

ready : (c : After-number-chain) → Ready c.args.self.now c.args.track c.number-chain.result c.args.number
ready c = record {
  is = c.number-chain.ensures.value;
  kind = c.number-chain.ensures.bound;
  room = spare c.args.self.now c.requires.room;
  fresh = c.requires.fresh ∙ number_is c.args.self.now;
  end = c.requires.ended;
}

pub invariant_of-self : goal.invariant_of-self
invariant_of-self c = sound_begun _ _ _ _ (ready (goal.at.invariant_of-self c).After-number-chain) c.if-last-eq0.true

pub returns-then-last-eq0 : goal.returns-then-last-eq0
returns-then-last-eq0 c =
    let r = ready (goal.at.returns-then-last-eq0 c).After-number-chain in
    record { after = state_begun _ _ _ _ r c.if-last-eq0.true; table = table_begun _ _ _ _ r c.if-last-eq0.true }

pub index_mut-requires : goal.index_mut-requires
index_mut-requires c =
    omega (arith, last_inside _ _ _ _ (ready (goal.at.index_mut-requires c).After-number-chain) c.if-last-eq0.false, c.args.self.now.table.ok.0)

-- the last record as it was read
read : (c : After-index_mut) → Ready c.args.self.now c.args.track c.number-chain.result c.args.number → c.index_mut.result.now ≡ row (table_of c.args.self.now) (get_or c.args.self.now.spans c.number-chain.result (record { first = 0; last = 0 })).last
read c r = get_or_read (table_of c.args.self.now) _ _ (last_inside _ _ _ _ r c.if-last-eq0.false) c.index_mut.ensures.value blank

pub invariant_of-self-2 : goal.invariant_of-self-2
invariant_of-self-2 c =
    let r = ready (goal.at.invariant_of-self-2 c).After-number-chain in
    sound_joined _ _ _ _ r _ (read (goal.at.invariant_of-self-2 c).After-index_mut r) c.if-last-eq0.false

pub returns : goal.returns
returns c =
    let r = ready (goal.at.returns c).After-number-chain in
    let was = read (goal.at.returns c).After-index_mut r in
    record { after = state_joined _ _ _ _ r _ was c.if-last-eq0.false; table = table_joined _ _ _ _ r _ was c.if-last-eq0.false }
