use Rattle.std.proofs.Common.{refl}
use Rattle.panel.specs.Shown.{chain_state, table_of}
use Rattle.panel.proofs.Tables.{empty, sound_empty}
use Rattle.panel.proofs.Joining.{same_state}
use Rattle.panel.proofs.chain.Chain.clear.Goals as goal

pub invariant_of-self : goal.invariant_of-self
invariant_of-self c = sound_empty (table_of c.args.self.now) c.args.self.now.size

pub returns : goal.returns
returns c = record { after = same_state _ _ _ _ (chain_state c.args.self.now) (empty (table_of c.args.self.now)) refl; table = refl }
