use Rattle.std.proofs.Common.{refl}
use Rattle.panel.proofs.Finding.{record_found}
use Rattle.panel.proofs.chain.Chain.into_table.Goals as goal

pub returns : goal.returns
returns c = record { table = refl; records = record_found c.args.self }
