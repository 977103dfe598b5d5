use Rattle.std.proofs.Common.{vec_items, vec_len}
use Rattle.plotting.proofs.Alone.{filling}
use Rattle.plotting.proofs.bench.bank_bytes.Goals as goal

pub returns : goal.returns
returns c =
    filling c.args.image.now (vec_items c.in_ok-bytes.bytes) (vec_items c.resize.new.self) (vec_len c.in_ok-bytes.bytes) c.requires c.in_ok-bytes.ensures.items c.in_ok-bytes.ensures.len c.in_ok-resize.ensures.items
