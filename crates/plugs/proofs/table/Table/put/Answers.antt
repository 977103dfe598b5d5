use Rattle.std.proofs.Common.{eqb, length, set, ap, ◌∙◌, arith}
use Rattle.std.proofs.lemmas.Grind.{common_steps}
use Rattle.std.proofs.lemmas.List.{length_push, length-set}
use Rattle.std.specs.List.{position, refill}
use Rattle.plugs.proofs.Placing.{put_at, put_last, refill_same}
use Rattle.plugs.proofs.table.Table.put.Goals as goal

pub returns-in-Some-clause-ok : goal.returns-in-Some-clause-ok
returns-in-Some-clause-ok g c =
    let key = g.E.Entry.key in
    let items = c.args.self.now.entries.items in
    let put = put_at key c.args.entry items c.in-Some.at (c.in-Some.ensures ∙ ap (λ k. position (λ e. eqb (key e) k) items) c.key.ensures) in
    ap (λ l. refill (length items) items (set l c.in-Some.at c.args.entry)) c.deref_mut.ensures.value
    ∙ refill_same items (set items c.in-Some.at c.args.entry) (length-set items c.in-Some.at c.args.entry)
    ∙ put.1

pub returns-clause-many : goal.returns-clause-many
returns-clause-many g c =
    let key = g.E.Entry.key in
    let items = c.args.self.now.entries.items in
    let long = ap length (put_last key c.args.entry items (c.in_default.ensures ∙ ap (λ k. position (λ e. eqb (key e) k) items) c.key.ensures)) in
    grind (arith, common_steps, long, length_push items c.args.entry, c.try_push.ensures.full, c.try_push.ensures.variant, c.map_err.ensures.variant)

pub returns-clause-ok : goal.returns-clause-ok
returns-clause-ok g c =
    let key = g.E.Entry.key in
    let items = c.args.self.now.entries.items in
    let put = put_last key c.args.entry items (c.in_default.ensures ∙ ap (λ k. position (λ e. eqb (key e) k) items) c.key.ensures) in
    grind (arith, common_steps, put, c.try_push.ensures.ok, c.map_err.ensures.variant)
