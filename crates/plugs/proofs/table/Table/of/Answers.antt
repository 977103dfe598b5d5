use Rattle.std.proofs.Common.{◌≡◌, ◌+◌, ◌≤◌, [], length, drop, Some, sym, ap, ◌∙◌, arith}
use Rattle.std.proofs.lemmas.List.{at_drop_all}
use Rattle.std.proofs.lemmas.Result.{err_from_is_err_and}
use Rattle.plugs.specs.Places.{all_placed, entry_of, held, placed}
use Rattle.plugs.proofs.Placing.{all_more, denied_2, denied_3, entry_all_placed, no_fewer, not_denied}
use Rattle.plugs.proofs.table.Table.of.Goals as goal

pub returns-then-not-all_in_range : goal.returns-then-not-all_in_range
returns-then-not-all_in_range g c = denied_2 g.E.Entry.key g.E.Entry.ranged c.args.entries.now c.if-not-all_in_range.ensures

pub loop-e-init : goal.loop-e-init
loop-e-init g c =
    (omega (arith, ap length c.new.ensures), ap (λ places. all_placed g.E.Entry.key places c.args.entries.now) c.new.ensures)

pub loop-e-preserved : goal.loop-e-preserved
loop-e-preserved g c = (
  c.in_ok-put.ensures.few,
  ap (λ places. all_placed g.E.Entry.key places (drop (c.loop-e.e-index + 1) c.args.entries.now)) c.in_ok-put.ensures.ok
      ∙ all_more g.E.Entry.key (held c.loop-e.table) c.args.entries.now c.loop-e.e-index c.e-item.result c.loop-e-test.true c.e-item.is
      ∙ c.loop-e.invariant.1,
)

pub returns-in_err-put : goal.returns-in_err-put
returns-in_err-put g c =
    let key = g.E.Entry.key in
    let denied = c.in_err-put.ensures in
    let on = all_more key (held c.loop-e.table) c.args.entries.now c.loop-e.e-index c.e-item.result c.loop-e-test.true c.e-item.is ∙ c.loop-e.invariant.1 in
    let p = err_from_is_err_and c.from_residual.result c.from_residual.ensures.1 in
    rw (p.1, p.2)
    (denied_3 key g.E.Entry.ranged c.args.entries.now c.if-not-all_in_range.ensures (omega (arith, denied.many, ap length on, no_fewer key (placed key c.e-item.result (held c.loop-e.table)) (drop (c.loop-e.e-index + 1) c.args.entries.now)))
    ∙ ap Some (sym denied.err))

pub returns : goal.returns
returns g c =
    let key = g.E.Entry.key in
    let entries = c.args.entries.now in
    let table = c.loop-e.table in
    let all : held table ≡ all_placed key [] entries = sym (at_drop_all (all_placed key (held table)) entries c.loop-e.e-index c.loop-e-test.false) ∙ c.loop-e.invariant.1 in
    let few : length (all_placed key [] entries) ≤ 32 = omega (arith, ap length all, c.loop-e.invariant.0) in
    (not_denied key g.E.Entry.ranged entries c.if-not-all_in_range.ensures few, λ i k. (ap (λ l. entry_of key l k) all ∙ entry_all_placed key [] entries k) i)
