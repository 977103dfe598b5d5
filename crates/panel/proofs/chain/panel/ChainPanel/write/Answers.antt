use Rattle.std.proofs.Common.{◌≡◌, false, sym, ap, ◌∙◌}
use Rattle.std.proofs.lemmas.Bool.{cond-false}
use Rattle.panel.specs.Chains.{is_full, fresh_number, last_number, recorded}
use Rattle.panel.specs.Links.{row, ending, filed, named}
use Rattle.panel.specs.Shown.{chain_state, table_of}
use Rattle.panel.specs.Tracks.{track_number}
use Rattle.panel.proofs.Joining.{row_filled}
use Rattle.panel.proofs.chain.panel.ChainPanel.write.Goals as goal
use Rattle.panel.proofs.chain.panel.ChainPanel.write.Goals.{After-take_fresh-number}

module _ (c : After-take_fresh-number) where
  not_full : is_full (chain_state c.args.self.now) ≡ false
  not_full = sym c.full.ensures ∙ c.if-full.false

  -- what stands in the record that was taken
  taken : row (table_of c.take_fresh-number.new.self) c.take_fresh-number.result ≡ ending c.args.port c.args.byte
  taken =
      (λ i. row (c.take_fresh-number.ensures.table i) (c.take_fresh-number.ensures.number i))
      ∙ row_filled c.args.self.now not_full (ending c.args.port c.args.byte)

pub join-requires : goal.join-requires
join-requires c =
    let d = (goal.at.join-requires c).After-take_fresh-number in
    let same = c.take_fresh-number.ensures.same in
    record {
      room = ap is_full same ∙ not_full d;
      fresh = c.take_fresh-number.ensures.number ∙ ap fresh_number (sym same);
      ended = ap (λ r. r.next) (taken d);
    }

pub returns-in-Some : goal.returns-in-Some
returns-in-Some c =
    let d = (goal.at.returns-in-Some c).After-take_fresh-number in
    let s = chain_state c.args.self.now in
    let t = table_of c.args.self.now in
    let took = c.take_fresh-number.ensures in
    let on = c.in-Some.ensures in
    record {
      answer = sym (cond-false (is_full s) _ _ (not_full d));
      after = c.join.ensures.after ∙ (λ i. recorded (took.same i) (on i) (taken d i).port (taken d i).byte) ∙ sym (cond-false (is_full s) _ _ (not_full d));
      table =
          c.join.ensures.table
          ∙ (λ i. named (last_number 0 ((took.same i).chain (track_number c.in-Some.track))) (took.number i) (took.table i))
          ∙ ap (λ o. filed s t o c.args.port c.args.byte) on
          ∙ sym (cond-false (is_full s) _ _ (not_full d));
    }
