use Rattle.std.proofs.Common.{◌≡◌, ◌-◌, ◌≤◌, true, ◌&&◌, leb, length, Ok, vec_items, sym, refl, ap, ◌∙◌, arith}
use Rattle.std.proofs.lemmas.Grind.{common_steps}
use Rattle.std.proofs.lemmas.Bool.{cond-true, le-leb, and_from}
use Rattle.panel.specs.Chains.{new_chain}
use Rattle.panel.proofs.Tables.{empty, sound_empty}
use Rattle.panel.proofs.Joining.{same_state}
use Rattle.panel.proofs.chain.Chain.new.Goals as goal

pub invariant_of-result : goal.invariant_of-result
invariant_of-result c = sound_empty (vec_items c.args.table) (grind (arith, common_steps), grind (arith, common_steps))

pub returns : goal.returns
returns c =
    let table = vec_items c.args.table in
    let low : 2 ≤ length table = grind (arith, common_steps) in
    let high : length table ≤ 4096 = grind (arith, common_steps) in
    let fits : (leb 2 (length table) && leb (length table) 4096) ≡ true = and_from _ _ (le-leb _ _ low) (le-leb _ _ high) in
    ap (λ s. Ok (s, table)) (same_state _ _ _ _ (new_chain (length table - 1)) (empty table) refl)
    ∙ sym (cond-true _ (Ok (new_chain (length table - 1), table)) _ fits)
