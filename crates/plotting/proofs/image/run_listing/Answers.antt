use Rattle.std.proofs.Common.{◌≡◌, ℕ, true, List, [], ◌∷◌, map, take, Ok, vec_items, sym, ap, ◌∙◌, subst, rules}
use Rattle.panel.specs.Shown.{chain_state}
use Rattle.processor.specs.Log as log
use Rattle.card.specs.Cards.{model, ran_of}
use Rattle.answers.specs.declared.answer.Answer.{Answer}
use Rattle.answers.specs.declared.call.Call.TheVariants as call
use Rattle.answers.specs.Answers.{answer_of, call_of}
use Rattle.plot.specs.Listing.{Lists, text_of_plot}
use Rattle.plotting.proofs.Alone.{listed}
use Rattle.plotting.proofs.image.run_listing.Goals as goal

pub returns : goal.returns
returns g c =
    let memory = g.M.Memory.memory in
    let card = c.replay-replayed.result.card in
    let answers = vec_items c.replay-replayed.result.log.answers in
    let served = c.replay-replayed.result.log.served in
    let complete : c.replay-replayed.result.log.complete ≡ true = search rules in
    let calls : ℕ → List log.Call = λ k. map call_of (take k (call.Run c.args.states ∷ [])) in
    let one : calls served ≡ log.running c.args.states ∷ [] = ap calls (c.replay-replayed.ensures.whole complete) in
    let run_answer : map answer_of c.as_slice.result.now ≡ log.ran (Ok (ran_of c.unwrap-ran.result)) ∷ [] = search rules in
    let alone : map answer_of answers ≡ log.ran (Ok (ran_of c.unwrap-ran.result)) ∷ [] =
    ap (λ (xs : List Answer). map answer_of xs) (sym c.as_slice.ensures.value) ∙ run_answer in
    let text =
    listed c.args.states (memory c.args.memory) (chain_state c.args.panel) (map answer_of answers) (model memory chain_state card) (ran_of c.unwrap-ran.result) (calls served) c.requires one c.replay-replayed.ensures.replayed alone in
    let P : List ℕ → Type 0 = Lists c.listing.result in
    subst P ((λ i. text_of_plot (ran_of c.unwrap-ran.result) (c.registers.ensures.cpu i) (c.registers.ensures.window i) (chain_state (c.panel.ensures i))) ∙ text) c.listing.ensures
