use Rattle.std.proofs.Common.{◌≡◌, ℕ, ◌+◌, ◌%◌, ◌<◌, List, length, get_or, set, ap, ◌∙◌, arith}
use Rattle.std.proofs.lemmas.List.Edits.{fill_by_more}
use Rattle.std.proofs.lemmas.List.FromFn.{fill_by_all}
use Rattle.registers.specs.Window.{physical_of}
use Rattle.view.specs.Views.{shown}
use Rattle.view.proofs.fill_through.Goals as goal

-- one byte more
filled_more : (f : ℕ → ℕ) (xs : List ℕ) (i v : ℕ) → v ≡ f i → i < length xs → ((k : ℕ) → k < i → get_or xs k 0 ≡ f k) → (k : ℕ) → k < i + 1 → get_or (set xs i v) k 0 ≡ f k
filled_more f xs i v is within below k h = ap (λ (x : ℕ). get_or (set xs i x) k 0) is ∙ fill_by_more f xs i 0 within below k h

pub loop-byte-preserved : goal.loop-byte-preserved
loop-byte-preserved g c =
    let seen = λ (a : ℕ). (g.M.Memory.memory c.args.memory.now).byte (physical_of c.args.window a) in
    let within : c.loop-byte.byte-index < length c.loop-byte.buffer = omega arith in (
      omega (arith, c.loop-byte.invariant.0),
      filled_more (λ k. seen ((c.args.at + k) % 65536)) c.loop-byte.buffer c.loop-byte.byte-index c.byte_through.result (c.byte_through.ensures ∙ ap seen c.loop-byte.invariant.0) within c.loop-byte.invariant.1,
    )

pub returns : goal.returns
unfolding shown
returns g c =
    fill_by_all (λ k. (g.M.Memory.memory c.args.memory.now).byte (physical_of c.args.window ((c.args.at + k) % 65536))) c.loop-byte.buffer (length c.args.buffer.now) 0 (omega arith) (λ k h. c.loop-byte.invariant.1 k (omega arith))
