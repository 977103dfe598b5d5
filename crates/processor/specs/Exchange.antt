-- The stack, and exchanges. Assumes nothing.
use Rattle.std.specs.Prelude.{ℕ, ◌/◌, ◌%◌}
use Rattle.registers.specs.declared.registers.Registers.{Registers}
use Rattle.registers.specs.declared.registers.RegisterSet.{RegisterSet}
use Rattle.registers.specs.Operands.{de, hl, index_of, stack_pair_of, with_de, with_hl, with_index, with_stack_pair}
use Rattle.registers.specs.Registers.{Processor, up, with_alternate, with_main}
use Rattle.instructions.specs.declared.group.exchange.Exchange.{Exchange}
use Rattle.instructions.specs.declared.group.exchange.Exchange.TheVariants as exchange
use Rattle.cycles.specs.Tree.{Cycles, Cycles.internal, Cycles.write}
use Rattle.processor.specs.Parts.{finish, pop, push, read_word}

-- A set of registers with another's A and F, all eight bits of it; and with all but those.
abbrev pub with_accumulator : RegisterSet → RegisterSet → RegisterSet
with_accumulator from to =
    record { a = from.a; f = from.f; b = to.b; c = to.c; d = to.d; e = to.e; h = to.h; l = to.l }

abbrev pub with_pairs : RegisterSet → RegisterSet → RegisterSet
with_pairs from to = with_accumulator to from

-- The word on top of the stack and another change places: the high byte is written first.
abbrev pub exchange_stack : ℕ → (ℕ → Registers → Registers) → Processor → Cycles Processor 2
exchange_stack v with_word p =
    read_word p.cpu.sp
    (λ old. internal 1 (write (up p.cpu.sp 1) (v / 256) (write p.cpu.sp (v % 256) (finish (with_word old) p))))

abbrev pub exchanges : Exchange → Processor → Cycles Processor 2
exchanges (exchange.Push x) p = internal 2 (push (stack_pair_of x p.cpu) p (λ q. finish (λ s. s) q))
exchanges (exchange.PushIndex i) p = internal 2 (push (index_of i p.cpu) p (λ q. finish (λ s. s) q))
exchanges (exchange.Pop x) p = pop p (λ v q. finish (with_stack_pair x v) q)
exchanges (exchange.PopIndex i) p = pop p (λ v q. finish (with_index i v) q)
exchanges exchange.AfAlternate p =
    internal 1 (finish (λ s. with_main (with_accumulator s.alternate s.main) (with_alternate (with_accumulator s.main s.alternate) s)) p)
exchanges exchange.DeHl p = finish (λ s. with_de (hl s) (with_hl (de s) s)) p
exchanges exchange.Alternates p =
    finish (λ s. with_main (with_pairs s.alternate s.main) (with_alternate (with_pairs s.main s.alternate) s)) p
exchanges exchange.StackHl p = exchange_stack (hl p.cpu) with_hl p
exchanges (exchange.StackIndex i) p = exchange_stack (index_of i p.cpu) (with_index i) p
