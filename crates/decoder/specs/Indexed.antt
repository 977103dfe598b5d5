-- The page behind DDH or FDH, which names the index register. Assumes nothing.
use Rattle.std.specs.Prelude.{ℕ, cond, Some, None, Option, ◌==◌}
use Rattle.arithmetic.specs.declared.operation.Operation.{Operation}
use Rattle.registers.specs.declared.operand.Index.{Index}
use Rattle.registers.specs.declared.operand.Register.{Register}
use Rattle.decoder.specs.Field.{x, y, z, p, q, one_of_2, one_of_4, one_of_8, register, addend, operation}
use Rattle.instructions.specs.declared.group.calculation.Arithmetic.TheVariants as arithmetic
use Rattle.instructions.specs.declared.group.exchange.Exchange.TheVariants as exchange
use Rattle.instructions.specs.declared.group.jump.Jump.TheVariants as jump
use Rattle.instructions.specs.declared.group.load.Load.TheVariants as load
use Rattle.instructions.specs.declared.instruction.Instruction.TheVariants.{Load, Exchange, Arithmetic, Jump}
use Rattle.decoder.specs.declared.page.Second.{Second}
use Rattle.decoder.specs.declared.page.Second.TheVariants.{Instruction, BitsPrefix, Undefined}

-- What stands where y has one value, and nothing elsewhere.
abbrev pub only : ℕ → ℕ → Second → Second
only value y a = cond (y == value) a Undefined

-- 00ppq001
abbrev pub words : Index → ℕ → Second
words i y =
    one_of_2 (q y)
    (only 4 y (Instruction (Load (load.IndexWord i))))
    (Instruction (Arithmetic (arithmetic.AddIndex i (addend (p y)))))

-- 00yyy010
abbrev pub addressed : Index → ℕ → Second
addressed i y =
    cond (y == 4) (Instruction (Load (load.AddressIndex i))) (only 5 y (Instruction (Load (load.IndexAddress i))))

-- 00yyy011
abbrev pub counted_words : Index → ℕ → Second
counted_words i y =
    cond (y == 4) (Instruction (Arithmetic (arithmetic.IncrementIndex i))) (only 5 y (Instruction (Arithmetic (arithmetic.DecrementIndex i))))

-- 00yyyzzz
abbrev pub low : Index → ℕ → ℕ → Second
low i y z =
    one_of_8 z
    Undefined
    (words i y)
    (addressed i y)
    (counted_words i y)
    (only 6 y (Instruction (Arithmetic (arithmetic.IncrementIndexed i))))
    (only 6 y (Instruction (Arithmetic (arithmetic.DecrementIndexed i))))
    (only 6 y (Instruction (Load (load.IndexedByte i))))
    Undefined

-- 01rrr110 and 01110rrr
abbrev pub moved : Index → Option Register → Option Register → Second
moved i (Some to) (Some from) = Undefined
moved i (Some to) None = Instruction (Load (load.RegisterIndexed to i))
moved i None (Some from) = Instruction (Load (load.IndexedRegister i from))
moved i None None = Undefined

-- 10yyy110
abbrev pub operated : Index → Operation → ℕ → Second
operated i o z = cond (z == 6) (Instruction (Arithmetic (arithmetic.Indexed o i))) Undefined

-- 11yyy001
abbrev pub popped : Index → ℕ → Second
popped i y =
    cond (y == 4) (Instruction (Exchange (exchange.PopIndex i)))
    (cond (y == 5) (Instruction (Jump (jump.Index i)))
    (only 7 y (Instruction (Load (load.SpIndex i)))))

-- 11yyy011
abbrev pub others : Index → ℕ → Second
others i y = cond (y == 1) BitsPrefix (only 4 y (Instruction (Exchange (exchange.StackIndex i))))

-- 11yyyzzz
abbrev pub high : Index → ℕ → ℕ → Second
high i y z =
    one_of_8 z
    Undefined
    (popped i y)
    Undefined
    (others i y)
    Undefined
    (only 4 y (Instruction (Exchange (exchange.PushIndex i))))
    Undefined
    Undefined

abbrev pub decoded : Index → ℕ → Second
decoded i byte =
    one_of_4 (x byte)
    (low i (y byte) (z byte))
    (moved i (register (y byte)) (register (z byte)))
    (operated i (operation (y byte)) (z byte))
    (high i (y byte) (z byte))
