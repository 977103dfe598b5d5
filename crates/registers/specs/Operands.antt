-- Registers, pairs and conditions by the names that instructions give them. Assumes nothing.
use Rattle.std.specs.Prelude.{ℕ, ◌/◌, ◌%◌, Bool, not}
use Rattle.arithmetic.specs.declared.flags.Flags.{Flags}
use Rattle.arithmetic.specs.Flags.{byte, from}
use Rattle.registers.specs.declared.operand.Register.{Register}
use Rattle.registers.specs.declared.operand.Register.TheVariants as register
use Rattle.registers.specs.declared.operand.Pair.{Pair}
use Rattle.registers.specs.declared.operand.Pair.TheVariants as pair
use Rattle.registers.specs.declared.operand.StackPair.{StackPair}
use Rattle.registers.specs.declared.operand.StackPair.TheVariants as stack
use Rattle.registers.specs.declared.operand.Pointer.{Pointer}
use Rattle.registers.specs.declared.operand.Pointer.TheVariants as pointer
use Rattle.registers.specs.declared.operand.Index.{Index}
use Rattle.registers.specs.declared.operand.Index.TheVariants as index
use Rattle.registers.specs.declared.operand.Condition.{Condition}
use Rattle.registers.specs.declared.operand.Condition.TheVariants as condition
use Rattle.registers.specs.declared.operand.Direction.{Direction}
use Rattle.registers.specs.declared.operand.Direction.TheVariants as direction
use Rattle.registers.specs.declared.registers.Registers.{Registers}
use Rattle.registers.specs.Registers.{down, up, with_a, with_b, with_c, with_d, with_e, with_f, with_h, with_ix, with_iy, with_l, with_sp, word}

-- A byte register's value, and the registers with another.
abbrev pub value_of : Register → Registers → ℕ
value_of register.B s = s.main.b
value_of register.C s = s.main.c
value_of register.D s = s.main.d
value_of register.E s = s.main.e
value_of register.H s = s.main.h
value_of register.L s = s.main.l
value_of register.A s = s.main.a

abbrev pub with_register : Register → ℕ → Registers → Registers
with_register register.B v s = with_b v s
with_register register.C v s = with_c v s
with_register register.D v s = with_d v s
with_register register.E v s = with_e v s
with_register register.H v s = with_h v s
with_register register.L v s = with_l v s
with_register register.A v s = with_a v s

-- Pairs as words: the first register is the high byte.
abbrev pub bc : Registers → ℕ
bc s = word s.main.b s.main.c

abbrev pub de : Registers → ℕ
de s = word s.main.d s.main.e

abbrev pub hl : Registers → ℕ
hl s = word s.main.h s.main.l

abbrev pub af : Registers → ℕ
af s = word s.main.a (byte s.main.f)

abbrev pub with_bc : ℕ → Registers → Registers
with_bc v s = with_b (v / 256) (with_c (v % 256) s)

abbrev pub with_de : ℕ → Registers → Registers
with_de v s = with_d (v / 256) (with_e (v % 256) s)

abbrev pub with_hl : ℕ → Registers → Registers
with_hl v s = with_h (v / 256) (with_l (v % 256) s)

-- POP AF loads all eight bits of F.
abbrev pub with_af : ℕ → Registers → Registers
with_af v s = with_a (v / 256) (with_f (from (v % 256)) s)

abbrev pub pair_of : Pair → Registers → ℕ
pair_of pair.Bc s = bc s
pair_of pair.De s = de s
pair_of pair.Hl s = hl s
pair_of pair.Sp s = s.sp

abbrev pub with_pair : Pair → ℕ → Registers → Registers
with_pair pair.Bc v s = with_bc v s
with_pair pair.De v s = with_de v s
with_pair pair.Hl v s = with_hl v s
with_pair pair.Sp v s = with_sp v s

abbrev pub stack_pair_of : StackPair → Registers → ℕ
stack_pair_of stack.Bc s = bc s
stack_pair_of stack.De s = de s
stack_pair_of stack.Hl s = hl s
stack_pair_of stack.Af s = af s

abbrev pub with_stack_pair : StackPair → ℕ → Registers → Registers
with_stack_pair stack.Bc v s = with_bc v s
with_stack_pair stack.De v s = with_de v s
with_stack_pair stack.Hl v s = with_hl v s
with_stack_pair stack.Af v s = with_af v s

abbrev pub pointer_of : Pointer → Registers → ℕ
pointer_of pointer.Bc s = bc s
pointer_of pointer.De s = de s

abbrev pub index_of : Index → Registers → ℕ
index_of index.Ix s = s.ix
index_of index.Iy s = s.iy

abbrev pub with_index : Index → ℕ → Registers → Registers
with_index index.Ix v s = with_ix v s
with_index index.Iy v s = with_iy v s

-- Whether a condition holds of the flags.
abbrev pub holds : Condition → Flags → Bool
holds condition.Nz f = not f.z
holds condition.Z f = f.z
holds condition.Nc f = not f.c
holds condition.C f = f.c
holds condition.Po f = not f.pv
holds condition.Pe f = f.pv
holds condition.P f = not f.s
holds condition.M f = f.s

-- One place on through memory.
abbrev pub along : Direction → ℕ → ℕ
along direction.Up a = up a 1
along direction.Down a = down a 1
