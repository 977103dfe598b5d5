-- What a memory means, and the laws that whatever is proved over memories may use. Assumes nothing.
use Rattle.std.specs.Prelude.{◌≡◌, ℕ, Bool, true, false, cond, ◌&&◌, ◌≢◌, Ok, Err, Result, ◌==◌, nat_lt}
use Rattle.denial.specs.Denials.{Told, numbered}

-- For each physical address, 0 to 524,287, its byte and whether it takes writes.
-- What a memory says of larger numbers is free: no call shows it, and nothing may rest on it.
pub record Mem : Type 0 where
  pub byte : ℕ → ℕ
  pub takes : ℕ → Bool

abbrev pub is_address : ℕ → Bool
is_address a = nat_lt a 524288

-- The place of a physical address in a run of bytes, or 5.
abbrev pub placed_at : ℕ → Result ℕ Told
placed_at a = cond (is_address a) (Ok a) (Err (numbered 5))

-- What a read of a answers.
abbrev pub fetched : Mem → ℕ → Result ℕ Told
fetched m a = cond (is_address a) (Ok (m.byte a)) (Err (numbered 5))

-- What a write to a answers.
abbrev pub accepted : ℕ → Result (Unit {0}) Told
accepted a = cond (is_address a) (Ok tt) (Err (numbered 5))

-- The memory after b was written to a: b stands at a if a is an address that takes writes, and nothing else changes.
abbrev pub store : Mem → ℕ → ℕ → Mem
store m a b = record { byte = λ x. cond (x == a && (is_address a && m.takes a)) b (m.byte x); takes = m.takes }

-- Two memories are alike at each address of a set: the same byte, and both take writes or neither does.
abbrev pub Agree : (ℕ → Bool) → Mem → Mem → Type 0
Agree set m n = (a : ℕ) → set a ≡ true → (m.byte a ≡ n.byte a) × (m.takes a ≡ n.takes a)

-- The laws of a write.
pub record StoreLaws : Type 0 where
  -- the address that takes it holds the byte
  pub there : (m : Mem) (a b : ℕ) → is_address a ≡ true → m.takes a ≡ true → (store m a b).byte a ≡ b
  -- one that takes no writes leaves the memory as it was
  pub refused : (m : Mem) (a b : ℕ) → m.takes a ≡ false → store m a b ≡ m
  -- so does a number that is no address
  pub beyond : (m : Mem) (a b : ℕ) → is_address a ≡ false → store m a b ≡ m
  -- any other address keeps its byte
  pub elsewhere : (m : Mem) (a b x : ℕ) → x ≢ a → (store m a b).byte x ≡ m.byte x
  -- which addresses take writes never changes
  pub takes_same : (m : Mem) (a b : ℕ) → (store m a b).takes ≡ m.takes
  -- memories that agree on a set that has the address agree on it after the same write to both
  pub agreement : (set : ℕ → Bool) (m n : Mem) (a b : ℕ) → set a ≡ true → Agree set m n → Agree set (store m a b) (store n a b)
  -- a write outside a set keeps what agreed on it
  pub outside : (set : ℕ → Bool) (m : Mem) (a b : ℕ) → set a ≡ false → Agree set m (store m a b)
