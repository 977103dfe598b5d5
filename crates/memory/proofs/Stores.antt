-- The laws of a write. Assumes nothing.
use Rattle.std.proofs.Common.{◌≡◌, ℕ, Bool, true, false, cond, ◌&&◌, eqb, ◌≢◌, sym, refl, ap, subst, ap₂, eq-eqb, ne_eqb}
use borrow.Author.Tests.{both_ways}
use Rattle.std.proofs.lemmas.Bool.{and_from, and_left, and_right}
use Rattle.memory.specs.Memory.{Agree, Mem, StoreLaws, is_address, store}

module _ (m : Mem) (a b : ℕ) where
  there : is_address a ≡ true → m.takes a ≡ true → (store m a b).byte a ≡ b
  there address takes = ap (λ t. cond t b (m.byte a)) (and_from _ _ (eq-eqb a a refl) (and_from _ _ address takes))

  -- the byte at any address, where the write is not taken
  untaken : (is_address a && m.takes a) ≡ false → store m a b ≡ m
  untaken not_taken = λ i. record { byte = λ x. ap (λ t. cond t b (m.byte x)) (and_right (eqb x a) _ not_taken) i; takes = m.takes }

  elsewhere : (x : ℕ) → x ≢ a → (store m a b).byte x ≡ m.byte x
  elsewhere x other = ap (λ t. cond t b (m.byte x)) (and_left _ _ (ne_eqb x a other))

agreement : (set : ℕ → Bool) (m n : Mem) (a b : ℕ) → set a ≡ true → Agree set m n → Agree set (store m a b) (store n a b)
agreement set m n a b in-set agree x in-x =
    (ap₂ (λ t v. cond (eqb x a && (is_address a && t)) b v) (agree a in-set).1 (agree x in-x).0, (agree x in-x).1)

outside : (set : ℕ → Bool) (m : Mem) (a b : ℕ) → set a ≡ false → Agree set m (store m a b)
outside set m a b not_in x in-x = (sym (elsewhere m a b x (λ e. both_ways (set a) not_in (subst (λ y. set y ≡ true) e in-x))), refl)

pub laws : StoreLaws
laws = record {
  there = there;
  refused = λ m a b h. untaken m a b (and_right (is_address a) _ h);
  beyond = λ m a b h. untaken m a b (and_left _ (m.takes a) h);
  elsewhere = elsewhere;
  takes_same = λ m a b. refl;
  agreement = agreement;
  outside = outside;
}
