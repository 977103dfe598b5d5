-- What a run of bytes begins with, by the byte that decides it. Assumes nothing.
use Rattle.std.proofs.Common.{◌≡◌, ℕ, ◌<◌, ◌≤◌, Bool, true, false, cond, ltb, leb, List, ◌++◌, length, get_or, Some, None, Option, sym, refl, subst, arith}
use Rattle.std.proofs.lemmas.List.{length-append, get_or_append_left}
use Rattle.std.proofs.lemmas.Bool.{ltb-true, leb-true, lt-ltb, le-leb}
use Rattle.registers.specs.declared.operand.Index.{Index}
use Rattle.beginning.specs.Beginning.{whole, whole_or, by_byte, behind_index, behind, from_first, beginning}
use Rattle.decoder.specs.Cb as cb
use Rattle.decoder.specs.Ed as ed
use Rattle.decoder.specs.Indexed as indexed
use Rattle.decoder.specs.IndexedCb as indexed_cb
use Rattle.instructions.specs.Length as instruction
use Rattle.decoder.specs.Main as main
use Rattle.beginning.specs.declared.Beginning.{Beginning}
use Rattle.beginning.specs.declared.Beginning.TheVariants.{Instruction, UndefinedSecond, UndefinedThird, CutEnd}
use Rattle.instructions.specs.declared.instruction as form
use Rattle.decoder.specs.declared.page.First.{First}
use Rattle.decoder.specs.declared.page.First.TheVariants as first
use Rattle.decoder.specs.declared.page.Page.{Page}
use Rattle.decoder.specs.declared.page.Page.TheVariants as page
use Rattle.decoder.specs.declared.page.Second.{Second}
use Rattle.decoder.specs.declared.page.Second.TheVariants as second
use Rattle.instructions_laws.specs.Beginnings.{Within, Stands}

within_test : (n : ℕ) (test : Bool) (b : Beginning) → (test ≡ true → Within n b) → Within n (cond test b CutEnd)
within_test n true b h = h refl
within_test n false b h = tt

within_whole : (xs : List ℕ) (i : form.Instruction.Instruction) → Within (length xs) (whole xs i)
within_whole xs i = within_test (length xs) (leb (instruction.length i) (length xs)) (Instruction i) (λ e. leb-true _ _ e)

within_or : (xs : List ℕ) (u : Beginning) (r : Option form.Instruction.Instruction) → Within (length xs) u → Within (length xs) (whole_or u xs r)
within_or xs u (Some i) h = within_whole xs i
within_or xs u None h = h

within_index : (i : Index) (xs : List ℕ) (s : Second) → 2 ≤ length xs → Within (length xs) (behind_index i xs s)
within_index i xs (second.Instruction f) h = within_whole xs f
within_index i xs second.BitsPrefix h =
    within_test (length xs) (ltb 3 (length xs)) (whole_or UndefinedThird xs (indexed_cb.decoded i (get_or xs 3 0)))
    (λ e. within_or xs UndefinedThird (indexed_cb.decoded i (get_or xs 3 0)) (ltb-true _ _ e))
within_index i xs second.Undefined h = h

within_page : (p : Page) (xs : List ℕ) (b : ℕ) → 2 ≤ length xs → Within (length xs) (behind p xs b)
within_page page.Bits xs b h = within_or xs UndefinedSecond (cb.decoded b) h
within_page page.Extended xs b h = within_or xs UndefinedSecond (ed.decoded b) h
within_page (page.Indexed i) xs b h = within_index i xs (indexed.decoded i b) h

within_first : (xs : List ℕ) (f : First) → Within (length xs) (from_first xs f)
within_first xs (first.Instruction f) = within_whole xs f
within_first xs (first.Prefix p) =
    within_test (length xs) (ltb 1 (length xs)) (behind p xs (get_or xs 1 0)) (λ e. within_page p xs (get_or xs 1 0) (ltb-true _ _ e))

pub within : (xs : List ℕ) → Within (length xs) (beginning xs)
within xs =
    within_test (length xs) (ltb 0 (length xs)) (from_first xs (main.decoded (get_or xs 0 0))) (λ e. within_first xs (main.decoded (get_or xs 0 0)))

-- ys goes on where xs ends
Longer : List ℕ → List ℕ → Type 0
Longer xs ys = (length xs ≤ length ys) × ((n : ℕ) → n < length xs → get_or ys n 0 ≡ get_or xs n 0)

same : (b : Beginning) → Stands b b
same (Instruction i) = refl
same UndefinedSecond = refl
same UndefinedThird = refl
same CutEnd = tt

stands_test : (s t : Bool) (a b : Beginning) → (s ≡ true → t ≡ true) → (s ≡ true → Stands a b) → Stands (cond s a CutEnd) (cond t b CutEnd)
stands_test true t a b h k = subst (λ v. Stands a (cond v b CutEnd)) (sym (h refl)) (k refl)
stands_test false t a b h k = tt

stands_whole : (xs ys : List ℕ) → length xs ≤ length ys → (i : form.Instruction.Instruction) → Stands (whole xs i) (whole ys i)
stands_whole xs ys l i =
    stands_test (leb (instruction.length i) (length xs)) (leb (instruction.length i) (length ys)) (Instruction i) (Instruction i)
    (λ e. let h = leb-true (instruction.length i) (length xs) e in le-leb _ _ (omega (arith, h, l)))
    (λ e. refl)

stands_or : (xs ys : List ℕ) → length xs ≤ length ys → (u : Beginning) (r : Option form.Instruction.Instruction) → Stands (whole_or u xs r) (whole_or u ys r)
stands_or xs ys l u (Some i) = stands_whole xs ys l i
stands_or xs ys l u None = same u

stands_byte : (n : ℕ) (xs ys : List ℕ) → Longer xs ys → (f g : ℕ → Beginning) → ((b : ℕ) → Stands (f b) (g b)) → Stands (by_byte n xs f) (by_byte n ys g)
unfolding Longer
stands_byte n xs ys l f g k =
    stands_test (ltb n (length xs)) (ltb n (length ys)) (f (get_or xs n 0)) (g (get_or ys n 0))
    (λ e. let h = ltb-true n (length xs) e in let m = l.0 in lt-ltb _ _ (omega (arith, h, m)))
    (λ e. subst (λ v. Stands (f (get_or xs n 0)) (g v)) (sym (l.1 n (ltb-true n (length xs) e))) (k (get_or xs n 0)))

stands_index : (i : Index) (xs ys : List ℕ) → Longer xs ys → (s : Second) → Stands (behind_index i xs s) (behind_index i ys s)
unfolding Longer
stands_index i xs ys l (second.Instruction f) = stands_whole xs ys l.0 f
stands_index i xs ys l second.BitsPrefix =
    stands_byte 3 xs ys l (λ b. whole_or UndefinedThird xs (indexed_cb.decoded i b)) (λ b. whole_or UndefinedThird ys (indexed_cb.decoded i b))
    (λ b. stands_or xs ys l.0 UndefinedThird (indexed_cb.decoded i b))
stands_index i xs ys l second.Undefined = refl

stands_page : (p : Page) (xs ys : List ℕ) → Longer xs ys → (b : ℕ) → Stands (behind p xs b) (behind p ys b)
unfolding Longer
stands_page page.Bits xs ys l b = stands_or xs ys l.0 UndefinedSecond (cb.decoded b)
stands_page page.Extended xs ys l b = stands_or xs ys l.0 UndefinedSecond (ed.decoded b)
stands_page (page.Indexed i) xs ys l b = stands_index i xs ys l (indexed.decoded i b)

stands_first : (xs ys : List ℕ) → Longer xs ys → (f : First) → Stands (from_first xs f) (from_first ys f)
unfolding Longer
stands_first xs ys l (first.Instruction f) = stands_whole xs ys l.0 f
stands_first xs ys l (first.Prefix p) = stands_byte 1 xs ys l (λ b. behind p xs b) (λ b. behind p ys b) (λ b. stands_page p xs ys l b)

pub stands : (xs more : List ℕ) → Stands (beginning xs) (beginning (xs ++ more))
unfolding Longer
stands xs more =
    let l : Longer xs (xs ++ more) = (let h = length-append xs more in omega (arith, h), λ n h. get_or_append_left xs more 0 n h) in
    stands_byte 0 xs (xs ++ more) l (λ b. from_first xs (main.decoded b)) (λ b. from_first (xs ++ more) (main.decoded b))
    (λ b. stands_first xs (xs ++ more) l (main.decoded b))
