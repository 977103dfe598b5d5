-- What holds of the places of a plug. Assumes nothing.
use Rattle.std.proofs.Common.{◌≡◌, ℕ, suc, ◌+◌, ◌<◌, ◌≤◌, Bool, true, false, cond, ◌||◌, eqb, leb, List, [], ◌∷◌, ◌++◌, length, get_or, take, drop, set, is_some, Some, None, sym, refl, ap, ◌∙◌, arith, eqb-true, le-leb, ltb, not, rules}
use borrow.Author.Tests.{eqb-false, lt-leb}
use Rattle.std.proofs.lemmas.Bool.{cond_both}
use Rattle.std.proofs.lemmas.Bool.Decides.{nat_tests}
use Rattle.std.proofs.lemmas.List.{drop_more}
use Rattle.std.proofs.lemmas.List.Quantifiers.{position-Some}
use Rattle.std.proofs.lemmas.List.Sums.{position_or_len_is}
use Rattle.std.proofs.Math.Seq.{take-append_seam}
use Rattle.std.specs.List.{list_all, position, position_or_len, refill}
use Rattle.denial.specs.Denials.{numbered}
use Rattle.plugs.specs.Entries.{different_beside, different, latest_or, plug_denial}
use Rattle.plugs.specs.Places.{entry_of, placed, all_placed}

-- the entry x at i is the first of what is left there
pub next : {E : Type 0} (es : List E) (i : ℕ) (x : E) → i < length es → x ≡ get_or es i x → drop i es ≡ x ∷ drop (i + 1) es
next es i x h is = drop_more es i x h ∙ ap (λ y. y ∷ drop (i + 1) es) (sym is)

-- a list written over by one of its own length
pub refill_same : {E : Type 0} (xs ws : List E) → length ws ≡ length xs → refill (length xs) xs ws ≡ ws
refill_same xs ws same =
    ap (λ n. take n (ws ++ drop (length ws) xs)) (sym same) ∙ take-append_seam ws (drop (length ws) xs)

module _ {E : Type 0} (key : E → ℕ) where
  -- the place of the key of e, or the number of places if it has none
  abbrev place : E → List E → ℕ
  place e es = position_or_len (λ x. eqb (key x) (key e)) es

  put_there : (e : E) (es : List E) → place e es < length es → set es (place e es) e ≡ placed key e es
  put_there e [] h = absurd (omega arith)
  put_there e (x ∷ xs) h =
      (elim (eqb (key x) (key e))
      as (λ v. cond (not v) (1 + place e xs) 0 < suc (length xs) → set (x ∷ xs) (cond (not v) (1 + place e xs) 0) e ≡ cond v (e ∷ xs) (x ∷ placed key e xs))
      [ true ↦ λ h. refl | false ↦ λ h. let more : 1 + place e xs ≡ suc (place e xs) = omega arith in ap (λ i. set (x ∷ xs) i e) more ∙ ap (λ l. x ∷ l) (put_there e xs (omega arith)) ]) h

  put_behind : (e : E) (es : List E) → length es ≤ place e es → es ++ e ∷ [] ≡ placed key e es
  put_behind e [] h = refl
  put_behind e (x ∷ xs) h =
      (elim (eqb (key x) (key e))
      as (λ v. suc (length xs) ≤ cond (not v) (1 + place e xs) 0 → x ∷ (xs ++ e ∷ []) ≡ cond v (e ∷ xs) (x ∷ placed key e xs))
      [ true ↦ λ h. absurd (omega arith) | false ↦ λ h. ap (λ l. x ∷ l) (put_behind e xs (omega arith)) ]) h

  -- an entry takes the place of its key
  pub put_at : (e : E) (es : List E) (at : ℕ) → Some at ≡ position (λ x. eqb (key x) (key e)) es → (at < length es) × (set es at e ≡ placed key e es)
  put_at e es at is =
      let found = position-Some (λ x. eqb (key x) (key e)) es at e (sym is) in
      let same : place e es ≡ at = position_or_len_is (λ x. eqb (key x) (key e)) es at e (omega (arith, found.0)) found.2 (λ _. found.1) in
      (found.0, ap (λ i. set es i e) (sym same) ∙ put_there e es (omega (arith, same, found.0)))

  -- one whose key is new goes behind the others
  pub put_last : (e : E) (es : List E) → None ≡ position (λ x. eqb (key x) (key e)) es → es ++ e ∷ [] ≡ placed key e es
  put_last e es none =
      cond_both (ltb (place e es) (length es)) (Some (place e es)) None (λ o. None ≡ o → es ++ e ∷ [] ≡ placed key e es)
      (λ _ n. absurd (search (rules, n))) (λ h _. put_behind e es (grind (arith, nat_tests))) none

  -- what is found after an entry took its place
  entry_placed : (e : E) (es : List E) (k : ℕ) → entry_of key (placed key e es) k ≡ cond (eqb (key e) k) (Some e) (entry_of key es k)
  entry_placed e [] k = refl
  entry_placed e (x ∷ xs) k = way (eqb (key x) (key e)) (eqb (key e) k) (eqb (key x) k) refl refl refl (entry_placed e xs k)
    where
      way :
          (a b c : Bool) → eqb (key x) (key e) ≡ a → eqb (key e) k ≡ b → eqb (key x) k ≡ c →
          entry_of key (placed key e xs) k ≡ cond (eqb (key e) k) (Some e) (entry_of key xs k) →
          entry_of key (cond a (e ∷ xs) (x ∷ placed key e xs)) k ≡ cond b (Some e) (cond c (Some x) (entry_of key xs k))
      way true true c same here there rest = ap (λ v. cond v (Some e) (entry_of key xs k)) here
      way true false true same here there rest = absurd (eqb-false _ _ here (sym (eqb-true _ _ same) ∙ eqb-true _ _ there))
      way true false false same here there rest = ap (λ v. cond v (Some e) (entry_of key xs k)) here
      way false true true same here there rest = absurd (eqb-false _ _ same (eqb-true _ _ there ∙ sym (eqb-true _ _ here)))
      way false b false same here there rest =
          ap (λ v. cond v (Some x) (entry_of key (placed key e xs) k)) there ∙ rest ∙ ap (λ v. cond v (Some e) (entry_of key xs k)) here
      way false false true same here there rest = ap (λ v. cond v (Some x) (entry_of key (placed key e xs) k)) there

  pub entry_all_placed : (places es : List E) (k : ℕ) → entry_of key (all_placed key places es) k ≡ latest_or key (entry_of key places k) es k
  entry_all_placed places [] k = refl
  entry_all_placed places (e ∷ es) k = entry_all_placed (placed key e places) es k ∙ ap (λ o. latest_or key o es k) (entry_placed e places k)

  -- whether the key k is named
  abbrev named : List E → ℕ → Bool
  named es k = is_some (entry_of key es k)

  named_placed : (e : E) (es : List E) (k : ℕ) → named (placed key e es) k ≡ (eqb (key e) k || named es k)
  named_placed e es k = ap is_some (entry_placed e es k) ∙ way (eqb (key e) k)
    where
      way : (b : Bool) → is_some (cond b (Some e) (entry_of key es k)) ≡ (b || named es k)
      way true = refl
      way false = refl

  length_placed : (e : E) (es : List E) → length (placed key e es) ≡ cond (named es (key e)) (length es) (1 + length es)
  length_placed e [] = refl
  length_placed e (x ∷ xs) =
      elim (eqb (key x) (key e))
      as (λ v. length (cond v (e ∷ xs) (x ∷ placed key e xs)) ≡ cond (is_some (cond v (Some x) (entry_of key xs (key e)))) (suc (length xs)) (1 + suc (length xs)))
      [ true ↦ refl | false ↦ ap suc (length_placed e xs) ∙ one_more (named xs (key e)) (length xs) ]
    where
      one_more : (b : Bool) (n : ℕ) → suc (cond b n (1 + n)) ≡ cond b (suc n) (1 + suc n)
      one_more true n = refl
      one_more false n = omega arith

  -- naming again what is named adds no name
  named_again : (e : E) (es : List E) → named es (key e) ≡ true → (k : ℕ) → (eqb (key e) k || named es k) ≡ named es k
  named_again e es is k = way (eqb (key e) k) refl
    where
      way : (b : Bool) → eqb (key e) k ≡ b → (b || named es k) ≡ named es k
      way true here = sym (ap (named es) (sym (eqb-true _ _ here)) ∙ is)
      way false here = refl

  pub length_all_placed : (places es : List E) → length (all_placed key places es) ≡ length places + different_beside key (named places) es
  length_all_placed places [] = omega arith
  length_all_placed places (e ∷ es) = length_all_placed (placed key e places) es ∙ way (named places (key e)) refl
    where
      way :
          (b : Bool) → named places (key e) ≡ b →
          length (placed key e places) + different_beside key (named (placed key e places)) es ≡ length places + cond b (different_beside key (named places) es) (1 + different_beside key (λ k. eqb (key e) k || named places k) es)
      way true is =
          (λ i. (length_placed e places ∙ ap (λ v. cond v (length places) (1 + length places)) is) i + different_beside key (λ k. (named_placed e places k ∙ named_again e places is k) i) es)
      way false is =
          (λ i. (length_placed e places ∙ ap (λ v. cond v (length places) (1 + length places)) is) i + different_beside key (λ k. named_placed e places k i) es) ∙ omega arith

  -- places are never given up
  pub no_fewer : (places es : List E) → length places ≤ length (all_placed key places es)
  no_fewer places es = omega (arith, length_all_placed places es)

  pub all_more : (places es : List E) (i : ℕ) (x : E) → i < length es → x ≡ get_or es i x → all_placed key (placed key x places) (drop (i + 1) es) ≡ all_placed key places (drop i es)
  all_more places es i x h is = sym (ap (all_placed key places) (next es i x h is))

  -- as many places are used as there are different keys
  places_used : (es : List E) → length (all_placed key [] es) ≡ different key es
  places_used es = omega (arith, length_all_placed [] es)

  module _ (in_range : E → Bool) where
    -- an entry out of range is denied, whatever else is wrong
    pub denied_2 : (es : List E) → false ≡ list_all in_range es → plug_denial key in_range es ≡ Some (numbered 2)
    denied_2 es bad = ap (λ b. cond b (cond (leb (different key es) 32) None (Some (numbered 3))) (Some (numbered 2))) (sym bad)

    -- a 33rd place is denied
    pub denied_3 : (es : List E) → true ≡ list_all in_range es → 32 < length (all_placed key [] es) → plug_denial key in_range es ≡ Some (numbered 3)
    denied_3 es good many =
        ap (λ b. cond b (cond (leb (different key es) 32) None (Some (numbered 3))) (Some (numbered 2))) (sym good)
        ∙ ap (λ b. cond b None (Some (numbered 3))) (lt-leb (different key es) 32 (omega (arith, places_used es)))

    -- with no more places the plug is made
    pub not_denied : (es : List E) → true ≡ list_all in_range es → length (all_placed key [] es) ≤ 32 → plug_denial key in_range es ≡ None
    not_denied es good few =
        ap (λ b. cond b (cond (leb (different key es) 32) None (Some (numbered 3))) (Some (numbered 2))) (sym good)
        ∙ ap (λ b. cond b None (Some (numbered 3))) (le-leb (different key es) 32 (omega (arith, places_used es)))
