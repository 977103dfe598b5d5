-- What a list of arguments asks for, by its length. Assumes nothing.
use Rattle.std.proofs.Common.{◌≡◌, ℕ, ◌<◌, Bool, true, false, cond, leb, List, [], ◌∷◌, map, length, get_or, Ok, Err, codes, sym, refl, ap, ◌∙◌, arith}
use Rattle.pagemap.specs.declared.arguments.Place.TheVariants.{Cbar, Cbr, Bbr}
use Rattle.pagemap.specs.declared.arguments.BadArgument.TheVariants.{NotThree}
use Rattle.denial.specs.Denials.{numbered}
use Rattle.memory.specs.Memory.{Mem}
use Rattle.memory.specs.Boards.{bank, board_length}
use Rattle.registers.specs.declared.window.Window.{Window}
use Rattle.pagemap.specs.Listing.{asked, text_of_map, under}
use Rattle.pagemap.specs.Arguments.{window_asked, window_from, byte_for, base_for}

-- a bank's length was accepted
pub fits : (n size : ℕ) → Ok size ≡ board_length n → (leb n 524288 ≡ true) × (size ≡ n)
fits n size = way (leb n 524288)
  where
    way : (b : Bool) → Ok size ≡ cond b (Ok n) (Err (numbered 1)) → (b ≡ true) × (size ≡ n)
    way true h = (refl, cc)
    way false h = absurd (let z : ◌≡◌ {A = ℕ} 0 1 = cc in omega arith)

-- the listing was made of what was asked for
pub granted : (arguments : List (List ℕ)) (image text : List ℕ) (w : Window) (m : Mem) → leb (length image) 524288 ≡ true → Ok w ≡ window_asked arguments → m ≡ bank image → text ≡ text_of_map m (length image) w → asked arguments image ≡ Ok text
granted arguments image text w m short window memory made =
    ap (λ b. cond b (under image (window_asked arguments)) (Err (codes "too long"))) short
    ∙ ap (under image) (sym window)
    ∙ ap (λ k. Ok (text_of_map k (length image) w)) (sym memory)
    ∙ ap Ok (sym made)

module _ {X : Type 0} (text : X → List ℕ) where
  pub none : (xs : List X) → length xs < 1 → Ok (record { cbar = 240; cbr = 0; bbr = 0 }) ≡ window_asked (map text xs)
  none [] h = refl
  none (x ∷ xs) h = absurd (omega arith)

  pub three : (xs : List X) (a b c : X) → length xs ≡ 3 → a ≡ get_or xs 0 a → b ≡ get_or xs 1 b → c ≡ get_or xs 2 c → window_from (byte_for Cbar (text a)) (base_for Cbr (text b)) (base_for Bbr (text c)) ≡ window_asked (map text xs)
  three [] a b c h p q r = absurd (omega arith)
  three (x ∷ []) a b c h p q r = absurd (omega arith)
  three (x ∷ y ∷ []) a b c h p q r = absurd (omega arith)
  three (x ∷ y ∷ z ∷ []) a b c h p q r = λ i. window_from (byte_for Cbar (text (p i))) (base_for Cbr (text (q i))) (base_for Bbr (text (r i)))
  three (x ∷ y ∷ z ∷ w ∷ more) a b c h p q r = absurd (omega arith)

  pub other : (xs : List X) → (length xs ≡ 0 → ⊥) → (length xs ≡ 3 → ⊥) → Err NotThree ≡ window_asked (map text xs)
  other [] some few = absurd (some refl)
  other (x ∷ []) some few = refl
  other (x ∷ y ∷ []) some few = refl
  other (x ∷ y ∷ z ∷ []) some few = absurd (few refl)
  other (x ∷ y ∷ z ∷ w ∷ more) some few = refl
