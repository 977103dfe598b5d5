-- The laws of a script panel over lists of acts. Assumes nothing.
use Rattle.std.proofs.Common.{◌≡◌, ℕ, zero, suc, ◌+◌, ◌≤◌, min, Bool, true, false, not, ◌&&◌, ◌||◌, leb, List, [], ◌∷◌, length, get_or, refl, ap, ◌∙◌, arith}
use Rattle.panel.specs.declared.line.Line.TheVariants.{Nmi, Int0, Int1, Int2}
use Rattle.panel.specs.Acts.{Act, read, write, acknowledge, tell, acted_all}
use Rattle.panel.specs.Script.{State, place_behind, with_place, with_write, with_told, with_acknowledged, script_make, new_script}
use Rattle.panel.specs.Scripted.{reads_of, last_of, states_of, acknowledges, ScriptLaws}

abbrev run : State → List Act → State
run s acts = acted_all script_make s acts

-- what the acts leave of the list, however far it was read
abbrev Read : State → List Act → Type 0
Read s acts =
    ((run s acts).bytes ≡ s.bytes)
    × (s.place ≤ length s.bytes → (run s acts).place ≡ min (s.place + reads_of acts) (length s.bytes))

one_more : (s : State) → s.place ≤ length s.bytes → (place_behind s ≡ min (s.place + 1) (length s.bytes))
one_more s h = grind arith

read_all : (s : State) (acts : List Act) → Read s acts
read_all s [] = (refl, λ h. omega arith)
read_all s (read port ∷ more) =
    let i = read_all (with_place (place_behind s) s) more in
    (i.0, λ h. let p = one_more s h in i.1 (omega (arith, p)) ∙ omega (arith, p))
read_all s (write port byte ∷ more) = read_all (with_write (record { port = port; byte = byte }) s) more
read_all s (acknowledge Nmi ∷ more) = read_all s more
read_all s (acknowledge Int0 ∷ more) = read_all (with_acknowledged s) more
read_all s (acknowledge Int1 ∷ more) = read_all s more
read_all s (acknowledge Int2 ∷ more) = read_all s more
read_all s (tell states ∷ more) = read_all (with_told (min (s.told + states) 4294967295) s) more

-- what the acts leave of all but the list
abbrev After : State → List Act → Type 0
After s acts =
    ((run s acts).last_write ≡ last_of s.last_write acts)
    × (s.told ≤ 4294967295 → (run s acts).told ≡ min (s.told + states_of acts) 4294967295)
    × ((run s acts).threshold ≡ s.threshold)
    × ((run s acts).acknowledged ≡ (s.acknowledged || acknowledges acts))
    × ((run s acts).int0_byte ≡ s.int0_byte)

or_false : (b : Bool) → b ≡ (b || false)
or_false true = refl
or_false false = refl

or_true : (b c : Bool) → true ≡ (b || (true || c))
or_true true c = refl
or_true false c = refl

saturated : (a n m : ℕ) → min (min (a + n) 4294967295 + m) 4294967295 ≡ min (a + (n + m)) 4294967295
saturated a n m = omega arith

after_all : (s : State) (acts : List Act) → After s acts
after_all s [] = (refl, λ h. omega arith, refl, or_false s.acknowledged, refl)
after_all s (read port ∷ more) = after_all (with_place (place_behind s) s) more
after_all s (write port byte ∷ more) = after_all (with_write (record { port = port; byte = byte }) s) more
after_all s (acknowledge Nmi ∷ more) = after_all s more
after_all s (acknowledge Int0 ∷ more) =
    let i = after_all (with_acknowledged s) more in
    (i.0, i.1, i.2, i.3 ∙ or_true s.acknowledged (acknowledges more), i.4)
after_all s (acknowledge Int1 ∷ more) = after_all s more
after_all s (acknowledge Int2 ∷ more) = after_all s more
after_all s (tell states ∷ more) =
    let i = after_all (with_told (min (s.told + states) 4294967295) s) more in
    (i.0, λ h. i.1 (omega arith) ∙ saturated s.told states (states_of more), i.2, i.3, i.4)

-- behind the end of a list there is nothing to be read
capped : (bytes : List ℕ) (n d : ℕ) → get_or bytes (min n (length bytes)) d ≡ get_or bytes n d
capped [] n d = refl
capped (b ∷ bytes) zero d =
    let none : min zero (suc (length bytes)) ≡ zero = omega arith in
    ap (λ k. get_or (b ∷ bytes) k d) none
capped (b ∷ bytes) (suc n) d =
    let less : min (suc n) (suc (length bytes)) ≡ suc (min n (length bytes)) = omega arith in
    ap (λ k. get_or (b ∷ bytes) k d) less ∙ capped bytes n d

read_from_new : (bytes : List ℕ) (threshold int0 : ℕ) (acts : List Act) → (run (new_script bytes threshold int0) acts).place ≡ min (reads_of acts) (length bytes)
read_from_new bytes threshold int0 acts =
    (read_all (new_script bytes threshold int0) acts).1 (omega arith) ∙ ap (λ n. min n (length bytes)) (zero_first (reads_of acts))
  where
    zero_first : (n : ℕ) → 0 + n ≡ n
    zero_first n = omega arith

pub script_laws : ScriptLaws
script_laws = record {
  next_answer = λ bytes threshold int0 acts port.
      let i = read_all (new_script bytes threshold int0) acts in
      (λ j. get_or (i.0 j) (read_from_new bytes threshold int0 acts j) 255) ∙ capped bytes (reads_of acts) 255;
  read_so_far = read_from_new;
  bytes_same = λ bytes threshold int0 acts. (read_all (new_script bytes threshold int0) acts).0;
  last_written = λ bytes threshold int0 acts. (after_all (new_script bytes threshold int0) acts).0;
  asks_when = λ bytes threshold int0 acts.
      let i = after_all (new_script bytes threshold int0) acts in
      let told = i.1 (omega arith) ∙ ap (λ n. min n 4294967295) (zero_first (states_of acts)) in
      λ j. leb (i.2 j) (told j) && not (i.3 j);
  byte_same = λ bytes threshold int0 acts. (after_all (new_script bytes threshold int0) acts).4;
}
  where
    zero_first : (n : ℕ) → 0 + n ≡ n
    zero_first n = omega arith
