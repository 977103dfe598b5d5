-- The chains of a table: what they are after a record is filled, and after one joins the end of a chain. Assumes nothing.
use Rattle.std.proofs.Common.{◌≡◌, ℕ, zero, suc, ◌+◌, ◌<◌, ◌≤◌, cond, ◌&&◌, eqb, ltb, leb, ◌≢◌, ◌⊎◌, List, [], ◌∷◌, ◌++◌, length, get_or, set, sym, refl, ap, ◌∙◌, subst, inl, inr, arith}
use Rattle.std.proofs.lemmas.Bool.{cond-false, cond-true, cases_eq, eq-eqb, ne_eqb}
use Rattle.std.proofs.lemmas.Bool.Decides.{nat_tests}
use Rattle.std.proofs.lemmas.List.{get_or-set_same, get_or-set_other, get_or_past, length-map, length-set, length_push}
use Rattle.panel.specs.declared.record.Record.{Record}
use Rattle.panel.specs.declared.chain.span.Span.{Span}
use Rattle.panel.specs.Chains.{Entry, sum_below, used, appended, last_number}
use Rattle.panel.specs.Links.{blank, row, entry_at, followed, chains_in, count_of, Once, Ends, firsts_of, lasts_of, with_next}
use Rattle.panel.proofs.Sums.{sum_change, part, parts}
use Rattle.panel.proofs.Following.{Leads, ended, followed_is, leads_still, last_there, no_last, count_push, last_push, extend}

-- what appending does to chain k, and to another
pub appended_here : (c : ℕ → List Entry) (k : ℕ) (x : Entry) → appended c k x k ≡ c k ++ x ∷ []
appended_here c k x = cond-true (eqb k k) (c k ++ x ∷ []) (c k) (eq-eqb k k refl)

pub appended_there : (c : ℕ → List Entry) (k : ℕ) (x : Entry) (j : ℕ) → j ≢ k → appended c k x j ≡ c j
appended_there c k x j ne = cond-false (eqb j k) (c j ++ x ∷ []) (c j) (ne_eqb j k ne)

-- a function is appended c k x if it is so at k and as c elsewhere
appended_by : (c d : ℕ → List Entry) (k : ℕ) (x : Entry) → d k ≡ c k ++ x ∷ [] → ((j : ℕ) → j ≢ k → d j ≡ c j) → d ≡ appended c k x
appended_by c d k x here there = λ i j. at j (cases_eq j k) i
  where
    at : (j : ℕ) → (j ≡ k) ⊎ (j ≢ k) → d j ≡ appended c k x j
    at j (inl e) = subst (λ m. d m ≡ appended c k x m) (sym e) (here ∙ sym (appended_here c k x))
    at j (inr ne) = there j ne ∙ sym (appended_there c k x j ne)

-- A table whose chains come to an end and are without record 0.
module _ (t : List Record) (fs : List ℕ) (short : (k : ℕ) → length (chains_in t fs k) < length t) (null : (k : ℕ) → count_of 0 (chains_in t fs k) ≡ 0) where
  pub well : (k : ℕ) → Leads t (get_or fs k 0) (chains_in t fs k)
  well k = ended t (length t) (get_or fs k 0) (short k)

  -- a chain whose records are not touched
  still : (v : List Record) (k : ℕ) → length v ≡ length t → ((i : ℕ) → 0 < count_of i (chains_in t fs k) → row v i ≡ row t i) → chains_in v fs k ≡ chains_in t fs k
  still v k e same = followed_is v (length v) (get_or fs k 0) (chains_in t fs k) (leads_still t v (get_or fs k 0) (chains_in t fs k) same (well k)) (null k) (omega (arith, short k))

  -- a chain that lacks the record n which is written
  pub beside : (n : ℕ) (r : Record) (k : ℕ) → count_of n (chains_in t fs k) ≡ 0 → chains_in (set t n r) fs k ≡ chains_in t fs k
  beside n r k away =
      still (set t n r) k (length-set t n r)
      (λ i on. get_or-set_other t n i r blank (λ e. let y = subst (λ m. 0 < count_of m (chains_in t fs k)) e on in omega (arith, away)))

  -- the record n, which names no next and is on no chain, joins chain k
  module _ (k n : ℕ) (low : k < length fs) (pos : 0 < n) (end : (row t n).next ≡ 0) where
    alone : Leads t n (entry_at t n ∷ [])
    alone = (refl, end)

    -- as its first
    pub begun : last_number 0 (chains_in t fs k) ≡ 0 → chains_in t (set fs k n) ≡ appended (chains_in t fs) k (entry_at t n)
    begun h =
        appended_by (chains_in t fs) (chains_in t (set fs k n)) k (entry_at t n)
        (ap (followed t (length t)) (get_or-set_same fs k n 0 low)
        ∙ followed_is t (length t) n (entry_at t n ∷ []) alone (grind (arith, nat_tests)) (omega (arith, short k))
        ∙ ap (λ es. es ++ entry_at t n ∷ []) (sym (no_last (chains_in t fs k) (null k) h)))
        (λ j ne. ap (followed t (length t)) (get_or-set_other fs k j n 0 ne))

    module _ (away : count_of n (chains_in t fs k) ≡ 0) (once : (i : ℕ) → count_of i (chains_in t fs k) ≤ 1) (m : ℕ) (last : last_number 0 (chains_in t fs k) ≡ m) (some : m ≡ 0 → ⊥) (inside : m < length t) (apart : (j : ℕ) → j ≢ k → count_of m (chains_in t fs j) ≡ 0) where
      abbrev v : List Record
      v = set t m (with_next n (row t m))

      -- behind its last, which is m
      pub joined : chains_in v fs ≡ appended (chains_in t fs) k (entry_at t n)
      joined =
          let old = chains_in t fs k in
          let on : 0 < count_of m old = subst (λ i. 0 < count_of i old) last (last_there old (λ z. some (sym last ∙ z))) in
          let long = length-set t m (with_next n (row t m)) in
          let differ : n ≡ m → ⊥ = λ e. let y = subst (λ i. 0 < count_of i old) (sym e) on in omega arith in
          let tail : Leads v n (entry_at t n ∷ []) = leads_still t v n (entry_at t n ∷ []) (λ i y. get_or-set_other t m i (with_next n (row t m)) blank (λ e. differ (grind (arith, nat_tests)))) alone in
          let leads =
          extend t v (entry_at t n) tail (get_or fs k 0) old (λ z. some (sym last ∙ z))
          (λ i y d. get_or-set_other t m i (with_next n (row t m)) blank (λ e. d (e ∙ sym last)))
          (subst (λ i. row v i ≡ with_next n (row t i)) (sym last) (get_or-set_same t m (with_next n (row t m)) blank inside))
          once (well k) in
          appended_by (chains_in t fs) (chains_in v fs) k (entry_at t n)
          (followed_is v (length v) (get_or fs k 0) (old ++ entry_at t n ∷ []) leads (let a = count_push 0 old (entry_at t n) in let z = null k in grind (arith, nat_tests)) (omega (arith, length_push old (entry_at t n), short k)))
          (λ j ne. beside m (with_next n (row t m)) j (apart j ne))

-- Three chains that hold the records 1 to u, each once.
module _ (t : List Record) (fs : List ℕ) (u : ℕ) (three : length fs ≡ 3) (room : u < length t) (total : used (chains_in t fs) ≡ u) (once : Once (chains_in t fs) u) where
  none : (k : ℕ) → 3 ≤ k → chains_in t fs k ≡ []
  none k h = followed_is t (length t) (get_or fs k 0) [] (get_or_past fs k 0 (omega arith)) refl (omega arith)

  pub few : (k : ℕ) → length (chains_in t fs k) ≤ u
  few k = omega (arith, part 3 (λ j. length (chains_in t fs j)) (λ j h. ap length (none j h)) k)

  pub short : (k : ℕ) → length (chains_in t fs k) < length t
  short k = omega (arith, few k)

  rare : (i k : ℕ) → count_of i (chains_in t fs k) ≤ cond (ltb 0 i && leb i u) 1 0
  rare i k = omega (arith, once i, part 3 (λ j. count_of i (chains_in t fs j)) (λ j h. ap (count_of i) (none j h)) k)

  pub null : (k : ℕ) → count_of 0 (chains_in t fs k) ≡ 0
  null k = omega (arith, rare 0 k)

  pub in_use : (i k : ℕ) → 0 < count_of i (chains_in t fs k) → i ≤ u
  in_use i k h = let r = rare i k in grind (arith, nat_tests)

  pub unused : (k : ℕ) → count_of (u + 1) (chains_in t fs k) ≡ 0
  unused k = let r = rare (u + 1) k in grind (arith, nat_tests)

  pub at_most_once : (k i : ℕ) → count_of i (chains_in t fs k) ≤ 1
  at_most_once k i = let r = rare i k in grind (arith, nat_tests)

  pub apart : (i j k : ℕ) → j ≢ k → k < 3 → 0 < count_of i (chains_in t fs k) → count_of i (chains_in t fs j) ≡ 0
  apart i j k ne h on =
      let two = parts 3 (λ l. count_of i (chains_in t fs l)) (λ l g. ap (count_of i) (none l g)) j k ne h in
      let o = once i in
      grind (arith, nat_tests)

-- What appending an entry does to the facts of the chains.

pub used_appended : (c : ℕ → List Entry) (k : ℕ) (x : Entry) → k < 3 → used (appended c k x) ≡ used c + 1
used_appended c k x h =
    let f : ℕ → ℕ = λ j. length (c j) in
    let g : ℕ → ℕ = λ j. length (appended c k x j) in
    let here : g k ≡ f k + 1 = ap length (appended_here c k x) ∙ length_push (c k) x in
    omega (arith, sum_change 3 f g k h (λ j ne. ap length (sym (appended_there c k x j ne))))

once_appended : (c : ℕ → List Entry) (k u : ℕ) (x : Entry) → k < 3 → x.number ≡ u + 1 → Once c u → Once (appended c k x) (u + 1)
once_appended c k u x h e o = λ n.
    let f : ℕ → ℕ = λ j. count_of n (c j) in
    let g : ℕ → ℕ = λ j. count_of n (appended c k x j) in
    let here : g k ≡ f k + cond (eqb x.number n) 1 0 = ap (count_of n) (appended_here c k x) ∙ count_push n (c k) x in
    let all : sum_below 3 f + g k ≡ sum_below 3 g + f k = sum_change 3 f g k h (λ j ne. ap (count_of n) (sym (appended_there c k x j ne))) in
    let before : sum_below 3 f ≡ cond (ltb 0 n && leb n u) 1 0 = o n in
    let after : sum_below 3 g ≡ cond (ltb 0 n && leb n u) 1 0 + cond (eqb x.number n) 1 0 = omega arith in
    after ∙ one_more n u x.number e
  where
    one_more : (n u m : ℕ) → m ≡ u + 1 → cond (ltb 0 n && leb n u) 1 0 + cond (eqb m n) 1 0 ≡ cond (ltb 0 n && leb n (u + 1)) 1 0
    one_more n u m e = grind (arith, nat_tests)

ends_appended : (c : ℕ → List Entry) (ls : List ℕ) (k n : ℕ) (x : Entry) → k < length ls → x.number ≡ n → Ends c ls → Ends (appended c k x) (set ls k n)
ends_appended c ls k n x h e o = λ j. at j (cases_eq j k)
  where
    at : (j : ℕ) → (j ≡ k) ⊎ (j ≢ k) → get_or (set ls k n) j 0 ≡ last_number 0 (appended c k x j)
    at j (inl q) =
        subst (λ m. get_or (set ls k n) m 0 ≡ last_number 0 (appended c k x m)) (sym q)
        (get_or-set_same ls k n 0 h ∙ sym (ap (last_number 0) (appended_here c k x) ∙ last_push 0 (c k) x ∙ e))
    at j (inr ne) = get_or-set_other ls k j n 0 ne ∙ o j ∙ sym (ap (last_number 0) (appended_there c k x j ne))

-- What holds of a table, its chains' first and last numbers, and how many records are used.
abbrev pub Listed : List Record → List ℕ → List ℕ → ℕ → Type 0
Listed t fs ls u = record {
  three : (length fs ≡ 3) × (length ls ≡ 3);
  size : (2 ≤ length t) × (length t ≤ 4096);
  room : u < length t;
  total : used (chains_in t fs) ≡ u;
  ends : Ends (chains_in t fs) ls;
  once : Once (chains_in t fs) u;
}

-- they hold if the chains are c, and c is in order
pub sound_by : (c : ℕ → List Entry) (t : List Record) (fs ls : List ℕ) (u : ℕ) → chains_in t fs ≡ c → (length fs ≡ 3) × (length ls ≡ 3) → (2 ≤ length t) × (length t ≤ 4096) → u < length t → used c ≡ u → Ends c ls → Once c u → Listed t fs ls u
sound_by c t fs ls u e three size room total ends once =
    record {
      three = three;
      size = size;
      room = room;
      total = ap used e ∙ total;
      ends = subst (λ d. Ends d ls) (sym e) ends;
      once = subst (λ d. Once d u) (sym e) once;
    }

pub sound_appended : (c : ℕ → List Entry) (t : List Record) (fs ls : List ℕ) (k u : ℕ) (x : Entry) → k < 3 → x.number ≡ u + 1 → chains_in t fs ≡ appended c k x → (length fs ≡ 3) × (length ls ≡ 3) → (2 ≤ length t) × (length t ≤ 4096) → u + 1 < length t → used c ≡ u → Ends c ls → Once c u → Listed t fs (set ls k (u + 1)) (u + 1)
sound_appended c t fs ls k u x h e is three size room total ends once =
    sound_by (appended c k x) t fs (set ls k (u + 1)) (u + 1) is (three.0, length-set ls k (u + 1) ∙ three.1) size room
    (used_appended c k x h ∙ ap (λ n. n + 1) total)
    (ends_appended c ls k (u + 1) x (omega arith) e ends)
    (once_appended c k u x h e once)

-- What a chain panel's ghost fields say.
abbrev pub Sound : List Record → List Span → ℕ → Type 0
Sound t ss u = record {
  three : length ss ≡ 3;
  size : (2 ≤ length t) × (length t ≤ 4096);
  room : u < length t;
  total : used (chains_in t (firsts_of ss)) ≡ u;
  ends : Ends (chains_in t (firsts_of ss)) (lasts_of ss);
  once : Once (chains_in t (firsts_of ss)) u;
}

-- they hold if those numbers are the spans'
pub sound_spans : (t : List Record) (ss : List Span) (fs ls : List ℕ) (u : ℕ) → firsts_of ss ≡ fs → lasts_of ss ≡ ls → Listed t fs ls u → Sound t ss u
sound_spans t ss fs ls u f l listed =
    record {
      three = sym (length-map ss (λ s. s.first)) ∙ ap length f ∙ listed.three.0;
      size = listed.size;
      room = listed.room;
      total = ap (λ gs. used (chains_in t gs)) f ∙ listed.total;
      ends = subst (λ gs. Ends (chains_in t gs) (lasts_of ss)) (sym f) (subst (λ gs. Ends (chains_in t fs) gs) (sym l) listed.ends);
      once = subst (λ gs. Once (chains_in t gs) u) (sym f) listed.once;
    }

-- The chains of a new or emptied panel.

abbrev pub no_spans : List Span
no_spans = let none : Span = record { first = 0; last = 0 } in none ∷ none ∷ none ∷ []

abbrev pub zeros : List ℕ
zeros = 0 ∷ 0 ∷ 0 ∷ []

zero_at : (k : ℕ) → get_or zeros k 0 ≡ 0
zero_at zero = refl
zero_at (suc zero) = refl
zero_at (suc (suc zero)) = refl
zero_at (suc (suc (suc k))) = refl

pub empty : (t : List Record) → chains_in t zeros ≡ (λ _. [])
empty t = λ i k. followed_is t (length t) (get_or zeros k 0) [] (zero_at k) refl (omega arith) i

pub sound_empty : (t : List Record) → (2 ≤ length t) × (length t ≤ 4096) → Sound t no_spans 0
sound_empty t size = sound_spans t no_spans zeros zeros 0 refl refl (sound_by (λ _. []) t zeros zeros 0 (empty t) (refl, refl) size (omega arith) refl zero_at (λ n. grind (arith, nat_tests)))
