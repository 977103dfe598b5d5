-- A chain panel that takes its fresh record, and joins it to a chain. Assumes nothing.
use Rattle.std.proofs.Common.{◌≡◌, ℕ, ◌+◌, ◌-◌, ◌<◌, false, eqb, List, length, get_or, set, Some, sym, refl, ap, ◌∙◌, subst, arith}
use Rattle.std.proofs.lemmas.List.{get_or-set_same, length-map, length-set, map-set}
use Rattle.std.proofs.Math.ListN.{get_or-map}
use Rattle.std.proofs.Math.Seq.{map-set_same}
use Rattle.std.proofs.lemmas.Bool.{cond-true, cond-false, eq-eqb, ne_eqb, eqb-false}
use Rattle.panel.specs.declared.record.Record.{Record}
use Rattle.panel.specs.declared.track.Track.{Track}
use Rattle.panel.specs.declared.chain.Chain.{Chain}
use Rattle.panel.specs.declared.chain.span.Span.{Span}
use Rattle.panel.specs.Tracks.{track_number}
use Rattle.panel.specs.Chains.{Entry, State, used, is_full, fresh_number, appended, last_number, recorded, with_chain}
use Rattle.panel.specs.Links.{blank, row, entry_at, chains_in, firsts_of, lasts_of, count_of, with_next, named}
use Rattle.panel.specs.Shown.{chain_state, table_of}
use Rattle.panel.proofs.Tables.{beside, begun, joined, short, null, in_use, unused, at_most_once, apart, Listed, Sound, sound_by, sound_spans, sound_appended}
use Rattle.panel.proofs.Following.{last_there}

abbrev pub with_usable : ℕ → State → State
with_usable n s = record { chain = s.chain; usable = n; key = s.key; latch = s.latch }

-- states with the same chains and as many usable records
pub same_state : (c d : ℕ → List Entry) (m n : ℕ) (s : State) → c ≡ d → m ≡ n → with_chain c (with_usable m s) ≡ with_chain d (with_usable n s)
same_state c d m n s e f = λ i. record { chain = e i; usable = f i; key = s.key; latch = s.latch }

-- The record n of a panel can join chain k, which is that of the track.
pub record Ready (p : Chain) (track : Track) (k n : ℕ) : Type 0 where
  pub is : k ≡ track_number track
  pub kind : k < 3
  pub room : p.used + 1 < length (table_of p)
  pub fresh : n ≡ p.used + 1
  pub end : (row (table_of p) n).next ≡ 0

module _ (p : Chain) where
  abbrev t : List Record
  t = table_of p

  abbrev fs : List ℕ
  fs = firsts_of p.spans

  abbrev ls : List ℕ
  ls = lasts_of p.spans

  pub three_here : (length fs ≡ 3) × (length ls ≡ 3)
  three_here = (length-map p.spans (λ s. s.first) ∙ p.three, length-map p.spans (λ s. s.last) ∙ p.three)

  abbrev old : ℕ → List Entry
  old = chains_in t fs

  pub short_here : (k : ℕ) → length (old k) < length t
  short_here = short t fs p.used three_here.0 p.room p.total p.once

  pub null_here : (k : ℕ) → count_of 0 (old k) ≡ 0
  null_here = null t fs p.used three_here.0 p.room p.total p.once

  -- while the panel is not full, there is a record behind the used ones
  pub spare : is_full (chain_state p) ≡ false → p.used + 1 < length t
  spare h = omega (arith, eqb-false (used old) (length t - 1) h, p.total, p.room)

  pub number_is : fresh_number (chain_state p) ≡ p.used + 1
  number_is = ap (λ n. n + 1) p.total

  -- what stands in the fresh record once it is filled
  pub row_filled : is_full (chain_state p) ≡ false → (r : Record) → row (set t (fresh_number (chain_state p)) r) (fresh_number (chain_state p)) ≡ r
  row_filled h r = get_or-set_same t (fresh_number (chain_state p)) r blank (omega (arith, spare h, number_is))

  -- the fresh record filled: no chain changes
  module _ (r : Record) where
    filled : chains_in (set t (p.used + 1) r) fs ≡ old
    filled = λ i k. beside t fs short_here null_here (p.used + 1) r k (unused t fs p.used three_here.0 p.room p.total p.once k) i

    pub sound_filled : Sound (set t (p.used + 1) r) p.spans p.used
    sound_filled =
        let long = length-set t (p.used + 1) r in
        sound_spans (set t (p.used + 1) r) p.spans fs ls p.used refl refl
        (sound_by old (set t (p.used + 1) r) fs ls p.used filled three_here (omega (arith, p.size.0), omega (arith, p.size.1)) (omega (arith, p.room)) p.total p.ends p.once)

    pub state_filled : with_chain (chains_in (set t (p.used + 1) r) fs) (with_usable (length (set t (p.used + 1) r) - 1) (chain_state p)) ≡ chain_state p
    state_filled = same_state _ _ _ _ (chain_state p) filled (ap (λ n. n - 1) (length-set t (p.used + 1) r))

  -- the fresh record, which names no next, joined to chain k
  module _ (track : Track) (k n : ℕ) (ready : Ready p track k n) where
    abbrev was : Span
    was = get_or p.spans k (record { first = 0; last = 0 })

    abbrev m : ℕ
    m = was.last

    ends_here : m ≡ last_number 0 (old k)
    ends_here = sym (get_or-map (λ s. s.last) p.spans k (record { first = 0; last = 0 })) ∙ p.ends k

    abbrev after : State
    after = recorded (chain_state p) (Some track) (row t n).port (row t n).byte

    last_is : last_number 0 (old k) ≡ m
    last_is = sym ends_here

    last_on_it : (m ≡ 0 → ⊥) → 0 < count_of m (old k)
    last_on_it h = subst (λ i. 0 < count_of i (old k)) last_is (last_there (old k) (λ z. h (ends_here ∙ z)))

    pub last_inside : (m ≡ 0 → ⊥) → m < length t
    last_inside h = omega (arith, in_use t fs p.used three_here.0 p.room p.total p.once m k (last_on_it h))

    chains_begun : m ≡ 0 → chains_in t (set fs k n) ≡ appended old k (entry_at t n)
    chains_begun h = begun t fs short_here null_here k n (omega (arith, three_here.0, ready.kind)) (omega (arith, ready.fresh)) ready.end (last_is ∙ h)

    chains_joined : (m ≡ 0 → ⊥) → chains_in (set t m (with_next n (row t m))) fs ≡ appended old k (entry_at t n)
    chains_joined h =
        joined t fs short_here null_here k n (omega (arith, three_here.0, ready.kind)) (omega (arith, ready.fresh)) ready.end
        (subst (λ i. count_of i (old k) ≡ 0) (sym ready.fresh) (unused t fs p.used three_here.0 p.room p.total p.once k))
        (at_most_once t fs p.used three_here.0 p.room p.total p.once k) m last_is h (last_inside h)
        (λ j ne. apart t fs p.used three_here.0 p.room p.total p.once m j k ne ready.kind (last_on_it h))

    -- what the ghost fields say then, by the table and the first numbers; and the state
    sound_after : (v : List Record) (gs : List ℕ) → length gs ≡ 3 → length v ≡ length t → chains_in v gs ≡ appended old k (entry_at t n) → Listed v gs (set ls k n) n
    sound_after v gs three long c =
        subst (λ i. Listed v gs (set ls k i) i) (sym ready.fresh)
        (sound_appended old v gs ls k p.used (entry_at t n) ready.kind ready.fresh c (three, three_here.1) (omega (arith, p.size.0), omega (arith, p.size.1)) (omega (arith, ready.room)) p.total p.ends p.once)

    state_after : (v : List Record) (gs : List ℕ) → length v ≡ length t → chains_in v gs ≡ appended old k (entry_at t n) → with_chain (chains_in v gs) (with_usable (length v - 1) (chain_state p)) ≡ after
    state_after v gs long c =
        let number = ready.fresh ∙ sym number_is in
        same_state _ _ _ _ (chain_state p) (c ∙ (λ i. appended old (ready.is i) (record { number = number i; port = (row t n).port; byte = (row t n).byte }))) (ap (λ i. i - 1) long)

    -- chain k from the record i to the fresh one
    abbrev spanned : ℕ → List Span
    spanned i = set p.spans k (record { first = i; last = n })

    firsts_spanned : (i : ℕ) → firsts_of (spanned i) ≡ set fs k i
    firsts_spanned i = map-set (λ s. s.first) p.spans k (record { first = i; last = n })

    lasts_spanned : (i : ℕ) → lasts_of (spanned i) ≡ set ls k n
    lasts_spanned i = map-set (λ s. s.last) p.spans k (record { first = i; last = n })

    pub sound_begun : m ≡ 0 → Sound t (spanned n) n
    sound_begun h =
        sound_spans t (spanned n) (set fs k n) (set ls k n) n (firsts_spanned n) (lasts_spanned n)
        (sound_after t (set fs k n) (length-set fs k n ∙ three_here.0) refl (chains_begun h))

    pub state_begun : m ≡ 0 → with_chain (chains_in t (firsts_of (spanned n))) (chain_state p) ≡ after
    state_begun h = state_after t (firsts_of (spanned n)) refl (ap (chains_in t) (firsts_spanned n) ∙ chains_begun h)

    pub table_begun : m ≡ 0 → t ≡ named (last_number 0 (old (track_number track))) n t
    table_begun h =
        sym (cond-true (eqb (last_number 0 (old k)) 0) t _ (eq-eqb _ 0 (last_is ∙ h))) ∙ ap (λ j. named (last_number 0 (old j)) n t) ready.is

    -- behind its last record, which the code has read as r
    module _ (r : Record) (read : r ≡ row t m) (some : m ≡ 0 → ⊥) where
      abbrev v : List Record
      v = set t m (with_next n r)

      long : length v ≡ length t
      long = length-set t m (with_next n r)

      chains_after : chains_in v fs ≡ appended old k (entry_at t n)
      chains_after = ap (λ w. chains_in (set t m (with_next n w)) fs) read ∙ chains_joined some

      -- its first record stays
      firsts_same : firsts_of (spanned was.first) ≡ fs
      firsts_same = map-set_same (λ s. s.first) p.spans k (record { first = was.first; last = n }) (record { first = 0; last = 0 }) refl

      pub sound_joined : Sound v (spanned was.first) n
      sound_joined =
          sound_spans v (spanned was.first) fs (set ls k n) n firsts_same (lasts_spanned was.first) (sound_after v fs three_here.0 long chains_after)

      pub state_joined : with_chain (chains_in v (firsts_of (spanned was.first))) (with_usable (length v - 1) (chain_state p)) ≡ after
      state_joined = state_after v (firsts_of (spanned was.first)) long (ap (chains_in v) firsts_same ∙ chains_after)

      pub table_joined : v ≡ named (last_number 0 (old (track_number track))) n t
      table_joined =
          ap (λ w. set t m (with_next n w)) read
          ∙ ap (λ i. set t i (with_next n (row t i))) (sym last_is)
          ∙ sym (cond-false (eqb (last_number 0 (old k)) 0) t _ (ne_eqb _ 0 (λ z. some (ends_here ∙ z))))
          ∙ ap (λ j. named (last_number 0 (old j)) n t) ready.is
