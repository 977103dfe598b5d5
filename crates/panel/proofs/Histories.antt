-- The laws of a chain panel over lists of calls, and of what a write does to its table. Assumes nothing.
use Rattle.std.proofs.Common.{◌≡◌, ℕ, suc, ◌+◌, ◌<◌, ◌≤◌, Bool, true, false, cond, ◌&&◌, eqb, leb, ◌≢◌, ◌⊎◌, List, [], ◌∷◌, ◌++◌, map, length, set, Some, None, Ok, Err, filter, Option, sym, refl, ap, ◌∙◌, subst, inl, inr, ⊎_elim, arith}
use Rattle.std.proofs.lemmas.List.Elements.{filter-append}
use Rattle.std.proofs.lemmas.List.{append-nil, get_or-set_same, get_or-set_other, length_push, length-set, set_past}
use Rattle.std.proofs.lemmas.Bool.{cond_both, cond-false, cond-true, cases_eq, cases_lt, eqb-false, eqb-true, eq-eqb, ne_eqb}
use Rattle.std.proofs.lemmas.Bool.Decides.{nat_tests}
use Rattle.denial.specs.Denials.{numbered}
use Rattle.panel.specs.declared.line.Line.TheVariants.{Nmi, Int0, Int1, Int2}
use Rattle.panel.specs.declared.record.Record.{Record}
use Rattle.panel.specs.declared.sent.Sent.{Sent}
use Rattle.panel.specs.declared.track.Track.{Track}
use Rattle.panel.specs.declared.track.Track.TheVariants.{Pen, X, Y}
use Rattle.panel.specs.Tracks.{low_byte, track_of, track_number}
use Rattle.panel.specs.Chains.{Entry, State, used, is_full, fresh_number, appended, last_number, recorded, chain_written, new_chain}
use Rattle.panel.specs.Links.{blank, row, ending, with_next, named, filed, table_written}
use Rattle.panel.specs.Acts.{read, write, acknowledge, tell}
use Rattle.panel.specs.History.{Call, by_card, set_key, set_latch, clear, called, after, noted, accepted_from, panel_after, accepted_since, to_low_byte, is_recorded, numbered_from, sent_of, HistoryLaws, TableLaws}
use Rattle.panel.proofs.Tables.{appended_here, appended_there, used_appended}

-- The track of a port: one whose low byte it has, or none, if it is not recorded.
track_cases :
    (port : ℕ) (P : Option Track → Type 0) →
    ((track : Track) → low_byte port ≡ 128 + track_number track → P (Some track)) →
    ((leb 128 (low_byte port) && leb (low_byte port) 130) ≡ false → P None) → P (track_of port)
track_cases port P some none =
    cond_both (eqb (low_byte port) 128) _ _ P (λ e. some Pen (eqb-true _ _ e)) (λ a.
    cond_both (eqb (low_byte port) 129) _ _ P (λ e. some X (eqb-true _ _ e)) (λ b.
    cond_both (eqb (low_byte port) 130) _ _ P (λ e. some Y (eqb-true _ _ e)) (λ c. none (grind (arith, nat_tests)))))

track_below : (track : Track) → track_number track < 3
track_below Pen = omega arith
track_below X = omega arith
track_below Y = omega arith

-- Lists of writes.

numbered_push : (n : ℕ) (ws : List Sent) (w : Sent) → numbered_from n (ws ++ w ∷ []) ≡ numbered_from n ws ++ record { number = n + length ws; port = w.port; byte = w.byte } ∷ []
numbered_push n [] w = let e : n ≡ n + 0 = omega arith in λ i. record { number = e i; port = w.port; byte = w.byte } ∷ []
numbered_push n (v ∷ ws) w =
    let e : suc n + length ws ≡ n + suc (length ws) = omega arith in
    ap (λ es. record { number = n; port = v.port; byte = v.byte } ∷ es)
    (numbered_push (suc n) ws w ∙ (λ i. numbered_from (suc n) ws ++ record { number = e i; port = w.port; byte = w.byte } ∷ []))

-- the writes of the entries that pass a test of their writes
sent_kept : (p : Sent → Bool) (n : ℕ) (ws : List Sent) → map sent_of (filter (λ e. p (sent_of e)) (numbered_from n ws)) ≡ filter p ws
sent_kept p n [] = refl
sent_kept p n (w ∷ ws) =
    elim (p w) as (λ b. map sent_of (cond b (record { number = n; port = w.port; byte = w.byte } ∷ filter (λ e. p (sent_of e)) (numbered_from (suc n) ws)) (filter (λ e. p (sent_of e)) (numbered_from (suc n) ws))) ≡ cond b (w ∷ filter p ws) (filter p ws)) [
      | true ↦ ap (λ l. w ∷ l) (sent_kept p (suc n) ws)
      | false ↦ sent_kept p (suc n) ws
    ]

-- keeping by a test that another one includes
kept_within : (p q : Sent → Bool) → ((w : Sent) → p w ≡ true → q w ≡ true) → (ws : List Sent) → filter p (filter q ws) ≡ filter p ws
kept_within p q sub [] = refl
kept_within p q sub (w ∷ ws) = way (p w) (q w) refl refl (kept_within p q sub ws)
  where
    way : (a b : Bool) → p w ≡ a → q w ≡ b → filter p (filter q ws) ≡ filter p ws → filter p (cond b (w ∷ filter q ws) (filter q ws)) ≡ cond a (w ∷ filter p ws) (filter p ws)
    way true true x y rest = cond-true (p w) _ _ x ∙ ap (λ l. w ∷ l) rest
    way true false x y rest = absurd (let t = sub w x in grind (arith, nat_tests))
    way false true x y rest = cond-false (p w) _ _ x ∙ rest
    way false false x y rest = rest

-- What holds of a panel that has accepted the writes ws since making or clearing.
record Keeps (usable : ℕ) (s : State) (ws : List Sent) : Type 0 where
  has : s.usable ≡ usable
  count : used s.chain ≡ length (filter is_recorded ws)
  within : used s.chain ≤ usable
  chains : (k : ℕ) → k < 3 → s.chain k ≡ filter (λ e. to_low_byte (128 + k) (sent_of e)) (numbered_from 1 (filter is_recorded ws))

keeps_empty : (usable : ℕ) (s : State) → s.usable ≡ usable → s.chain ≡ (λ _. []) → Keeps usable s []
keeps_empty usable s e none = record { has = e; count = ap used none; within = omega (arith, ap used none); chains = λ k h. ap (λ c. c k) none }

-- with another key byte or latch
keeps_still : (usable : ℕ) (s : State) (ws : List Sent) (key : ℕ) (latch : Bool) → Keeps usable s ws → Keeps usable (record { chain = s.chain; usable = s.usable; key = key; latch = latch }) ws
keeps_still usable s ws key latch h = record { has = h.has; count = h.count; within = h.within; chains = h.chains }

module _ (usable : ℕ) (s : State) (ws : List Sent) (h : Keeps usable s ws) (port byte : ℕ) (free : is_full s ≡ false) where
  abbrev w : Sent
  w = record { port = port; byte = byte }

  abbrev zs : List Sent
  zs = filter is_recorded ws

  -- after one more write, on a track or on none
  keeps_on : (track : Track) → low_byte port ≡ 128 + track_number track → Keeps usable (recorded s (Some track) port byte) (ws ++ w ∷ [])
  keeps_on track low =
      let j = track_number track in
      let less = track_below track in
      let x : Entry = record { number = fresh_number s; port = port; byte = byte } in
      let one = used_appended s.chain j x less in
      let yes' : is_recorded w ≡ true = grind (arith, nat_tests) in
      let more : filter is_recorded (ws ++ w ∷ []) ≡ zs ++ w ∷ [] = filter-append is_recorded ws (w ∷ []) ∙ ap (λ l. zs ++ l) (cond-true (is_recorded w) (w ∷ []) [] yes') in
      let number : 1 + length zs ≡ fresh_number s = omega (arith, h.count) in
      let named' : numbered_from 1 (filter is_recorded (ws ++ w ∷ [])) ≡ numbered_from 1 zs ++ x ∷ [] =
      ap (numbered_from 1) more ∙ numbered_push 1 zs w ∙ (λ i. numbered_from 1 zs ++ record { number = number i; port = port; byte = byte } ∷ []) in
      let open' = eqb-false (used s.chain) s.usable free in
      record {
        has = h.has;
        count = omega (arith, one, h.count, ap length more, length_push zs w);
        within = omega (arith, one, h.within, h.has);
        chains = λ k less'.
            let p : Entry → Bool = λ e. to_low_byte (128 + k) (sent_of e) in
            let parts : filter p (numbered_from 1 zs ++ x ∷ []) ≡ s.chain k ++ cond (p x) (x ∷ []) [] =
            filter-append p (numbered_from 1 zs) (x ∷ []) ∙ ap (λ l. l ++ cond (p x) (x ∷ []) []) (sym (h.chains k less')) in
            ⊎_elim
            (λ (e : k ≡ j).
            let pass : p x ≡ true = eq-eqb _ _ (low ∙ ap (λ i. 128 + i) (sym e)) in
            subst (λ i. appended s.chain j x i ≡ s.chain i ++ x ∷ []) (sym e) (appended_here s.chain j x)
            ∙ ap (λ l. s.chain k ++ l) (sym (cond-true (p x) (x ∷ []) [] pass)))
            (λ (ne : k ≢ j).
            let fail : p x ≡ false = ne_eqb _ _ (λ q. ne (omega (arith, q, low))) in
            appended_there s.chain j x k ne ∙ sym (append-nil (s.chain k)) ∙ ap (λ l. s.chain k ++ l) (sym (cond-false (p x) (x ∷ []) [] fail)))
            (cases_eq k j)
            ∙ sym (ap (filter p) named' ∙ parts);
      }

  keeps_off : is_recorded w ≡ false → Keeps usable s (ws ++ w ∷ [])
  keeps_off off =
      let same : filter is_recorded (ws ++ w ∷ []) ≡ zs = filter-append is_recorded ws (w ∷ []) ∙ ap (λ l. zs ++ l) (cond-false (is_recorded w) (w ∷ []) [] off) ∙ append-nil zs in
      record {
        has = h.has;
        count = h.count ∙ ap length (sym same);
        within = h.within;
        chains = λ k less. h.chains k less ∙ ap (λ l. filter (λ e. to_low_byte (128 + k) (sent_of e)) (numbered_from 1 l)) (sym same);
      }

  keeps_write : Keeps usable (chain_written s port byte) (ws ++ w ∷ [])
  keeps_write = track_cases port (λ o. Keeps usable (recorded s o port byte) (ws ++ w ∷ [])) keeps_on keeps_off

keeps_call : (usable : ℕ) (s : State) (ws : List Sent) (c : Call) → Keeps usable s ws → Keeps usable (called s c) (noted s ws c)
keeps_call usable s ws (by_card (write port byte)) h = way (is_full s) refl
  where
    way : (b : Bool) → is_full s ≡ b → Keeps usable (cond b s (chain_written s port byte)) (cond b ws (ws ++ record { port = port; byte = byte } ∷ []))
    way true full = h
    way false free = keeps_write usable s ws h port byte free
keeps_call usable s ws (by_card (read port)) h = h
keeps_call usable s ws (by_card (acknowledge Nmi)) h = keeps_still usable s ws s.key false h
keeps_call usable s ws (by_card (acknowledge Int0)) h = h
keeps_call usable s ws (by_card (acknowledge Int1)) h = h
keeps_call usable s ws (by_card (acknowledge Int2)) h = h
keeps_call usable s ws (by_card (tell states)) h = h
keeps_call usable s ws (set_key key) h = keeps_still usable s ws key s.latch h
keeps_call usable s ws (set_latch latch) h = keeps_still usable s ws s.key latch h
keeps_call usable s ws clear h = keeps_empty usable _ h.has refl

keeps_calls : (usable : ℕ) (s : State) (ws : List Sent) (cs : List Call) → Keeps usable s ws → Keeps usable (after s cs) (accepted_from s ws cs)
keeps_calls usable s ws [] h = h
keeps_calls usable s ws (c ∷ cs) h = keeps_calls usable (called s c) (noted s ws c) cs (keeps_call usable s ws c h)

keeps : (usable : ℕ) (cs : List Call) → Keeps usable (panel_after usable cs) (accepted_since usable cs)
keeps usable cs = keeps_calls usable (new_chain usable) [] cs (keeps_empty usable (new_chain usable) refl refl)

full_is : (usable : ℕ) (cs : List Call) → is_full (panel_after usable cs) ≡ eqb (length (filter is_recorded (accepted_since usable cs))) usable
full_is usable cs = λ i. eqb ((keeps usable cs).count i) ((keeps usable cs).has i)

pub history_laws : HistoryLaws
history_laws = record {
  in_order = λ usable cs track.
      let ws = accepted_since usable cs in
      let k = track_number track in
      let less = track_below track in
      ap (map sent_of) ((keeps usable cs).chains k less)
      ∙ sent_kept (to_low_byte (128 + k)) 1 (filter is_recorded ws)
      ∙ kept_within (to_low_byte (128 + k)) is_recorded (λ w e. let low = eqb-true _ _ e in grind (arith, nat_tests)) ws;
  numbers = λ usable cs track. (keeps usable cs).chains (track_number track) (track_below track);
  denied_when = λ usable cs. ap (λ b. cond b (Err (numbered 8)) (Ok tt)) (full_is usable cs);
  full_when = full_is;
  used_is = λ usable cs. (keeps usable cs).count;
  used_within = λ usable cs. (keeps usable cs).within;
  usable_same = λ usable cs. (keeps usable cs).has;
}

-- The table.

-- a row that is not the one written
row_other : (t : List Record) (i n : ℕ) (r : Record) → n ≢ i → row (set t i r) n ≡ row t n
row_other t i n r ne = get_or-set_other t i n r blank ne

-- a row that takes another next number
with_next_same : (t : List Record) (last n m : ℕ) → ((row (named last n t) m).port ≡ (row t m).port) × ((row (named last n t) m).byte ≡ (row t m).byte)
with_next_same t last n m =
    cond_both (eqb last 0) t (set t last (with_next n (row t last))) (λ u. ((row u m).port ≡ (row t m).port) × ((row u m).byte ≡ (row t m).byte))
    (λ _. (refl, refl))
    (λ _. ⊎_elim
    (λ (e : m ≡ last).
    ⊎_elim
    (λ (inside : last < length t).
    let s = get_or-set_same t last (with_next n (row t last)) blank inside in
    subst (λ i. ((row (set t last (with_next n (row t last))) i).port ≡ (row t i).port) × ((row (set t last (with_next n (row t last))) i).byte ≡ (row t i).byte)) (sym e) (ap (λ r. r.port) s, ap (λ r. r.byte) s))
    (λ past. let s = set_past t last (with_next n (row t last)) past in (ap (λ u. (row u m).port) s, ap (λ u. (row u m).byte) s))
    (cases_lt last (length t)))
    (λ ne. let s = row_other t last m (with_next n (row t last)) ne in (ap (λ r. r.port) s, ap (λ r. r.byte) s))
    (cases_eq m last))

named_other : (t : List Record) (last n m : ℕ) → (m ≡ 0) ⊎ (m ≢ last) → row (named last n t) m ≡ row t m
named_other t last n m h =
    cond_both (eqb last 0) t (set t last (with_next n (row t last))) (λ u. row u m ≡ row t m)
    (λ _. refl)
    (λ e. row_other t last m (with_next n (row t last)) (λ q. ⊎_elim (λ z. eqb-false last 0 e (sym q ∙ z)) (λ ne. ne q) h))

long_named : (t : List Record) (last n : ℕ) → length (named last n t) ≡ length t
long_named t last n = cond_both (eqb last 0) t (set t last (with_next n (row t last))) (λ u. length u ≡ length t) (λ _. refl) (λ _. length-set t last (with_next n (row t last)))

-- what holds of the table as it is, and after a write on each track, holds after any write
table_cases :
    (s : State) (t : List Record) (port byte : ℕ) (P : List Record → Type 0) → P t →
    ((track : Track) → track_of port ≡ Some track → P (filed s t (Some track) port byte)) → P (table_written s t port byte)
table_cases s t port byte P same on =
    cond_both (is_full s) t (filed s t (track_of port) port byte) P (λ _. same) (λ _. way (track_of port) refl)
  where
    way : (o : Option Track) → track_of port ≡ o → P (filed s t o port byte)
    way None e = same
    way (Some track) e = on track e

pub table_laws : TableLaws
table_laws = record {
  as_long = λ s t port byte. table_cases s t port byte (λ u. length u ≡ length t) refl (λ track _.
      long_named (set t (fresh_number s) (ending port byte)) (last_number 0 (s.chain (track_number track))) (fresh_number s) ∙ length-set t (fresh_number s) (ending port byte));
  zero_same = λ s t port byte. table_cases s t port byte (λ u. row u 0 ≡ row t 0) refl (λ track _.
      named_other (set t (fresh_number s) (ending port byte)) (last_number 0 (s.chain (track_number track))) (fresh_number s) 0 (inl refl)
      ∙ row_other t (fresh_number s) 0 (ending port byte) (λ z. omega (arith, z)));
  bytes_same = λ s t port byte n ne. table_cases s t port byte (λ u. ((row u n).port ≡ (row t n).port) × ((row u n).byte ≡ (row t n).byte)) (refl, refl) (λ track _.
      let a = with_next_same (set t (fresh_number s) (ending port byte)) (last_number 0 (s.chain (track_number track))) (fresh_number s) n in
      let b = row_other t (fresh_number s) n (ending port byte) ne in
      (a.0 ∙ ap (λ r. r.port) b, a.1 ∙ ap (λ r. r.byte) b));
  others_same = λ s t port byte n ne not_last. table_cases s t port byte (λ u. row u n ≡ row t n) refl (λ track e.
      named_other (set t (fresh_number s) (ending port byte)) (last_number 0 (s.chain (track_number track))) (fresh_number s) n (inr (λ q. not_last (track, e, q)))
      ∙ row_other t (fresh_number s) n (ending port byte) ne);
}
