-- Words that blanks join are the words of their line. Assumes nothing.
use Rattle.std.proofs.Common.{◌≡◌, ℕ, ◌+◌, ◌==◌, Bool, true, false, cond, not, ◌&&◌, ◌||◌, List, [], ◌∷◌, ◌++◌, filter, length, take, refl, sym, ap, ◌∙◌, one-add, append-nil}
use Rattle.std.specs.List.{join_with_byte, list_all, onto_first, position_or_len, slice_split}
use Rattle.text.specs.Laws.{is_word, stands_in_words}
use Rattle.text.specs.Words.{before_comment, is_blank, words_of}

both : (a b : Bool) → (a && b) ≡ true → (a ≡ true) × (b ≡ true)
both true b is = (refl, is)
both false b is = absurd (cc)

neither : (a b : Bool) → not (a || b) ≡ true → (a ≡ false) × (b ≡ false)
neither true b is = absurd (cc)
neither false true is = absurd (cc)
neither false false is = (refl, refl)

-- a character before a comment
kept : (c : ℕ) (zs : List ℕ) → (c == 35) ≡ false → before_comment (c ∷ zs) ≡ c ∷ before_comment zs
kept c zs is =
    let k = position_or_len (λ d. d == 35) zs in
    ap (λ b. take (cond (not b) (1 + k) 0) (c ∷ zs)) is ∙ ap (λ j. take j (c ∷ zs)) (one-add k)

-- a word before a comment
uncut : (w zs : List ℕ) → list_all stands_in_words w ≡ true → before_comment (w ++ zs) ≡ w ++ before_comment zs
uncut [] zs is = refl
uncut (c ∷ cs) zs is =
    let now = both (stands_in_words c) (list_all stands_in_words cs) is in
    kept c (cs ++ zs) (neither (is_blank c) (c == 35) now.0).1 ∙ ap (λ l. c ∷ l) (uncut cs zs now.1)

-- a word before a blank, or at the end
split : (w zs : List ℕ) (parts : List (List ℕ)) → list_all stands_in_words w ≡ true → slice_split is_blank zs ≡ [] ∷ parts → slice_split is_blank (w ++ zs) ≡ w ∷ parts
split [] zs parts is at = at
split (c ∷ cs) zs parts is at =
    let now = both (stands_in_words c) (list_all stands_in_words cs) is in
    ap (λ b. cond b ([] ∷ slice_split is_blank (cs ++ zs)) (onto_first c (slice_split is_blank (cs ++ zs)))) (neither (is_blank c) (c == 35) now.0).0
    ∙ ap (onto_first c) (split cs zs parts now.1 at)

abbrev line : List (List ℕ) → List ℕ
line ws = join_with_byte 32 ws

uncut_line : (ws : List (List ℕ)) → list_all is_word ws ≡ true → before_comment (line ws) ≡ line ws
uncut_line [] is = refl
uncut_line (w ∷ []) is =
    let now = both (is_word w) true is in
    let word = both (not (length w == 0)) (list_all stands_in_words w) now.0 in
    ap before_comment (sym (append-nil w)) ∙ uncut w [] word.1 ∙ append-nil w
uncut_line (w ∷ v ∷ ws) is =
    let now = both (is_word w) (list_all is_word (v ∷ ws)) is in
    let word = both (not (length w == 0)) (list_all stands_in_words w) now.0 in
    uncut w (32 ∷ line (v ∷ ws)) word.1
    ∙ ap (λ l. w ++ l) (kept 32 (line (v ∷ ws)) refl ∙ ap (λ l. 32 ∷ l) (uncut_line (v ∷ ws) now.1))

abbrev holds : List ℕ → Bool
holds w = not (length w == 0)

split_line : (w : List ℕ) (ws : List (List ℕ)) → list_all is_word (w ∷ ws) ≡ true → slice_split is_blank (line (w ∷ ws)) ≡ w ∷ ws
split_line w [] is =
    let now = both (is_word w) true is in
    let word = both (holds w) (list_all stands_in_words w) now.0 in
    ap (slice_split is_blank) (sym (append-nil w)) ∙ split w [] [] word.1 refl
split_line w (v ∷ ws) is =
    let now = both (is_word w) (list_all is_word (v ∷ ws)) is in
    let word = both (holds w) (list_all stands_in_words w) now.0 in
    split w (32 ∷ line (v ∷ ws)) (v ∷ ws) word.1 (ap (λ l. [] ∷ l) (split_line v ws now.1))

all_kept : (ws : List (List ℕ)) → list_all is_word ws ≡ true → filter holds ws ≡ ws
all_kept [] is = refl
all_kept (w ∷ ws) is =
    let now = both (is_word w) (list_all is_word ws) is in
    let word = both (holds w) (list_all stands_in_words w) now.0 in
    ap (λ b. cond b (w ∷ filter holds ws) (filter holds ws)) word.0 ∙ ap (λ l. w ∷ l) (all_kept ws now.1)

pub reread : (ws : List (List ℕ)) → list_all is_word ws ≡ true → words_of (line ws) ≡ ws
reread [] is = refl
reread (w ∷ ws) is =
    ap (λ l. filter holds (slice_split is_blank l)) (uncut_line (w ∷ ws) is)
    ∙ ap (filter holds) (split_line w ws is)
    ∙ all_kept (w ∷ ws) is
