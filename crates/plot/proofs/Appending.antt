-- A text that grows line by line along a walk. Assumes nothing.
use Rattle.std.proofs.Common.{◌≡◌, ℕ, zero, suc, ◌+◌, ◌<◌, List, [], ◌∷◌, ◌++◌, length, slice_index_or, sym, ap, ◌∙◌, append_assoc, append-nil, arith}
use Rattle.panel.specs.declared.record.Record.{Record}
use Rattle.panel.specs.declared.track.Track.{Track}
use Rattle.plot.specs.Lines.{line, record_line}
use Rattle.panel.specs.declared.track.Track.TheVariants.{Pen, X, Y}
use Rattle.panel.specs.Chains.{State}
use Rattle.plot.specs.Listing.{chains_text, lines_of, track_text}

-- the line of one more record
pub record_more : (track : Track) (text longer want : List ℕ) (x : ℕ × Record) (ahead behind : List (ℕ × Record)) → text ++ lines_of track ahead ≡ want → ahead ≡ x ∷ behind → longer ≡ text ++ line (record_line track x.0 x.1) → longer ++ lines_of track behind ≡ want
record_more track text longer want x ahead behind before on now =
    ap (λ (l : List ℕ). l ++ lines_of track behind) now
    ∙ append_assoc text (line (record_line track x.0 x.1)) (lines_of track behind)
    ∙ ap (λ (xs : List (ℕ × Record)). text ++ lines_of track xs) (sym on)
    ∙ before

-- the end of the walk
pub records_done : (track : Track) (text want : List ℕ) (ahead : List (ℕ × Record)) → text ++ lines_of track ahead ≡ want → length ahead ≡ 0 → text ≡ want
records_done track text want [] before none = sym (append-nil text) ∙ before
records_done track text want (x ∷ xs) before none = absurd (omega arith)

-- the chains of the first n tracks
abbrev pub first_tracks : State → ℕ → List ℕ
first_tracks s zero = []
first_tracks s (suc zero) = track_text s Pen
first_tracks s (suc (suc zero)) = track_text s Pen ++ track_text s X
first_tracks s (suc (suc (suc n))) = track_text s Pen ++ (track_text s X ++ track_text s Y)

pub no_track : (s : State) (text : List ℕ) → text ≡ text ++ first_tracks s 0
no_track s text = sym (append-nil text)

-- the chain of one more track
pub track_more : (s : State) (n : ℕ) (start text longer : List ℕ) (d : Track) → n < 3 → text ≡ start ++ first_tracks s n → longer ≡ text ++ track_text s (slice_index_or (Pen ∷ X ∷ Y ∷ []) n d) → longer ≡ start ++ first_tracks s (n + 1)
track_more s zero start text longer d some before now =
    now ∙ ap (λ l. l ++ track_text s Pen) (before ∙ append-nil start)
track_more s (suc zero) start text longer d some before now =
    now ∙ ap (λ l. l ++ track_text s X) before ∙ append_assoc start (track_text s Pen) (track_text s X)
track_more s (suc (suc zero)) start text longer d some before now =
    now ∙ ap (λ l. l ++ track_text s Y) before ∙ append_assoc start (track_text s Pen ++ track_text s X) (track_text s Y)
    ∙ ap (λ l. start ++ l) (append_assoc (track_text s Pen) (track_text s X) (track_text s Y))
track_more s (suc (suc (suc n))) start text longer d some before now = absurd (omega arith)

pub all_tracks : (s : State) (n : ℕ) (start text : List ℕ) → n ≡ 3 → text ≡ start ++ first_tracks s n → text ≡ start ++ chains_text s
all_tracks s n start text all made = made ∙ ap (λ k. start ++ first_tracks s k) all
