-- What the plot of an image is to say, as a function of the image alone. Assumes nothing.
use Rattle.std.specs.Prelude.{◌≡◌, ◌≢◌, ℕ, ◌-◌, ◌<◌, ◌≤◌, List, [], ◌∷◌, ◌++◌, length, replicate, Some, None, Ok, Err, string_bytes, Option, Result, String}
use Rattle.memory.specs.Boards.{bank}
use Rattle.panel.specs.Chains.{State, chain_make, new_chain}
use Rattle.processor.specs.Log as log
use Rattle.processor.specs.Log.{made}
use Rattle.processor.specs.Run.{Finished, Ran as Ended, run}
use Rattle.processor.specs.Step.{Model}
use Rattle.card.specs.declared.ran.Ran.{Ran}
use Rattle.card.specs.Cards.{ran_of}
use Rattle.plot.specs.declared.unplotted.Unplotted.{Unplotted}
use Rattle.plot.specs.declared.unplotted.Unplotted.TheVariants.{TooLong, NoMemory}
use Rattle.plot.specs.Listing.{text_of_plot}

-- The bank's bytes: the image, then zeros up to 65,536 bytes.
abbrev pub filled : List ℕ → List ℕ
filled image = image ++ replicate (65536 - length image) 0

-- The card before its run: just made, over that bank and a new chain panel with 63 usable records.
abbrev pub card_over : List ℕ → Model State
card_over image = made (bank (filled image)) (new_chain 63)

-- A run with a budget of states.
unfoldable pub run_for : ℕ → Model State → Finished State
run_for states c = run chain_make states c

-- The listing of a run.
abbrev pub run_text : Finished State → List ℕ
run_text f = text_of_plot f.answer f.card.processor.cpu f.card.processor.window f.card.panel

-- The plot of an image: the listing of a run of 1,000 states.
abbrev pub image_text : List ℕ → List ℕ
image_text image = run_text (run_for 1000 (card_over image))

-- An image of at most 65,536 bytes is plotted, a longer one is refused; want of memory may come in place of a plot.
abbrev pub Plots : {A : Type 0} → Result (String A) Unplotted → List ℕ → Type 0
Plots (Ok text) image = (length image ≤ 65536) × (string_bytes text ≡ image_text image)
Plots (Err TooLong) image = 65536 < length image
Plots (Err NoMemory) image = length image ≤ 65536

-- The answer to a run, where it is the only answer; none, where no run was answered alone.
abbrev pub RanAlone : Option Ran → List log.Answer → Type 0
RanAlone (Some r) answers = answers ≡ log.ran (Ok (ran_of r)) ∷ []
RanAlone None answers = (r : Ended) → answers ≢ log.ran (Ok r) ∷ []

-- The run is the one line of a log.
abbrev pub OfTheLog : Type 0
OfTheLog =
    (image : List ℕ) →
    ((log.replay chain_make (log.running 1000 ∷ []) (bank (filled image)) (new_chain 63)).answers ≡ log.ran (Ok (run_for 1000 (card_over image)).answer) ∷ [])
    × ((log.replay chain_make (log.running 1000 ∷ []) (bank (filled image)) (new_chain 63)).card ≡ (run_for 1000 (card_over image)).card)
