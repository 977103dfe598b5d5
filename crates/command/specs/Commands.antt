-- What a line says. Assumes nothing.
use Rattle.std.specs.Prelude.{ℕ, List, [], ◌∷◌, Some, None, Ok, Err, Option, Result}
use Rattle.text.specs.Words.{words_of}
use Rattle.command.specs.Counts.{Word, first_word, five_words, no_word, one_word, optional_word, some_words, three_words, two_words}
use Rattle.command.specs.Forms.{form_of}
use Rattle.command.specs.Said.{Said, rom, ram, bytes, fill, image, protect, patch, chain, script, key, latch, second, make, step, run, reset, look, show}
use Rattle.command.specs.Words.{address, all_read, byte, decimal, listed_byte, listed_page, listed_patch, logical, one, text, three, two, window}
use Rattle.command.specs.declared.form.Form.{Form}
use Rattle.command.specs.declared.form.Form.TheVariants.{Rom, Ram, Bytes, Fill, Image, Protect, Patch, Chain, Script, Key, Latch, Second, Make, Step, Run, Reset, Look, Show}
use Rattle.command.specs.declared.wrong.Place.TheVariants.{Length, Hh, Records, Byte, States, Times, Budget}
use Rattle.command.specs.declared.wrong.Wrong.{Wrong}
use Rattle.command.specs.declared.wrong.Wrong.TheVariants.{NoCommand}

-- What the words say, if there are as many as the command wants.
abbrev pub given : {A : Type 0} → Result A Wrong → (A → Result Said Wrong) → Result Said Wrong
given (Ok words) says = says words
given (Err e) says = Err e

-- Once, where no word says how often.
abbrev pub times : Option Word → Result ℕ Wrong
times (Some word) = decimal Times word
times None = Ok 1

-- What a command says, by the words behind its name.
abbrev pub said_by : Form → List Word → Result Said Wrong
said_by Rom ws = given (one_word Rom ws) (λ n. one rom (decimal Length n))
said_by Ram ws = given (one_word Ram ws) (λ n. one ram (decimal Length n))
said_by Bytes ws = given (first_word Bytes ws) (λ w. given (some_words Bytes w.1) (λ bs. two bytes (address w.0) (all_read listed_byte bs)))
said_by Fill ws = given (three_words Fill ws) (λ w. three fill (address w.0) (decimal Length w.1) (byte Hh w.2))
said_by Image ws = given (two_words Image ws) (λ w. two image (address w.0) (text w.1))
said_by Protect ws = given (some_words Protect ws) (λ pages. one protect (all_read listed_page pages))
said_by Patch ws = given (some_words Patch ws) (λ entries. one patch (all_read listed_patch entries))
said_by Chain ws = given (one_word Chain ws) (λ n. one chain (decimal Records n))
said_by Script ws = given (first_word Script ws) (λ v. given (first_word Script v.1) (λ w. three script (byte Byte v.0) (decimal States w.0) (all_read listed_byte w.1)))
said_by Key ws = given (one_word Key ws) (λ b. one key (byte Hh b))
said_by Latch ws = given (no_word Latch ws) (λ _. Ok latch)
said_by Second ws = given (no_word Second ws) (λ _. Ok second)
said_by Make ws = given (no_word Make ws) (λ _. Ok make)
said_by Step ws = given (optional_word Step ws) (λ n. one step (times n))
said_by Run ws = given (first_word Run ws) (λ w. given (optional_word Run w.1) (λ n. two run (decimal Budget w.0) (times n)))
said_by Reset ws = given (no_word Reset ws) (λ _. Ok reset)
said_by Look ws = given (five_words Look ws) (λ w. three look (window w.0 w.1 w.2) (logical w.3) (decimal Length w.4))
said_by Show ws = given (no_word Show ws) (λ _. Ok show)

-- The same by the name.
abbrev pub said_by_name : Option Form → List Word → Result Said Wrong
said_by_name (Some form) ws = said_by form ws
said_by_name None ws = Err NoCommand

-- What the words of a line say; nothing, where there are none.
abbrev pub said_in : List Word → Result (Option Said) Wrong
said_in [] = Ok None
said_in (name ∷ ws) = one Some (said_by_name (form_of name) ws)

abbrev pub command_of : List ℕ → Result (Option Said) Wrong
command_of line = said_in (words_of line)
