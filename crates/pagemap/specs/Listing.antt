-- The whole listing of an image under a window, and what is printed in its place where it is refused. Assumes nothing.
use Rattle.std.specs.Prelude.{◌≡◌, ℕ, zero, suc, Bool, true, cond, List, [], ◌++◌, length, Ok, Err, is_ok, string_bytes, codes, Result, String, nat_le}
use Rattle.memory.specs.Memory.{Mem}
use Rattle.memory.specs.Boards.{bank}
use Rattle.registers.specs.declared.window.Window.{Window}
use Rattle.registers.specs.Window.{opens_on}
use Rattle.pagemap.specs.declared.arguments.BadArgument.{BadArgument}
use Rattle.pagemap.specs.declared.unlisted.Unlisted.{Unlisted}
use Rattle.pagemap.specs.declared.unlisted.Unlisted.TheVariants.{TooLong, Argument, NoMemory}
use Rattle.pagemap.specs.Arguments.{bad_argument_line, window_asked}
use Rattle.pagemap.specs.Lines.{head_text, if_held, line, page_line, page_report}

-- The lines of the first n logical pages.
unfoldable pub pages_text : Mem → ℕ → Window → ℕ → List ℕ
pages_text m bytes w zero = []
pages_text m bytes w (suc n) = pages_text m bytes w n ++ line (page_line (page_report m bytes w n))

-- The physical pages below n that a set of pages holds, each once, behind a blank.
unfoldable pub held_text : (ℕ → Bool) → ℕ → List ℕ
held_text holds zero = []
held_text holds (suc n) = held_text holds n ++ if_held (holds n) n

-- Those that the window opens on.
abbrev pub opened_text : Window → List ℕ
opened_text w = held_text (opens_on w) 128

-- The listing of a memory in which so many bytes are present.
abbrev pub text_of_map : Mem → ℕ → Window → List ℕ
text_of_map m bytes w = head_text bytes w ++ (pages_text m bytes w 16 ++ (codes "opens on" ++ line (opened_text w)))

-- What is to be printed, the image being a bank: the listing, or one line that says why there is none.
abbrev pub under : List ℕ → Result Window BadArgument → Result (List ℕ) (List ℕ)
under image (Ok w) = Ok (text_of_map (bank image) (length image) w)
under image (Err bad) = Err (bad_argument_line bad)

abbrev pub asked : List (List ℕ) → List ℕ → Result (List ℕ) (List ℕ)
asked arguments image = cond (nat_le (length image) 524288) (under image (window_asked arguments)) (Err (codes "too long"))

abbrev pub unlisted_line : Unlisted → List ℕ
unlisted_line TooLong = codes "too long"
unlisted_line (Argument bad) = bad_argument_line bad
unlisted_line NoMemory = codes "no memory for the listing"

-- An answer is what was asked for; want of memory may come in the place of a listing, and of nothing else.
abbrev pub Answers : {A : Type 0} → Result (String A) Unlisted → Result (List ℕ) (List ℕ) → Type 0
Answers (Ok text) want = want ≡ Ok (string_bytes text)
Answers (Err TooLong) want = want ≡ Err (unlisted_line TooLong)
Answers (Err (Argument bad)) want = want ≡ Err (unlisted_line (Argument bad))
Answers (Err NoMemory) want = is_ok want ≡ true
