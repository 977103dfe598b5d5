-- What a board holds behind a put. Assumes nothing.
use Rattle.std.specs.Prelude.{◌≡◌, ℕ, ◌+◌, cond, List, [], ◌∷◌, ◌++◌, length, replicate, take, drop, Ok, Err, Result}
use Rattle.script.specs.declared.wrong.BadLine.{BadLine}
use Rattle.script.specs.Puts.{Put, What, bytes, fill, image, lie_within}
use Rattle.script.specs.Wrong.{outside}

-- The bytes of a put; those of an image are its file's.
abbrev pub bytes_of : What → List ℕ → List ℕ
bytes_of (bytes bs) file = bs
bytes_of (fill n b) file = replicate n b
bytes_of (image name) file = file

-- A board with bytes from an address on.
abbrev pub laid_at : ℕ → List ℕ → List ℕ → List ℕ
laid_at at bs board = take at board ++ bs ++ drop (at + length bs) board

-- What the board of a put holds, if the put's bytes lie within.
abbrev pub laid : Put → List ℕ → List ℕ → Result (List ℕ) BadLine
laid put file board =
    cond (lie_within (length board) put.at (length (bytes_of put.what file)))
    (Ok (laid_at put.at (bytes_of put.what file) board))
    (Err (outside put.line))

-- The board before and after: a line that is refused leaves it.
abbrev pub Lays : {U : Type 0} → Result U BadLine → Result (List ℕ) BadLine → List ℕ → List ℕ → Type 0
Lays (Ok u) answer before after = Ok after ≡ answer
Lays (Err b) answer before after = (Err b ≡ answer) × (after ≡ before)

-- A put has the file at its place; where there is none, it has no bytes.
abbrev pub first_file : List (List ℕ) → List ℕ
first_file [] = []
first_file (file ∷ files) = file

abbrev pub other_files : List (List ℕ) → List (List ℕ)
other_files [] = []
other_files (file ∷ files) = files

-- Puts one after the other; the first bad line is named.
abbrev pub all_laid : Result (List ℕ) BadLine → List Put → List (List ℕ) → Result (List ℕ) BadLine
all_laid (Err b) puts files = Err b
all_laid (Ok board) [] files = Ok board
all_laid (Ok board) (put ∷ puts) files = all_laid (laid put (first_file files) board) puts (other_files files)

-- The board behind all; a bad line may have left it half done.
abbrev pub LaysAll : {U : Type 0} → Result U BadLine → Result (List ℕ) BadLine → List ℕ → Type 0
LaysAll (Ok u) answer after = Ok after ≡ answer
LaysAll (Err b) answer after = Err b ≡ answer

-- A board of ROM and RAM as it is made.
abbrev pub blank : ℕ → ℕ → List ℕ
blank rom ram = replicate (rom + ram) 0
