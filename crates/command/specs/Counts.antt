-- How many words a command has behind its name. Assumes nothing.
use Rattle.std.specs.Prelude.{ℕ, List, [], ◌∷◌, map, Some, None, Ok, Err, Option, Result}
use Rattle.std.specs.Borrow.{Bor}
use Rattle.std.specs.Option.{option_map}
use Rattle.command.specs.declared.form.Form.{Form}
use Rattle.command.specs.declared.wrong.Wrong.{Wrong}
use Rattle.command.specs.declared.wrong.Wrong.TheVariants.{Count}

abbrev pub Word : Type 0
Word = List ℕ

abbrev pub no_word : Form → List Word → Result (Unit {0}) Wrong
no_word form [] = Ok tt
no_word form _ = Err (Count form)

abbrev pub one_word : Form → List Word → Result Word Wrong
one_word form (a ∷ []) = Ok a
one_word form _ = Err (Count form)

abbrev pub two_words : Form → List Word → Result (Word × Word) Wrong
two_words form (a ∷ b ∷ []) = Ok (a, b)
two_words form _ = Err (Count form)

abbrev pub three_words : Form → List Word → Result (Word × Word × Word) Wrong
three_words form (a ∷ b ∷ c ∷ []) = Ok (a, b, c)
three_words form _ = Err (Count form)

abbrev pub five_words : Form → List Word → Result (Word × Word × Word × Word × Word) Wrong
five_words form (a ∷ b ∷ c ∷ d ∷ e ∷ []) = Ok (a, b, c, d, e)
five_words form _ = Err (Count form)

-- One or more; or the first of them, and those behind it.
abbrev pub some_words : Form → List Word → Result (List Word) Wrong
some_words form (a ∷ others) = Ok (a ∷ others)
some_words form [] = Err (Count form)

abbrev pub first_word : Form → List Word → Result (Word × List Word) Wrong
first_word form (a ∷ others) = Ok (a, others)
first_word form [] = Err (Count form)

-- One or none.
abbrev pub optional_word : Form → List Word → Result (Option Word) Wrong
optional_word form [] = Ok None
optional_word form (a ∷ []) = Ok (Some a)
optional_word form _ = Err (Count form)

-- The same as the code has them.
abbrev pub seen_one : Result (Bor Word) Wrong → Result Word Wrong
seen_one (Ok a) = Ok a.now
seen_one (Err e) = Err e

abbrev pub seen_two : Result (Bor Word × Bor Word) Wrong → Result (Word × Word) Wrong
seen_two (Ok r) = Ok (r.0.now, r.1.now)
seen_two (Err e) = Err e

abbrev pub seen_three : Result (Bor Word × Bor Word × Bor Word) Wrong → Result (Word × Word × Word) Wrong
seen_three (Ok r) = Ok (r.0.now, r.1.now, r.2.now)
seen_three (Err e) = Err e

abbrev pub seen_five : Result (Bor Word × Bor Word × Bor Word × Bor Word × Bor Word) Wrong → Result (Word × Word × Word × Word × Word) Wrong
seen_five (Ok r) = Ok (r.0.now, r.1.now, r.2.now, r.3.now, r.4.now)
seen_five (Err e) = Err e

abbrev pub seen_some : Result (Bor (List (Bor Word))) Wrong → Result (List Word) Wrong
seen_some (Ok r) = Ok (map (λ w. w.now) r.now)
seen_some (Err e) = Err e

abbrev pub seen_first : Result (Bor Word × Bor (List (Bor Word))) Wrong → Result (Word × List Word) Wrong
seen_first (Ok r) = Ok (r.0.now, map (λ w. w.now) r.1.now)
seen_first (Err e) = Err e

abbrev pub seen_optional : Result (Option (Bor Word)) Wrong → Result (Option Word) Wrong
seen_optional (Ok o) = Ok (option_map (λ w. w.now) o)
seen_optional (Err e) = Err e
