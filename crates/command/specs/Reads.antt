-- What is read of a line, where memory suffices. Assumes nothing.
use Rattle.std.specs.Prelude.{◌≡◌, Ok, Err, Result}
use Rattle.command.specs.declared.unread.Unread.{Unread}
use Rattle.command.specs.declared.unread.Unread.TheVariants as unread
use Rattle.command.specs.declared.wrong.Wrong.{Wrong}

-- The code's answer, as the definition shows it, is the definition's; want of memory alone may come in its place.
abbrev pub Reads : {A B : Type 0} → (A → B) → Result A Unread → Result B Wrong → Type 0
Reads shown (Ok a) r = Ok (shown a) ≡ r
Reads shown (Err (unread.Wrong w)) r = Err w ≡ r
Reads shown (Err unread.NoMemory) r = Unit {0}
