-- What the lines behind `make` enter in the log. Assumes nothing.
use Rattle.std.specs.Prelude.{Ok, Err, Result}
use Rattle.answers.specs.declared.call.Call.TheVariants.{Step, Run, Reset, Look}
use Rattle.command.specs.Said.{Said}
use Rattle.command.specs.Said as said
use Rattle.script.specs.declared.entry.Entry.{Entry}
use Rattle.script.specs.declared.entry.Entry.TheVariants.{Calls, Show}
use Rattle.script.specs.declared.wrong.Wrong.{Wrong}
use Rattle.script.specs.declared.wrong.Wrong.TheVariants.{BehindMake, MakeTwice}

-- A call with how many times it is made, or the card shown; setup lines come before `make`.
abbrev pub entry_of : Said → Result Entry Wrong
entry_of (said.step n) = Ok (Calls Step n)
entry_of (said.run budget n) = Ok (Calls (Run budget) n)
entry_of said.reset = Ok (Calls Reset 1)
entry_of (said.look w at n) = Ok (Calls (Look w at n) 1)
entry_of said.show = Ok Show
entry_of said.make = Err MakeTwice
entry_of (said.rom n) = Err BehindMake
entry_of (said.ram n) = Err BehindMake
entry_of (said.bytes at bs) = Err BehindMake
entry_of (said.fill at n b) = Err BehindMake
entry_of (said.image at name) = Err BehindMake
entry_of said.second = Err BehindMake
entry_of (said.protect pages) = Err BehindMake
entry_of (said.patch entries) = Err BehindMake
entry_of (said.chain records) = Err BehindMake
entry_of (said.script int0_byte threshold reads) = Err BehindMake
entry_of (said.key byte) = Err BehindMake
entry_of said.latch = Err BehindMake
