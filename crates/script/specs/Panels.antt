-- What a script says of the panel. Assumes nothing.
use Rattle.std.specs.Prelude.{ℕ, Bool, true, false, cond, List, Ok, Err, Result}
use Rattle.script.specs.declared.wrong.Wrong.{Wrong}
use Rattle.script.specs.declared.wrong.Wrong.TheVariants.{PanelLate, NotAChain}

pub data Panel : Type 0 where
  -- records, the key's byte, and whether the latch is set
  chain : ℕ → ℕ → Bool → Panel
  -- the INT0 byte, the states from which it asks, and what is read
  script : ℕ → ℕ → List ℕ → Panel

pub record Plan : Type 0 where
  pub panel : Panel
  -- whether a line has said something of it
  pub settled : Bool

-- Without a line it is a chain panel of 4,096 records.
abbrev pub no_plan : Plan
no_plan = record { panel = chain 4096 0 false; settled = false }

abbrev pub panel_said : Plan → Panel → Result Plan Wrong
panel_said p panel = cond p.settled (Err PanelLate) (Ok (record { panel = panel; settled = true }))

-- Of several keys the last counts.
abbrev pub key_said : Plan → ℕ → Result Plan Wrong
key_said p byte = elim p.panel [ chain records key latch ↦ Ok (record { panel = chain records byte latch; settled = true }) | script int0_byte threshold reads ↦ Err NotAChain ]

abbrev pub latch_said : Plan → Result Plan Wrong
latch_said p = elim p.panel [ chain records key latch ↦ Ok (record { panel = chain records key true; settled = true }) | script int0_byte threshold reads ↦ Err NotAChain ]
