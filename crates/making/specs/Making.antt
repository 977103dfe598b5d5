-- What the making of a card's parts is to come to. Assumes nothing.
use Rattle.std.specs.Prelude.{◌≡◌, ℕ, ◌+◌, ◌-◌, Bool, cond, ◌&&◌, List, length, Some, None, Ok, Err, Option, Result, nat_le}
use Rattle.denial.specs.declared.unmade.Unmade as back
use Rattle.denial.specs.Denials.{Told, numbered, told}
use Rattle.memory.specs.Memory.{Mem}
use Rattle.memory.specs.Boards.{board_length, rom_ram}
use Rattle.panel.specs.Chains.{State, new_chain, with_key, with_latch}
use Rattle.plugs.specs.declared.entry.Page.{Page}
use Rattle.plugs.specs.declared.entry.PatchEntry.{PatchEntry}
use Rattle.plugs.specs.Plugs.{patch_denial, patching, protect_denial, protecting}
use Rattle.making.specs.declared.unmade.Unmade.{Unmade}
use Rattle.making.specs.declared.unmade.Unmade.TheVariants.{Denied, NoMemory}

-- A plug over a memory, unless it is denied or the memory below was not made.
abbrev pub plugged : Option Told → (Mem → Mem) → Result Mem Told → Result Mem Told
plugged denied plug (Ok m) = elim denied [ Some d ↦ Err d | None ↦ Ok (plug m) ]
plugged denied plug (Err d) = Err d

abbrev pub board_made : List ℕ → List ℕ → Result Mem Told
board_made rom ram = elim (board_length (length rom + length ram)) [ Ok n ↦ Ok (rom_ram rom ram) | Err d ↦ Err d ]

-- The board, then the protect plug, then the patch plug; the first of them that is denied is told.
abbrev pub memory_made : List ℕ → List ℕ → List Page → List PatchEntry → Result Mem Told
memory_made rom ram protect patch =
    plugged (patch_denial patch) (patching patch) (plugged (protect_denial protect) (protecting protect) (board_made rom ram))

-- With the bytes that were lent, where the making is denied.
abbrev pub handed_back : List ℕ → Result Mem Told → Result Mem (Told × List ℕ)
handed_back bytes (Ok m) = Ok m
handed_back bytes (Err d) = Err (d, bytes)

-- What the making did answer, seen so.
abbrev pub seen : {P T : Type 0} → (P → Mem) → (T → List ℕ) → Result P (back.Unmade T) → Result Mem (Told × List ℕ)
seen memory bytes (Ok p) = Ok (memory p)
seen memory bytes (Err u) = Err (told u.denial, bytes u.given)

-- A chain panel over a table of 2 to 4,096 records, with its key byte and latch; any other table is denied as 4.
abbrev pub chain_made : ℕ → ℕ → Bool → Result State Told
chain_made records key latch =
    cond (nat_le 2 records && nat_le records 4096) (Ok (with_latch latch (with_key key (new_chain (records - 1))))) (Err (numbered 4))

-- An answer is what the making is to come to, seen through a function; want of memory may come in its place.
abbrev pub Makes : {P S : Type 0} → (P → S) → Result P Unmade → Result S Told → Type 0
Makes state (Ok p) want = want ≡ Ok (state p)
Makes state (Err (Denied d)) want = want ≡ Err (told d)
Makes state (Err NoMemory) want = Unit {0}
