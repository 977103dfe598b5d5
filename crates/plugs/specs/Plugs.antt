-- What memory a plug makes of the one below it. A plug looks up what it alters by a key. Assumes nothing.
use Rattle.std.specs.Prelude.{◌≡◌, ℕ, ◌/◌, Bool, false, cond, ◌&&◌, List, is_some, Some, None, Ok, Err, Option, Result, nat_lt}
use Rattle.denial.specs.Denials.{Told, told}
use Rattle.memory.specs.Memory.{Mem, is_address, store}
use Rattle.plugs.specs.Entries.{latest, plug_denial}
use Rattle.plugs.specs.Places.{entry_of, held}
use Rattle.plugs.specs.declared.entry.Page.{Page}
use Rattle.plugs.specs.declared.entry.PatchEntry.{PatchEntry}
use Rattle.plugs.specs.declared.plug.Plug.{Plug}
use Rattle.denial.specs.declared.unmade.Unmade.{Unmade}

-- A protect plug's entry names a page, 0 to 127; a patch plug's names an address.
abbrev pub page_key : Page → ℕ
page_key p = p.number

abbrev pub is_page : Page → Bool
is_page p = nat_lt p.number 128

abbrev pub patch_key : PatchEntry → ℕ
patch_key p = p.address

abbrev pub is_patch : PatchEntry → Bool
is_patch p = is_address p.address

-- The protect plug: an address whose page is looked up takes no writes. All else is as below.
abbrev pub protected : (ℕ → Option Page) → Mem → Mem
protected page m = record { byte = m.byte; takes = λ a. cond (is_some (page (a / 4096))) false (m.takes a) }

-- The byte of a patched address, or the one below.
abbrev pub patch_byte : Option PatchEntry → ℕ → ℕ
patch_byte (Some p) below = p.byte
patch_byte None below = below

-- The patch plug: an address that is looked up has its entry's byte and takes no writes. All else is as below.
abbrev pub patched : (ℕ → Option PatchEntry) → Mem → Mem
patched patch m = record { byte = λ a. patch_byte (patch a) (m.byte a); takes = λ a. cond (is_some (patch a)) false (m.takes a) }

-- The memory that a list of entries makes of the one below, and why it is denied if it is.
abbrev pub protecting : List Page → Mem → Mem
protecting pages m = protected (latest page_key pages) m

abbrev pub protect_denial : List Page → Option Told
protect_denial pages = plug_denial page_key is_page pages

abbrev pub patching : List PatchEntry → Mem → Mem
patching entries m = patched (latest patch_key entries) m

abbrev pub patch_denial : List PatchEntry → Option Told
patch_denial entries = plug_denial patch_key is_patch entries

-- The memory that a plug's value means, over what the memory below means.
abbrev pub plug_memory : {E M : Type 0} → (E → ℕ) → ((ℕ → Option E) → Mem → Mem) → (M → Mem) → Plug E M → Mem
plug_memory key altered memory p = altered (entry_of key (held p.entries)) (memory p.below)

abbrev pub protect_memory : {M : Type 0} → (M → Mem) → Plug Page M → Mem
protect_memory memory p = plug_memory page_key protected memory p

abbrev pub patch_memory : {M : Type 0} → (M → Mem) → Plug PatchEntry M → Mem
patch_memory memory p = plug_memory patch_key patched memory p

-- Whether a plug keeps a write to the address a from the memory below.
abbrev pub protect_keeps : {M : Type 0} → Plug Page M → ℕ → Bool
protect_keeps p a = is_address a && is_some (entry_of page_key (held p.entries) (a / 4096))

abbrev pub patch_keeps : {M : Type 0} → Plug PatchEntry M → ℕ → Bool
patch_keeps p a = is_address a && is_some (entry_of patch_key (held p.entries) a)

-- The memory below after a write to the plug: as it was if the write was kept from it, else written.
abbrev pub below_written : Bool → Mem → ℕ → ℕ → Mem
below_written kept m a b = cond kept m (store m a b)

-- What the making of a plug is to answer: the memory that results, or the denial with the memory below handed back.
abbrev pub plugged : {M : Type 0} → Option Told → Mem → M → Result Mem (Told × M)
plugged None plug below = Ok plug
plugged (Some denied) plug below = Err (denied, below)

-- What it did answer, seen so; mem is the memory that the plug means.
abbrev pub made : {P M : Type 0} → (P → Mem) → Result P (Unmade M) → Result Mem (Told × M)
made mem (Ok p) = Ok (mem p)
made mem (Err u) = Err (told u.denial, u.given)

-- What the making of a plug promises over the entries of a kind is what that kind's words say.
pub record MakingLaws : Type 0 where
  pub protects : (pages : List Page) (m : Mem) → protected (latest page_key pages) m ≡ protecting pages m
  pub protect_denies : (pages : List Page) → plug_denial page_key is_page pages ≡ protect_denial pages
  pub patches : (entries : List PatchEntry) (m : Mem) → patched (latest patch_key entries) m ≡ patching entries m
  pub patch_denies : (entries : List PatchEntry) → plug_denial patch_key is_patch entries ≡ patch_denial entries
