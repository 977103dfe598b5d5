-- Lines worked by hand: each command once, then what is wrong with others. Assumes nothing.
use Rattle.std.specs.Prelude.{◌≡◌, [], ◌∷◌, Some, None, Ok, Err, codes}
use Rattle.command.specs.Commands.{command_of}
use Rattle.command.specs.Said.{rom, ram, bytes, fill, image, protect, patch, chain, script, key, latch, second, make, step, run, reset, look, show}
use Rattle.command.specs.declared.form.Form.TheVariants as form
use Rattle.command.specs.declared.wrong.Place.TheVariants as place
use Rattle.command.specs.declared.wrong.Wrong.TheVariants.{NoCommand, Count, NotDecimal, NotAByte, NotAnAddress, NotALogicalAddress, NotAPatch}

pub record WorkedCommands : Type 0 where
  pub on_rom : command_of (codes "rom 32768") ≡ Ok (Some (rom 32768))
  pub on_ram : command_of (codes "ram 0") ≡ Ok (Some (ram 0))
  pub on_bytes : command_of (codes "bytes 7FF00 3E 05 ed # A = 5") ≡ Ok (Some (bytes 0x7FF00 (0x3E ∷ 0x05 ∷ 0xED ∷ [])))
  pub on_fill : command_of (codes "\tfill ffffffff 256 e5\r") ≡ Ok (Some (fill 0xFFFFFFFF 256 0xE5))
  pub on_image : command_of (codes "image 0 boot.rom") ≡ Ok (Some (image 0 (codes "boot.rom")))
  pub on_protect : command_of (codes "protect 0 7F 80") ≡ Ok (Some (protect (record { number = 0 } ∷ record { number = 0x7F } ∷ record { number = 0x80 } ∷ [])))
  pub on_patch : command_of (codes "patch 66=C9") ≡ Ok (Some (patch (record { address = 0x66; byte = 0xC9 } ∷ [])))
  pub on_chain : command_of (codes "chain 63") ≡ Ok (Some (chain 63))
  pub on_script : command_of (codes "script FF 1000 1 2") ≡ Ok (Some (script 0xFF 1000 (1 ∷ 2 ∷ [])))
  pub on_key : command_of (codes "key 41") ≡ Ok (Some (key 0x41))
  pub on_latch : command_of (codes "latch") ≡ Ok (Some latch)
  pub on_second : command_of (codes "second") ≡ Ok (Some second)
  pub on_make : command_of (codes "make") ≡ Ok (Some make)
  pub on_step : command_of (codes "step") ≡ Ok (Some (step 1))
  pub on_steps : command_of (codes "step 007") ≡ Ok (Some (step 7))
  pub on_run : command_of (codes "run 10") ≡ Ok (Some (run 10 1))
  pub on_runs : command_of (codes "run 10 3") ≡ Ok (Some (run 10 3))
  pub on_reset : command_of (codes "reset") ≡ Ok (Some reset)
  pub on_look : command_of (codes "look F8 80 0 ffff 16") ≡ Ok (Some (look (record { cbar = 0xF8; cbr = 0x80; bbr = 0 }) 0xFFFF 16))
  pub on_show : command_of (codes "show") ≡ Ok (Some show)
  pub on_nothing : command_of [] ≡ Ok None
  pub on_comment : command_of (codes " # run 10") ≡ Ok None

pub record WorkedWrongs : Type 0 where
  pub unknown : command_of (codes "resets") ≡ Err NoCommand
  pub too_few : command_of (codes "fill 0 16") ≡ Err (Count form.Fill)
  pub too_many : command_of (codes "step 1 2") ≡ Err (Count form.Step)
  pub no_byte : command_of (codes "bytes 0") ≡ Err (Count form.Bytes)
  pub too_large : command_of (codes "ram 4294967296") ≡ Err (NotDecimal place.Length)
  pub no_decimal : command_of (codes "run A") ≡ Err (NotDecimal place.Budget)
  pub long_byte : command_of (codes "key 041") ≡ Err (NotAByte place.Hh)
  pub long_address : command_of (codes "fill 100000000 1 0") ≡ Err NotAnAddress
  pub long_logical : command_of (codes "look F8 80 0 10000 1") ≡ Err NotALogicalAddress
  pub no_patch : command_of (codes "patch 66 C9") ≡ Err NotAPatch
