-- An area's name in a column of thirteen. Assumes nothing.
use Rattle.std.proofs.Common.{◌≡◌, ◌-◌, ◌^◌, refl}
use Rattle.std.specs.Fmt.{format_spec, padded, take_chars, char_count}
use lib.Utf8.{encode}
use Rattle.registers.specs.declared.window.Area.{Area}
use Rattle.registers.specs.declared.window.Area.TheVariants.{Bank, Common0, Common1}
use Rattle.registers.specs.Window as window
use Rattle.pagemap.specs.Lines.{area_name}

pub area_laid : (a : Area) → padded (format_spec 32 1 0 13 (2 ^ 64 - 1)) (window.area_name a) ≡ area_name a
unfolding padded take_chars char_count encode
area_laid Common0 = refl
area_laid Bank = refl
area_laid Common1 = refl
