use Rattle.std.proofs.Common.{refl}
use Rattle.command.proofs.laws.worked_wrongs.Goals as goal

pub returns : goal.returns
returns c = record {
  unknown = refl;
  too_few = refl;
  too_many = refl;
  no_byte = refl;
  too_large = refl;
  no_decimal = refl;
  long_byte = refl;
  long_address = refl;
  long_logical = refl;
  no_patch = refl;
}
