use Rattle.std.proofs.Common.{refl}
use lib.Utf8.{encode}
use Rattle.std.specs.Str.{chars, is_utf8}
use Rattle.command.proofs.laws.worked_commands.Goals as goal

pub returns : goal.returns
unfolding chars encode is_utf8
returns c = record {
  on_rom = refl;
  on_ram = refl;
  on_bytes = refl;
  on_fill = refl;
  on_image = refl;
  on_protect = refl;
  on_patch = refl;
  on_chain = refl;
  on_script = refl;
  on_key = refl;
  on_latch = refl;
  on_second = refl;
  on_make = refl;
  on_step = refl;
  on_steps = refl;
  on_run = refl;
  on_runs = refl;
  on_reset = refl;
  on_look = refl;
  on_show = refl;
  on_nothing = refl;
  on_comment = refl;
}
