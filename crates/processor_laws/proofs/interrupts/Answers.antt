use Rattle.std.proofs.Common.{refl}
use Rattle.processor_laws.specs.Interrupts.{Entries, Instead}
use Rattle.processor_laws.proofs.interrupts.Goals as goal

entries : Entries
entries = record {
  nmi = record { time = refl; acknowledged = refl; told = refl; pc_after = refl; ief1_after = refl; ief2_after = refl; sp_after = refl; pushed = refl; mode_after = refl; r_after = refl; ei_after = refl };
  nmi_again = record { time = refl; acknowledged = refl; told = refl; pc_after = refl; ief1_after = refl; ief2_after = refl; sp_after = refl; pushed = refl; mode_after = refl; r_after = refl; ei_after = refl };
  mode_0 = record { time = refl; acknowledged = refl; told = refl; pc_after = refl; ief1_after = refl; ief2_after = refl; sp_after = refl; pushed = refl; mode_after = refl; r_after = refl; ei_after = refl };
  mode_0_first = record { time = refl; acknowledged = refl; told = refl; pc_after = refl; ief1_after = refl; ief2_after = refl; sp_after = refl; pushed = refl; mode_after = refl; r_after = refl; ei_after = refl };
  mode_1 = record { time = refl; acknowledged = refl; told = refl; pc_after = refl; ief1_after = refl; ief2_after = refl; sp_after = refl; pushed = refl; mode_after = refl; r_after = refl; ei_after = refl };
  mode_2 = record { time = refl; acknowledged = refl; told = refl; pc_after = refl; ief1_after = refl; ief2_after = refl; sp_after = refl; pushed = refl; mode_after = refl; r_after = refl; ei_after = refl };
  mode_2_even = record { time = refl; acknowledged = refl; told = refl; pc_after = refl; ief1_after = refl; ief2_after = refl; sp_after = refl; pushed = refl; mode_after = refl; r_after = refl; ei_after = refl };
  int1 = record { time = refl; acknowledged = refl; told = refl; pc_after = refl; ief1_after = refl; ief2_after = refl; sp_after = refl; pushed = refl; mode_after = refl; r_after = refl; ei_after = refl };
  int1_mode_1 = record { time = refl; acknowledged = refl; told = refl; pc_after = refl; ief1_after = refl; ief2_after = refl; sp_after = refl; pushed = refl; mode_after = refl; r_after = refl; ei_after = refl };
  int2 = record { time = refl; acknowledged = refl; told = refl; pc_after = refl; ief1_after = refl; ief2_after = refl; sp_after = refl; pushed = refl; mode_after = refl; r_after = refl; ei_after = refl };
  passes_int0 = record { time = refl; acknowledged = refl; told = refl; pc_after = refl; ief1_after = refl; ief2_after = refl; sp_after = refl; pushed = refl; mode_after = refl; r_after = refl; ei_after = refl };
  passes_int1 = record { time = refl; acknowledged = refl; told = refl; pc_after = refl; ief1_after = refl; ief2_after = refl; sp_after = refl; pushed = refl; mode_after = refl; r_after = refl; ei_after = refl };
  halted_int0 = record { time = refl; acknowledged = refl; told = refl; pc_after = refl; ief1_after = refl; ief2_after = refl; sp_after = refl; pushed = refl; mode_after = refl; r_after = refl; ei_after = refl };
  asleep_int1 = record { time = refl; acknowledged = refl; told = refl; pc_after = refl; ief1_after = refl; ief2_after = refl; sp_after = refl; pushed = refl; mode_after = refl; r_after = refl; ei_after = refl };
  asleep_nmi = record { time = refl; acknowledged = refl; told = refl; pc_after = refl; ief1_after = refl; ief2_after = refl; sp_after = refl; pushed = refl; mode_after = refl; r_after = refl; ei_after = refl };
  ei_nmi = record { time = refl; acknowledged = refl; told = refl; pc_after = refl; ief1_after = refl; ief2_after = refl; sp_after = refl; pushed = refl; mode_after = refl; r_after = refl; ei_after = refl };
}

instead : Instead
instead = record {
  none_asked = record { time = refl; acknowledged = refl; pc_after = refl; mode_after = refl; r_after = refl };
  none_enabled = record { time = refl; acknowledged = refl; pc_after = refl; mode_after = refl; r_after = refl };
  ief1_down = record { time = refl; acknowledged = refl; pc_after = refl; mode_after = refl; r_after = refl };
  ei_before = record { time = refl; acknowledged = refl; pc_after = refl; mode_after = refl; r_after = refl };
  wakes_int0 = record { time = refl; acknowledged = refl; pc_after = refl; mode_after = refl; r_after = refl };
  wakes_int1 = record { time = refl; acknowledged = refl; pc_after = refl; mode_after = refl; r_after = refl };
  wakes_int2 = record { time = refl; acknowledged = refl; pc_after = refl; mode_after = refl; r_after = refl };
  halted = record { time = refl; acknowledged = refl; told = refl; pc_after = refl; mode_after = refl; r_after = refl };
  halted_masked = record { time = refl; acknowledged = refl; told = refl; pc_after = refl; mode_after = refl; r_after = refl };
  asleep = record { time = refl; acknowledged = refl; told = refl; pc_after = refl; mode_after = refl; r_after = refl };
  asleep_disabled = record { time = refl; acknowledged = refl; told = refl; pc_after = refl; mode_after = refl; r_after = refl };
  full_answer = refl;
  full_card = refl;
  jump_answer = refl;
  jump_card = refl;
  jump_panel = refl;
}

pub returns : goal.returns
returns c = record { entries = entries; instead = instead }
