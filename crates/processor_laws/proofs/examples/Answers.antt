use Rattle.std.proofs.Common.{refl}
use Rattle.processor_laws.proofs.examples.Goals as goal

pub returns : goal.returns
returns c = record {
  loads = record { from_memory = refl; from_memory_pointers = refl; to_indexed = refl; to_indexed_pointers = refl; to_indexed_byte = refl; word_to_address = refl; word_to_address_pointers = refl; word_to_address_byte_1 = refl; word_to_address_byte_2 = refl; refresh = refl; refresh_pointers = refl; refresh_count = refl; stack_pointer = refl; stack_pointer_pointers = refl; to_refresh = refl; to_refresh_count = refl };
  exchanges = record { push = refl; push_pointers = refl; push_byte_1 = refl; push_byte_2 = refl; pop = refl; pop_pointers = refl; pop_count = refl; stack_top = refl; stack_top_pointers = refl; stack_top_byte_1 = refl; stack_top_byte_2 = refl; de_and_hl = refl; de_and_hl_pointers = refl; push_index = refl; push_index_pointers = refl; push_index_byte_1 = refl; push_index_byte_2 = refl; stack_index = refl; stack_index_pointers = refl; stack_index_byte_1 = refl; stack_index_byte_2 = refl };
  calculations = record { with_carry = refl; with_carry_pointers = refl; words = refl; words_pointers = refl; product = refl; product_pointers = refl; increment = refl; increment_pointers = refl; increment_byte = refl; index = refl; index_pointers = refl; negation = refl; negation_pointers = refl; comparison = refl; comparison_pointers = refl; stack_down = refl; stack_down_pointers = refl };
  rotations = record { accumulator = refl; accumulator_pointers = refl; indexed = refl; indexed_pointers = refl; indexed_byte = refl; indexed_count = refl; digits_left = refl; digits_left_pointers = refl; digits_left_byte = refl; digits_right = refl; digits_right_pointers = refl; digits_right_byte = refl; shift = refl; shift_pointers = refl };
  single_bits = record { test = refl; test_pointers = refl; test_byte = refl; reset = refl; reset_pointers = refl; set = refl; set_pointers = refl; set_byte = refl; test_indexed = refl; test_indexed_pointers = refl; test_indexed_byte = refl };
  jumps = record { back = refl; back_pointers = refl; not_taken = refl; not_taken_pointers = refl; taken = refl; taken_pointers = refl; count = refl; count_pointers = refl; to_index = refl; to_index_pointers = refl; if_carry = refl; if_carry_pointers = refl; jr_not_taken = refl; jr_not_taken_pointers = refl; djnz_ended = refl; djnz_ended_pointers = refl };
  calls = record { call = refl; call_pointers = refl; call_byte_1 = refl; call_byte_2 = refl; not_called = refl; not_called_pointers = refl; not_called_byte = refl; return_if = refl; return_if_pointers = refl; from_nmi = refl; from_nmi_pointers = refl; from_nmi_ief1 = refl; from_nmi_ief2 = refl; from_interrupt = refl; from_interrupt_pointers = refl; from_interrupt_ief1 = refl; restart = refl; restart_pointers = refl; restart_byte_1 = refl; restart_byte_2 = refl; call_taken = refl; call_taken_pointers = refl; call_taken_byte_1 = refl; call_taken_byte_2 = refl; ret_not_taken = refl; ret_not_taken_pointers = refl };
  blocks = record { repeated = refl; repeated_pointers = refl; repeated_byte = refl; down = refl; down_pointers = refl; down_byte = refl; found = refl; found_pointers = refl; found_time = refl; not_found = refl; not_found_pointers = refl; not_found_time = refl; compared = refl; compared_pointers = refl; ldir_ended = refl; ldir_ended_pointers = refl; ldir_ended_byte = refl; lddr_repeated = refl; lddr_repeated_pointers = refl; lddr_repeated_byte = refl; lddr_ended = refl; lddr_ended_pointers = refl; lddr_ended_byte = refl; cpir_repeated = refl; cpir_repeated_pointers = refl; cpdr_ended = refl; cpdr_ended_pointers = refl; cpdr_found = refl; cpdr_found_pointers = refl };
  ports = record { into_memory = refl; into_memory_pointers = refl; into_memory_byte = refl; downward = refl; downward_pointers = refl; downward_panel = refl; own = refl; own_pointers = refl; own_panel = refl; own_list = refl; window = refl; window_pointers = refl; window_after = refl; window_panel = refl; by_pair = refl; by_pair_pointers = refl; by_pair_panel = refl; tested = refl; tested_pointers = refl; tested_panel = refl; tested_list = refl; accumulator = refl; accumulator_pointers = refl; repeated = refl; repeated_pointers = refl; repeated_panel = refl; inir_repeated = refl; inir_repeated_pointers = refl; inir_repeated_byte = refl; inir_ended = refl; inir_ended_pointers = refl; inir_ended_byte = refl; indr_repeated = refl; indr_repeated_pointers = refl; indr_repeated_byte = refl; indr_ended = refl; indr_ended_pointers = refl; indr_ended_byte = refl; otir_repeated = refl; otir_repeated_pointers = refl; otir_repeated_panel = refl; otdr_repeated = refl; otdr_repeated_pointers = refl; otdr_repeated_panel = refl; otdr_ended = refl; otdr_ended_pointers = refl; otdr_ended_panel = refl; otimr_repeated = refl; otimr_repeated_pointers = refl; otimr_repeated_panel = refl; otimr_ended = refl; otimr_ended_pointers = refl; otimr_ended_panel = refl; otdmr_ended = refl; otdmr_ended_pointers = refl; otdmr_ended_panel = refl };
  controls = record { adjusted = refl; adjusted_pointers = refl; carry = refl; carry_pointers = refl; complement = refl; complement_pointers = refl; enabled = refl; enabled_pointers = refl; enabled_ief1 = refl; enabled_ief2 = refl; enabled_ei = refl; halted = refl; halted_pointers = refl; halted_mode = refl; asleep = refl; asleep_pointers = refl; asleep_mode = refl; mode = refl; mode_pointers = refl; mode_after = refl };
}
