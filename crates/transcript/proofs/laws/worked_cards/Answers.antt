use Rattle.std.proofs.Common.{refl}
use Rattle.std.specs.Fmt.{digits}
use Rattle.pagemap.specs.Crc.{crc_bits}
use Rattle.plot.specs.Lines.{record_line}
use Rattle.transcript.specs.Memory.{bytes_below, crc_text}
use Rattle.transcript.specs.Panels.{chain_text, script_text, sent_text}
use Rattle.transcript.specs.Registers.{alternate_text, main_text, pairs_text, ports_text, status_text}
use Rattle.transcript.proofs.laws.worked_cards.Goals as goal

pub returns : goal.returns
unfolding digits alternate_text bytes_below chain_text crc_bits crc_text main_text pairs_text ports_text record_line script_text sent_text status_text
returns c = record { registers = refl; chain = refl; script = refl; new_script_panel = refl; memory = refl; card = refl }
