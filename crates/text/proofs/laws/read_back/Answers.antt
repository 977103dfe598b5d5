use Rattle.text.proofs.Readings.{byte_back, decimal_back, long_back, word_back}
use Rattle.text.proofs.Splitting.{reread}
use Rattle.text.proofs.laws.read_back.Goals as goal

pub returns : goal.returns
returns c = record { byte = byte_back; word = word_back; long = long_back; plain = decimal_back; words = reread }
