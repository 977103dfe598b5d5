-- The recording panel as a panel. Assumes nothing.
use Rattle.std.specs.Prelude.{false}
use Rattle.panel.specs.Panel.{Make}
use Rattle.check_vectors.specs.Accesses.{behind}
use Rattle.check_vectors.specs.declared.access.Access.{Access}
use Rattle.check_vectors.specs.declared.access.Access.TheVariants.{Read, Written}
use Rattle.check_vectors.specs.declared.recorder.Recorder.{Recorder}

abbrev pub with_access : Access → Recorder → Recorder
with_access next r = record { answer = r.answer; access = behind r.access next }

abbrev pub recording : Make Recorder
recording = record {
  full = λ _. false;
  asks = λ _ _. false;
  int0_byte = λ _. 255;
  answer = λ r _. r.answer;
  read = λ r port. with_access (Read port) r;
  written = λ r port byte. with_access (Written port byte) r;
  acknowledged = λ r _. r;
  told = λ r _. r;
}
