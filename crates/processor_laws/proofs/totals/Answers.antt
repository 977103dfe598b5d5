use Rattle.std.proofs.Common.{refl}
use Rattle.processor_laws.proofs.totals.Goals as goal

pub returns : goal.returns
returns c = record {
  main_page = record { not_taken = refl; taken = refl };
  ed_page = record { ending = refl; repeating = refl };
  others = record { cb = refl; dd = refl; fd = refl; dd_cb = refl; fd_cb = refl };
  pages = record { main_page = refl; cb_page = refl; ed_page = refl; indexed_page = refl; indexed_cb_page = refl; all = refl };
}
