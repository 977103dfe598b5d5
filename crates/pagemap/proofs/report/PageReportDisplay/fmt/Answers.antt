use Rattle.std.proofs.Common.{◌*◌, ap, ◌∙◌, Some, true, arith}
use Rattle.std.specs.Fmt.{digits, padded}
use Rattle.text.proofs.Written.{address_hole, byte_hole, digit_written, long_hole, right_written}
use Rattle.registers.specs.Window as window
use Rattle.pagemap.specs.Lines.{page_line}
use Rattle.pagemap.proofs.Areas.{area_laid}
use Rattle.pagemap.proofs.report.PageReportDisplay.fmt.Goals as goal

pub returns-clause-writes : goal.returns-clause-writes
unfolding page_line
returns-clause-writes g c =
    let r = c.args.self.now in
    let page = c.in_radix.ensures ∙ ap Some (digit_written r.page) in
    let shown = byte_hole c.in_radix-2.result c.laid_out-2.result r.shown c.in_radix-2.ensures c.laid_out-2.ensures (omega arith) in
    let address = address_hole c.in_radix-3.result c.laid_out-3.result (r.shown * 4096) (c.in_radix-3.ensures ∙ ap (λ page. Some (digits 16 true (page * 4096))) c.from.ensures) c.laid_out-3.ensures (omega arith) in
    let present = right_written r.present (omega arith) in
    let crc = long_hole c.in_radix-4.result c.laid_out-5.result r.crc c.in_radix-4.ensures c.laid_out-5.ensures (omega arith) in
    let area = ap (λ spec. padded spec (window.area_name r.area)) c.laid_out.ensures ∙ area_laid r.area in
    simp (area, page, shown, address, c.laid_out-4.ensures, present, crc) at c.write.ensures.writes
