-- The lines of the listing. Assumes nothing.
use Rattle.std.specs.Prelude.{ℕ, ◌*◌, Bool, cond, List, [], ◌∷◌, ◌++◌, codes, decimal}
use Rattle.text.specs.Columns.{right_4}
use Rattle.text.specs.Hexadecimal.{hex_address, hex_byte, hex_digit, hex_long}
use Rattle.memory.specs.Memory.{Mem}
use Rattle.registers.specs.declared.window.Area.{Area}
use Rattle.registers.specs.declared.window.Area.TheVariants.{Common0, Bank, Common1}
use Rattle.registers.specs.declared.window.Window.{Window}
use Rattle.registers.specs.Window.{area_of, shown_page}
use Rattle.pagemap.specs.declared.report.PageReport.{PageReport}
use Rattle.pagemap.specs.Crc.{crc_32}
use Rattle.pagemap.specs.Pages.{bytes_through, present}

-- What is told of the logical page p, of a memory in which so many bytes are present.
abbrev pub page_report : Mem → ℕ → Window → ℕ → PageReport
page_report m bytes w p = record {
  page = p;
  area = area_of w p;
  shown = shown_page w p;
  present = present bytes (shown_page w p);
  crc = crc_32 (bytes_through m w (p * 4096) 4096);
}

-- The line feed behind each line.
abbrev pub line : List ℕ → List ℕ
line text = text ++ (10 ∷ [])

-- Before the pages: the image's length, the window, the columns' names.
unfoldable pub head_text : ℕ → Window → List ℕ
head_text bytes w =
    codes "image   " ++ (decimal bytes ++ (codes " bytes\nwindow  CBAR " ++ (hex_byte w.cbar ++ (codes "  CBR " ++ (hex_byte w.cbr ++ (codes "  BBR " ++ (hex_byte w.bbr ++ codes "\npage  area           shows  address  bytes  crc-32\n")))))))

-- An area's name, in a column of thirteen.
abbrev pub area_name : Area → List ℕ
area_name Common0 = codes "common area 0"
area_name Bank = codes "bank area    "
area_name Common1 = codes "common area 1"

-- The line of a page, under those names.
unfoldable pub page_line : PageReport → List ℕ
page_line r =
    codes "   " ++ ((hex_digit r.page ∷ []) ++ (codes "  " ++ (area_name r.area ++ (codes "     " ++ (hex_byte r.shown ++ (codes "    " ++ (hex_address (r.shown * 4096) ++ (codes "   " ++ (right_4 r.present ++ (codes "  " ++ hex_long r.crc))))))))))

-- A physical page behind a blank, if a set of pages holds it.
abbrev pub if_held : Bool → ℕ → List ℕ
if_held held q = cond held (32 ∷ hex_byte q) []
