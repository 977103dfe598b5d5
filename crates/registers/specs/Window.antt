-- How the window shows sixteen of the 128 physical pages of 4,096 bytes. Assumes nothing.
use Rattle.std.specs.Prelude.{◌≡◌, ℕ, zero, suc, ◌+◌, ◌*◌, ◌/◌, ◌%◌, ◌<◌, Bool, true, false, cond, ◌||◌, ◌==◌, nat_le, List, codes}
use Rattle.registers.specs.declared.window.Area.{Area}
use Rattle.registers.specs.declared.window.Area.TheVariants.{Common0, Bank, Common1}
use Rattle.registers.specs.declared.window.Window.{Window}

-- CA, where common area 1 begins, and BA, where the bank area begins, are the two halves of CBAR.
abbrev pub ca : Window → ℕ
ca w = w.cbar / 16

abbrev pub ba : Window → ℕ
ba w = w.cbar % 16

-- The area that the logical page p lies in: common area 1 has the first claim.
abbrev pub area_of : Window → ℕ → Area
area_of w p = cond (nat_le (ca w) p) Common1 (cond (nat_le (ba w) p) Bank Common0)

-- An area's name.
abbrev pub area_name : Area → List ℕ
area_name Common0 = codes "common area 0"
area_name Bank = codes "bank area"
area_name Common1 = codes "common area 1"

-- The base that an area adds to the page.
abbrev pub base_of : Window → Area → ℕ
base_of w Common0 = 0
base_of w Bank = w.bbr
base_of w Common1 = w.cbr

-- The physical page that the logical page p shows.
abbrev pub shown_page : Window → ℕ → ℕ
shown_page w p = (p + base_of w (area_of w p)) % 128

-- The logical page of an address: its top four bits.
abbrev pub logical_page : ℕ → ℕ
logical_page a = a / 4096 % 16

-- The physical page of a physical address.
abbrev pub page_of : ℕ → ℕ
page_of x = x / 4096

-- The physical address of a logical one: the page is mapped, the low twelve bits are kept.
abbrev pub physical_of : Window → ℕ → ℕ
physical_of w a = shown_page w (logical_page a) * 4096 + a % 4096

-- The window opens on the physical page q: one of the sixteen logical pages shows it.
abbrev pub OpensOn : Window → ℕ → Type 0
OpensOn w q = (p : ℕ) × (p < 16) × (q ≡ shown_page w p)

-- The same as a test; n is how many logical pages are tried, from 0 on.
abbrev pub shown_among : Window → ℕ → ℕ → Bool
shown_among w zero q = false
shown_among w (suc n) q = shown_among w n q || shown_page w n == q

unfoldable pub opens_on : Window → ℕ → Bool
opens_on w q = shown_among w 16 q

-- The test says just what it should, and a translated address lies in a page that the window opens on.
pub record WindowLaws : Type 0 where
  pub exactly : (w : Window) (q : ℕ) → opens_on w q ≡ true → OpensOn w q
  pub always : (w : Window) (p : ℕ) → p < 16 → opens_on w (shown_page w p) ≡ true
  pub translated : (w : Window) (a : ℕ) → OpensOn w (page_of (physical_of w a))
  pub within : (w : Window) (a : ℕ) → physical_of w a < 524288

-- The two windows of the worked numbers: CBAR 84H, CBR 7CH and BBR 20H; CBAR 48H.
abbrev pub window_84 : Window
window_84 = record { cbar = 0x84; cbr = 0x7C; bbr = 0x20 }

abbrev pub window_48 : Window
window_48 = record { cbar = 0x48; cbr = 0; bbr = 0 }
