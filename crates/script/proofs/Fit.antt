-- That the puts of a script's boards fit, kept from line to line. Assumes nothing.
use Rattle.std.proofs.Common.{◌≡◌, ℕ, ◌+◌, Bool, true, false, cond, ◌&&◌, ◌||◌, List, [], ◌∷◌, ◌++◌, Some, None, Ok, Err, Option, Result, is_some, unwrap_or, refl, sym, ap, subst, ◌∙◌}
use Rattle.command.specs.declared.wrong.Wrong as line
use Rattle.command.specs.Commands.{command_of}
use Rattle.command.specs.Said.{Said}
use Rattle.command.specs.Said as said
use Rattle.script.specs.declared.entry.Entry.{Entry}
use Rattle.script.specs.declared.wrong.BadLine.{BadLine}
use Rattle.script.specs.declared.wrong.Wrong.{Wrong}
use Rattle.script.specs.declared.wrong.Wrong.TheVariants.{RomTwice, RamTwice, LengthLate, SecondTwice, Outside, NoMake}
use Rattle.script.specs.Puts.{Put, bytes, fill, image, fits}
use Rattle.script.specs.Boards.{Boards, lengths_settled, no_boards, put_said, ram_bytes, ram_said, rom_bytes, rom_said, second_said, with_put}
use Rattle.script.specs.Panels.{Plan, chain, panel_said, key_said, latch_said}
use Rattle.script.specs.Panels as panels
use Rattle.script.specs.Setup.{Setup, in_boards, in_plan, put_at, set_up}
use Rattle.script.specs.Entries.{entry_of}
use Rattle.script.specs.Script.{Draft, Script, before_make, finished, in_log, in_setup, line_taken, lines_of, lines_taken, nothing_said, script, script_of, taken}
use Rattle.script.specs.Fitting.{all_fit, puts_behind}

pub record Fit (b : Boards) : Type 0 where
  pub first : all_fit (rom_bytes b + ram_bytes b) b.puts ≡ true
  pub second : all_fit (rom_bytes b + ram_bytes b) (puts_behind b.second) ≡ true

along : (b c : Boards) → b ≡ c → Fit b → Fit c
along b c e f = subst Fit e f

-- before a put, any lengths do
unsettled : (b : Boards) (puts : List Put) (second : Option (List Put)) → puts ≡ b.puts → second ≡ b.second → lengths_settled b ≡ false → Fit b
unsettled b puts second p s h = start puts second p s (ap (λ (q : List Put). is_some second || elim q [ [] ↦ false | put ∷ more ↦ true ]) p ∙ ap (λ (o : Option (List Put)). is_some o || elim b.puts [ [] ↦ false | put ∷ more ↦ true ]) s ∙ h)
  where
    start : (puts : List Put) (second : Option (List Put)) → puts ≡ b.puts → second ≡ b.second → (is_some second || elim puts [ [] ↦ false | put ∷ more ↦ true ]) ≡ false → Fit b
    start [] None p s h = record {
      first = ap (all_fit (rom_bytes b + ram_bytes b)) (sym p);
      second = ap (λ (o : Option (List Put)). all_fit (rom_bytes b + ram_bytes b) (puts_behind o)) (sym s);
    }
    start (put ∷ puts) None p s h = cc
    start puts (Some more) p s h = cc

length_said : (t u : Bool) (once : Wrong) (b c : Boards) → cond t (Err once) (cond u (Err LengthLate) (Ok b)) ≡ Ok c → (u ≡ false) × (b ≡ c)
length_said true u once b c h = cc
length_said false true once b c h = cc
length_said false false once b c h = (refl, cc)

rom_fits : (b c : Boards) (n : ℕ) → rom_said b n ≡ Ok c → Fit c
rom_fits b c n h =
    let b′ : Boards = record b { rom = Some n } in
    let said = length_said (is_some b.rom) (lengths_settled b) RomTwice b′ c h in
    along b′ c said.1 (unsettled b′ b.puts b.second refl refl said.0)

ram_fits : (b c : Boards) (n : ℕ) → ram_said b n ≡ Ok c → Fit c
ram_fits b c n h =
    let b′ : Boards = record b { ram = Some n } in
    let said = length_said (is_some b.ram) (lengths_settled b) RamTwice b′ c h in
    along b′ c said.1 (unsettled b′ b.puts b.second refl refl said.0)

one_more : (board : ℕ) (puts : List Put) (put : Put) → all_fit board puts ≡ true → fits board put.at put.what ≡ true → all_fit board (puts ++ put ∷ []) ≡ true
one_more board [] put all one = ap (λ b. b && true) one
one_more board (p ∷ puts) put all one = both (fits board p.at p.what) all (λ more. one_more board puts put more one)
  where
    both : (b : Bool) → (b && all_fit board puts) ≡ true → (all_fit board puts ≡ true → all_fit board (puts ++ put ∷ []) ≡ true) → (b && all_fit board (puts ++ put ∷ [])) ≡ true
    both true all more = more all
    both false all more = cc

abbrev these : Option ℕ → Option ℕ → List Put → Option (List Put) → Boards
these rom ram puts second = record { rom = rom; ram = ram; puts = puts; second = second }

put_in : (rom ram : Option ℕ) (puts : List Put) (second : Option (List Put)) (put : Put) → Fit (these rom ram puts second) → fits (unwrap_or rom 0 + unwrap_or ram 65536) put.at put.what ≡ true → Fit (with_put (these rom ram puts second) put)
put_in rom ram puts None put f one = record { first = one_more (unwrap_or rom 0 + unwrap_or ram 65536) puts put f.first one; second = refl }
put_in rom ram puts (Some more) put f one = record { first = f.first; second = one_more (unwrap_or rom 0 + unwrap_or ram 65536) more put f.second one }

put_fits : (b c : Boards) (put : Put) → Fit b → put_said b put ≡ Ok c → Fit c
put_fits b c put f h = way (fits (rom_bytes b + ram_bytes b) put.at put.what) refl h
  where
    way : (t : Bool) → fits (rom_bytes b + ram_bytes b) put.at put.what ≡ t → cond t (Ok (with_put b put)) (Err Outside) ≡ Ok c → Fit c
    way true e h = let same : with_put b put ≡ c = cc in along (with_put b put) c same (put_in b.rom b.ram b.puts b.second put f e)
    way false e h = cc

second_fits : (b c : Boards) → Fit b → second_said b ≡ Ok c → Fit c
second_fits b c f h = way (is_some b.second) h
  where
    way : (t : Bool) → cond t (Err SecondTwice) (Ok (record b { second = Some [] })) ≡ Ok c → Fit c
    way true h = cc
    way false h = let same : record b { second = Some [] } ≡ c = cc in along (record b { second = Some [] }) c same (record { first = f.first; second = refl })

boards_fit : (s t : Setup) (r : Result Boards Wrong) → ((b : Boards) → r ≡ Ok b → Fit b) → in_boards s r ≡ Ok t → Fit t.boards
boards_fit s t (Ok b) f h = let same : record s { boards = b } ≡ t = cc in along b t.boards (ap (λ (u : Setup). u.boards) same) (f b refl)
boards_fit s t (Err w) f h = cc

plan_fits : (s t : Setup) (r : Result Plan Wrong) → Fit s.boards → in_plan s r ≡ Ok t → Fit t.boards
plan_fits s t (Ok p) f h = let same : record s { plan = p } ≡ t = cc in along s.boards t.boards (ap (λ (u : Setup). u.boards) same) f
plan_fits s t (Err w) f h = cc

same_fits : (s t u : Setup) → s.boards ≡ t.boards → Fit s.boards → ◌≡◌ {A = Result Setup Wrong} (Ok t) (Ok u) → Fit u.boards
same_fits s t u e f h = let same : t ≡ u = cc in along s.boards u.boards (e ∙ ap (λ (v : Setup). v.boards) same) f

setup_fits : (line : ℕ) (s t : Setup) (c : Said) → Fit s.boards → set_up line s c ≡ Ok t → Fit t.boards
setup_fits line s t (said.rom n) f h = boards_fit s t (rom_said s.boards n) (λ b e. rom_fits s.boards b n e) h
setup_fits line s t (said.ram n) f h = boards_fit s t (ram_said s.boards n) (λ b e. ram_fits s.boards b n e) h
setup_fits line s t (said.bytes at bs) f h = boards_fit s t (put_said s.boards (put_at line at (bytes bs))) (λ b e. put_fits s.boards b (put_at line at (bytes bs)) f e) h
setup_fits line s t (said.fill at n b) f h = boards_fit s t (put_said s.boards (put_at line at (fill n b))) (λ c e. put_fits s.boards c (put_at line at (fill n b)) f e) h
setup_fits line s t (said.image at name) f h = boards_fit s t (put_said s.boards (put_at line at (image name))) (λ b e. put_fits s.boards b (put_at line at (image name)) f e) h
setup_fits line s t said.second f h = boards_fit s t (second_said s.boards) (λ b e. second_fits s.boards b f e) h
setup_fits line s t (said.protect pages) f h = same_fits s (record s { protect = s.protect ++ pages }) t refl f h
setup_fits line s t (said.patch entries) f h = same_fits s (record s { patch = s.patch ++ entries }) t refl f h
setup_fits line s t (said.chain records) f h = plan_fits s t (panel_said s.plan (chain records 0 false)) f h
setup_fits line s t (said.script byte states reads) f h = plan_fits s t (panel_said s.plan (panels.script byte states reads)) f h
setup_fits line s t (said.key byte) f h = plan_fits s t (key_said s.plan byte) f h
setup_fits line s t said.latch f h = plan_fits s t (latch_said s.plan) f h
setup_fits line s t said.make f h = cc
setup_fits line s t (said.step n) f h = cc
setup_fits line s t (said.run budget n) f h = cc
setup_fits line s t said.reset f h = cc
setup_fits line s t (said.look w at n) f h = cc
setup_fits line s t said.show f h = cc

in_setup_fits : (d e : Draft) (r : Result Setup Wrong) → ((s : Setup) → r ≡ Ok s → Fit s.boards) → in_setup d r ≡ Ok e → Fit e.setup.boards
in_setup_fits d e (Ok s) f h = let same : record d { setup = s } ≡ e = cc in along s.boards e.setup.boards (ap (λ (x : Draft). x.setup.boards) same) (f s refl)
in_setup_fits d e (Err w) f h = cc

before_fits : (line : ℕ) (d e : Draft) (c : Said) → Fit d.setup.boards → before_make line d c ≡ Ok e → Fit e.setup.boards
before_fits line d e said.make f h = let same : record d { log = Some [] } ≡ e = cc in along d.setup.boards e.setup.boards (ap (λ (x : Draft). x.setup.boards) same) f
before_fits line d e c f h = in_setup_fits d e (set_up line d.setup c) (λ s q. setup_fits line d.setup s c f q) h

noted_fits : (d e : Draft) (log : List Entry) (r : Result Entry Wrong) → Fit d.setup.boards → in_log d log r ≡ Ok e → Fit e.setup.boards
noted_fits d e log (Ok entry) f h = let same : record d { log = Some (log ++ entry ∷ []) } ≡ e = cc in along d.setup.boards e.setup.boards (ap (λ (x : Draft). x.setup.boards) same) f
noted_fits d e log (Err w) f h = cc

taken_fits : (line : ℕ) (d e : Draft) (c : Said) → Fit d.setup.boards → taken line d c ≡ Ok e → Fit e.setup.boards
taken_fits line d e c f h = way d.log h
  where
    way : (o : Option (List Entry)) → ◌≡◌ {A = Result Draft Wrong} (elim o [ Some log ↦ in_log d log (entry_of c) | None ↦ before_make line d c ]) (Ok e) → Fit e.setup.boards
    way (Some log) h = noted_fits d e log (entry_of c) f h
    way None h = before_fits line d e c f h

line_fits : (number : ℕ) (d e : Draft) (r : Result (Option Said) line.Wrong) → Fit d.setup.boards → line_taken number d r ≡ Ok e → Fit e.setup.boards
line_fits number d e (Ok (Some c)) f h = taken_fits number d e c f h
line_fits number d e (Ok None) f h = let same : d ≡ e = cc in along d.setup.boards e.setup.boards (ap (λ (x : Draft). x.setup.boards) same) f
line_fits number d e (Err w) f h = cc

abbrev PutsOf : Script → Type 0
PutsOf s = (all_fit (s.rom + s.ram) s.puts ≡ true) × (all_fit (s.rom + s.ram) (puts_behind s.second) ≡ true)

finished_fits : (number : ℕ) (d : Draft) (s : Script) → Fit d.setup.boards → finished number d ≡ Ok s → PutsOf s
finished_fits number d s f h = way d.log h
  where
    way : (o : Option (List Entry)) → ◌≡◌ {A = Result Script BadLine} (elim o [ Some log ↦ Ok (script d.setup log) | None ↦ Err (record { line = number; wrong = NoMake }) ]) (Ok s) → PutsOf s
    way (Some log) h = let same : script d.setup log ≡ s = cc in subst PutsOf same (f.first, f.second)
    way None h = cc

lines_fit : (number : ℕ) (r : Result Draft Wrong) (lines : List (List ℕ)) (s : Script) → ((d : Draft) → r ≡ Ok d → Fit d.setup.boards) → lines_taken number r lines ≡ Ok s → PutsOf s
lines_fit number (Err w) lines s f h = cc
lines_fit number (Ok d) [] s f h = finished_fits (number + 1) d s (f d refl) h
lines_fit number (Ok d) (line ∷ more) s f h = lines_fit (number + 1) (line_taken (number + 1) d (command_of line)) more s (λ e q. line_fits (number + 1) d e (command_of line) (f d refl) q) h

pub puts_fit : (text : List ℕ) (s : Script) → script_of text ≡ Ok s → PutsOf s
puts_fit text s h = lines_fit 0 (Ok nothing_said) (lines_of text) s (λ d e. let same : nothing_said ≡ d = cc in along no_boards d.setup.boards (ap (λ (x : Draft). x.setup.boards) same) (record { first = refl; second = refl })) h
