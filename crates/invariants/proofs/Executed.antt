-- The code at PC, an instruction or one that traps, is orderly from its first byte on. Assumes nothing.
use Rattle.std.proofs.Common.{ℕ, ◌≤◌, Bool, true, false, cond, T, ltb, leb, List, [], ◌∷◌, Some, None, Option, refl, arith, lit≤, le→leb, leb→le}
use Rattle.panel.specs.Panel.{Make}
use Rattle.registers.specs.declared.operand.Index.{Index}
use Rattle.registers.specs.Ports.{on_cpu}
use Rattle.registers.specs.Registers.{Processor, counted, up, with_pc, with_r}
use Rattle.instructions.specs.declared.instruction.Instruction.{Instruction}
use Rattle.instructions.specs.Length.{length}
use Rattle.decoder.specs.declared.page.First.{First}
use Rattle.decoder.specs.declared.page.First.TheVariants as first
use Rattle.decoder.specs.declared.page.Page.{Page}
use Rattle.decoder.specs.declared.page.Page.TheVariants as page
use Rattle.decoder.specs.declared.page.Second.{Second}
use Rattle.decoder.specs.declared.page.Second.TheVariants as second
use Rattle.decoder.specs.Cb as cb
use Rattle.decoder.specs.Ed as ed
use Rattle.decoder.specs.Indexed as indexed
use Rattle.decoder.specs.IndexedCb as indexed_cb
use Rattle.decoder.specs.Main as main
use Rattle.beginning.specs.declared.Beginning.{Beginning}
use Rattle.beginning.specs.declared.Beginning.TheVariants as code
use Rattle.beginning.specs.Beginning as beginning
use Rattle.cycles.specs.Play.{Began, World, after_cycle, byte_at, world}
use Rattle.cycles.specs.Tree.{Cycles}
use Rattle.processor.specs.Instruction as instruction
use Rattle.invariants.specs.Fetches.{bytes_in}
use Rattle.invariants.proofs.CbPages as cb_pages
use Rattle.invariants.proofs.EdPage as ed_page
use Rattle.invariants.proofs.Forms as forms
use Rattle.invariants.proofs.IndexedPage as indexed_page
use Rattle.invariants.proofs.Kept.{Keeps, Same, counted_bit, keeps, passed, same, then, then_keeps}
use Rattle.invariants.proofs.MainPage as main_page
use Rattle.invariants.proofs.Orderly.{Orderly, Room, weaken}

-- an opcode byte was read
abbrev pub opened : Processor → Processor
opened p = on_cpu (λ r. with_r (counted r.r) (with_pc (up r.pc 1) r)) p

-- the world then
abbrev behind_byte : {S : Type 0} → World S → World S
behind_byte v = world v.mem v.panel (after_cycle 3 v.tally)

opened_same : (p : Processor) → Same p.cpu (opened p).cpu
opened_same p = same (counted_bit p.cpu.r) refl refl

opened_twice : (p : Processor) → Same p.cpu (opened (opened p)).cpu
opened_twice p = then (opened_same p) (opened_same (opened p))

opened_thrice : (p : Processor) → Same p.cpu (opened (passed (opened (opened p)))).cpu
opened_thrice p = then (opened_twice p) (then (same refl refl refl) (opened_same (passed (opened (opened p)))))

abbrev pub four : ℕ → ℕ → ℕ → ℕ → List ℕ
four b0 b1 b2 b3 = b0 ∷ b1 ∷ b2 ∷ b3 ∷ []

-- bytes that are enough hold the instruction whole
whole_is : (P : Beginning → Type 0) (enough : Bool) (i : Instruction) → T enough → P (code.Instruction i) → P (cond enough (code.Instruction i) code.CutEnd)
whole_is P true i h x = x
whole_is P false i h x = absurd h

below : (k m n : ℕ) → k ≤ m → T (leb m n) → T (leb k n)
below k m n h t = let l = leb→le m n t in le→leb k n (omega arith)

module _ {S : Type 0} (make : Make S) (began : Began) (s : S) where
  -- what is asked of a tree from k code fetches on
  abbrev pub Goes : Option Beginning → Processor → ℕ → ℕ → Cycles Processor 2 → World S → Type 0
  Goes e p k at tree v = Orderly make began s (λ q. Keeps e p.cpu q.cpu) (bytes_in e) k at tree v

  pub from : (e : Option Beginning) (p q : Processor) (k at : ℕ) (tree : Cycles Processor 2) (v : World S) → Same p.cpu q.cpu → Goes e q k at tree v → Goes e p k at tree v
  from e p q k at tree v before h =
      weaken make began s (λ r. Keeps e q.cpu r.cpu) (λ r. Keeps e p.cpu r.cpu) (bytes_in e) k at tree v (λ r x. then_keeps before x) h

  carried : (i : Instruction) (k d : ℕ) (p q : Processor) (v : World S) → Same p.cpu q.cpu → Room make began s v → forms.Fits make began s k i → Goes (Some (code.Instruction i)) p k q.cpu.pc (instruction.carried_out i d q) v
  carried i k d p q v before room h =
      from (Some (code.Instruction i)) p q k q.cpu.pc (instruction.carried_out i d q) v before (h.works d q v room)

  -- one byte was read, and two, and all four behind DDH CBH or FDH CBH
  abbrev One : Beginning → Processor → Cycles Processor 2 → World S → Type 0
  One g p tree v = T (ltb 0 (bytes_in (Some g))) × Goes (Some g) p 1 (up p.cpu.pc 1) tree v

  abbrev Two : Beginning → Processor → Cycles Processor 2 → World S → Type 0
  Two g p tree v =
      T (ltb 0 (bytes_in (Some g))) × T (ltb 1 (bytes_in (Some g))) × Goes (Some g) p 2 (up (up p.cpu.pc 1) 1) tree v

  abbrev Four : Beginning → Processor → Cycles Processor 2 → World S → Type 0
  Four g p tree v =
      T (ltb 0 (bytes_in (Some g))) × T (ltb 1 (bytes_in (Some g))) × T (ltb 2 (bytes_in (Some g))) × T (ltb 3 (bytes_in (Some g)))
      × Goes (Some g) p 4 (up (up (up (up p.cpu.pc 1) 1) 1) 1) tree v

  two : (i : Instruction) (b0 b1 b2 b3 : ℕ) (p : Processor) (v : World S) → Room make began s v → forms.Fits make began s 2 i → Two (beginning.whole (four b0 b1 b2 b3) i) p (instruction.carried_out i 0 (opened (opened p))) v
  two i b0 b1 b2 b3 p v room h =
      whole_is (λ g. Two g p (instruction.carried_out i 0 (opened (opened p))) v) (leb (length i) 4) i h.most
      (below 1 2 (length i) (lit≤ tt) h.least, h.least, carried i 2 0 p (opened (opened p)) v (opened_twice p) room h)

  or_two : (o : Option Instruction) (b0 b1 b2 b3 address : ℕ) (p : Processor) (v : World S) → Room make began s v → forms.OptionFits make began s 2 o → Two (beginning.whole_or code.UndefinedSecond (four b0 b1 b2 b3) o) p (instruction.or_trap o 0 0 address (opened (opened p))) v
  or_two (Some i) b0 b1 b2 b3 address p v room h = two i b0 b1 b2 b3 p v room h.is
  or_two None b0 b1 b2 b3 address p v room h = (tt, tt, keeps (then (opened_twice p) (same refl refl refl)))

  or_four : (o : Option Instruction) (b0 b1 b2 b3 d address : ℕ) (p : Processor) (v : World S) → Room make began s v → forms.OptionFits make began s 4 o → Four (beginning.whole_or code.UndefinedThird (four b0 b1 b2 b3) o) p (instruction.or_trap o d 1 address (opened (passed (opened (opened p))))) v
  or_four (Some i) b0 b1 b2 b3 d address p v room h =
      let least = h.is.least in
      whole_is (λ g. Four g p (instruction.carried_out i d (opened (passed (opened (opened p))))) v) (leb (length i) 4) i h.is.most
      (below 1 4 (length i) (lit≤ tt) least, below 2 4 (length i) (lit≤ tt) least, below 3 4 (length i) (lit≤ tt) least, least, carried i 4 d p (opened (passed (opened (opened p)))) v (opened_thrice p) room h.is)
  or_four None b0 b1 b2 b3 d address p v room h = (tt, tt, tt, tt, keeps (then (opened_thrice p) (same refl refl refl)))

  -- behind DDH or FDH
  index_two : (f : Second) (i : Index) (b0 b1 b2 : ℕ) (p : Processor) (v : World S) → Room make began s v → forms.SecondFits make began s f → Two (beginning.behind_index i (four b0 b1 b2 (byte_at began (up (up (up p.cpu.pc 1) 1) 1) v)) f) p (instruction.behind_index f i p.cpu.pc (opened (opened p))) v
  index_two (second.Instruction form) i b0 b1 b2 p v room h = two form b0 b1 b2 (byte_at began (up (up (up p.cpu.pc 1) 1) 1) v) p v room h.is
  index_two second.BitsPrefix i b0 b1 b2 p v room h =
      let b3 = byte_at began (up (up (up p.cpu.pc 1) 1) 1) v in
      let d = byte_at began (up (up p.cpu.pc 1) 1) v in
      let k = or_four (indexed_cb.decoded i b3) b0 b1 b2 b3 d (up p.cpu.pc 2) p (behind_byte (behind_byte v)) room (cb_pages.indexed_page make began s i b3) in
      (k.0, k.1, (k.2, refl, (k.3, refl, k.4)))
  index_two second.Undefined i b0 b1 b2 p v room h = (tt, tt, keeps (then (opened_twice p) (same refl refl refl)))

  -- behind a first byte that leads to a page
  page_one : (x : Page) (b0 b2 : ℕ) (p : Processor) (v : World S) → Room make began s v → One (beginning.behind x (four b0 (byte_at began (up p.cpu.pc 1) v) b2 (byte_at began (up (up (up p.cpu.pc 1) 1) 1) v)) (byte_at began (up p.cpu.pc 1) v)) p (instruction.on_page x p.cpu.pc (opened p)) v
  page_one page.Bits b0 b2 p v room =
      let b = byte_at began (up p.cpu.pc 1) v in
      let k = or_two (cb.decoded b) b0 b b2 (byte_at began (up (up (up p.cpu.pc 1) 1) 1) v) (up p.cpu.pc 1) p (behind_byte v) room (cb_pages.page make began s b) in
      (k.0, (k.1, refl, k.2))
  page_one page.Extended b0 b2 p v room =
      let b = byte_at began (up p.cpu.pc 1) v in
      let k = or_two (ed.decoded b) b0 b b2 (byte_at began (up (up (up p.cpu.pc 1) 1) 1) v) (up p.cpu.pc 1) p (behind_byte v) room (ed_page.page make began s b) in
      (k.0, (k.1, refl, k.2))
  page_one (page.Indexed i) b0 b2 p v room =
      let b = byte_at began (up p.cpu.pc 1) v in
      let k = index_two (indexed.decoded i b) i b0 b b2 p (behind_byte v) room (indexed_page.page make began s i b) in
      (k.0, (k.1, refl, k.2))

  first_one : (f : First) (b0 b2 : ℕ) (p : Processor) (v : World S) → Room make began s v → forms.FirstFits make began s f → One (beginning.from_first (four b0 (byte_at began (up p.cpu.pc 1) v) b2 (byte_at began (up (up (up p.cpu.pc 1) 1) 1) v)) f) p (instruction.behind_first f p.cpu.pc (opened p)) v
  first_one (first.Instruction i) b0 b2 p v room h =
      whole_is (λ g. One g p (instruction.carried_out i 0 (opened p)) v) (leb (length i) 4) i h.is.most
      (h.is.least, carried i 1 0 p (opened p) v (opened_same p) room h.is)
  first_one (first.Prefix x) b0 b2 p v room h = page_one x b0 b2 p v room

  -- the bytes from PC on
  abbrev pub code_from : Processor → World S → ℕ → List ℕ
  code_from p v last =
      four (byte_at began p.cpu.pc v) (byte_at began (up p.cpu.pc 1) v) (byte_at began (up p.cpu.pc 2) v) (byte_at began last v)

  pub executed_goes : (p : Processor) (v : World S) → Room make began s v → Goes (Some (beginning.beginning (code_from p v (up (up (up p.cpu.pc 1) 1) 1)))) p 0 p.cpu.pc (instruction.executed p) v
  executed_goes p v room =
      let b = byte_at began p.cpu.pc v in
      let k = first_one (main.decoded b) b (byte_at began (up p.cpu.pc 2) v) p (behind_byte v) room (main_page.page make began s b) in
      (k.0, refl, k.1)
