-- What is printed of a panel. Assumes nothing.
use Rattle.std.specs.Prelude.{ℕ, List, ◌++◌, length, Some, None, Option, codes, decimal}
use Rattle.text.specs.Hexadecimal.{hex_byte, hex_word}
use Rattle.panel.specs.declared.sent.Sent.{Sent}
use Rattle.panel.specs.Chains as chains
use Rattle.panel.specs.Chains.{used}
use Rattle.panel.specs.Script as script
use Rattle.plot.specs.Lines.{line}
use Rattle.plot.specs.Listing.{chains_text}
use Rattle.transcript.specs.Registers.{bit_text}

-- How many of the usable records are used, key byte and latch; then every record, as the listing of a plot has it.
unfoldable pub chain_text : chains.State → List ℕ
chain_text s =
    codes "chain used=" ++ (decimal (used s.chain) ++ (codes " of=" ++ (decimal s.usable ++ (codes " key=" ++ (hex_byte s.key ++ (codes " latch=" ++ bit_text s.latch))))))

abbrev pub chain_panel_text : chains.State → List ℕ
chain_panel_text s = line (chain_text s) ++ chains_text s

-- A write, its port first; and the last one, if there was one.
unfoldable pub sent_text : Sent → List ℕ
sent_text w = hex_word w.port ++ (codes ":" ++ hex_byte w.byte)

abbrev pub last_text : Option Sent → List ℕ
last_text None = codes "none"
last_text (Some w) = sent_text w

-- How many bytes of the list are read, the states told, whether INT0 is acknowledged, and the last write.
unfoldable pub script_text : script.State → List ℕ
script_text s =
    codes "script read=" ++ (decimal s.place ++ (codes " of=" ++ (decimal (length s.bytes) ++ (codes " told=" ++ (decimal s.told ++ (codes " acknowledged=" ++ (bit_text s.acknowledged ++ (codes " last=" ++ last_text s.last_write))))))))

abbrev pub script_panel_text : script.State → List ℕ
script_panel_text s = line (script_text s)
