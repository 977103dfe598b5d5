-- The state of a chain panel's value, its table as a list, and its making. Assumes nothing.
use Rattle.std.specs.Prelude.{◌-◌, cond, ◌&&◌, List, length, Ok, Err, vec_items, Result, nat_le}
use Rattle.std.specs.Global.{Vec}
use Rattle.denial.specs.Denials.{Told, numbered, told}
use Rattle.panel.specs.declared.record.Record.{Record}
use Rattle.panel.specs.declared.chain.Chain.{Chain}
use Rattle.denial.specs.declared.unmade.Unmade.{Unmade}
use Rattle.panel.specs.Chains.{State, new_chain}
use Rattle.panel.specs.Links.{chains_in, firsts_of}

-- The table, record 0 and the unused records too.
abbrev pub table_of : Chain → List Record
table_of p = vec_items p.table

abbrev pub chain_state : Chain → State
chain_state p = record { chain = chains_in (table_of p) (firsts_of p.spans); usable = length (table_of p) - 1; key = p.key; latch = p.latch }

-- What making is to answer for a table of 2 to 4,096 records: a new panel over it. For any other, 4. The table is as it was.
abbrev pub making : List Record → Result (State × List Record) (Told × List Record)
making table = cond (nat_le 2 (length table) && nat_le (length table) 4096) (Ok (new_chain (length table - 1), table)) (Err (numbered 4, table))

-- What it did answer, seen so.
abbrev pub made : Result Chain (Unmade (Vec Record)) → Result (State × List Record) (Told × List Record)
made (Ok p) = Ok (chain_state p, table_of p)
made (Err u) = Err (told u.denial, vec_items u.given)
