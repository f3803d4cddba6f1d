use Rattle.std.proofs.Common.{◌≡◌}
use Rattle.finite_map.specs.FiniteMap.{from_entries}
use Rattle.cert_meaning.specs.Parts.{row_entry, rows_of}
use Rattle.cert_meaning.proofs.PutLemmas.{put_all}
use Rattle.cert_meaning.proofs.row_table.RowTable.of.Given as goal

-- the items that are left, put before those so far
abbrev pub invariant-loop-item : goal.invariant-loop-item
invariant-loop-item l =
    put_all row_entry l.item-iterator.iter.rest.now (from_entries l.table-inside.rows.entries) ≡ rows_of l.items
