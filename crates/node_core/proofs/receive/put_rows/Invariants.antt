use Rattle.std.proofs.Common.{◌≡◌, ◌≤◌, length}
use Rattle.finite_map.specs.FiniteMap.{empty}
use Rattle.cert_meaning.specs.Parts.{row_entry, rows_of}
use Rattle.cert_meaning.proofs.PutLemmas.{put_all}
use Rattle.node_core.proofs.receive.put_rows.Given as goal

-- the items that are left, put before those so far
abbrev pub invariant-loop-item : goal.invariant-loop-item
invariant-loop-item l = record {
  made : put_all row_entry l.item-iterator.iter.rest.now l.rows.committed ≡ rows_of l.items;
  changes : l.rows.changes ≡ empty;
  room : length l.item-iterator.iter.rest.now ≤ l.rows.spare;
}
