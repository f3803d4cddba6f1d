use Rattle.std.proofs.Common.{◌≡◌, vec_len}
use Rattle.cert_meaning.specs.Parts.{open_entry, open_of}
use Rattle.cert_meaning.proofs.PutLemmas.{put_all}
use Rattle.cert_meaning.proofs.open_table.OpenTable.of.Given as goal

-- the items that are left, put before those so far
abbrev pub invariant-loop-item : goal.invariant-loop-item
invariant-loop-item l =
    put_all open_entry l.left.items l.table ≡ open_of l.fn.items

abbrev pub decreases-loop-item : goal.decreases-loop-item
decreases-loop-item l = vec_len l.left
