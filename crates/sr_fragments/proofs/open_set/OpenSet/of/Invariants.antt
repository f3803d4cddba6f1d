use Rattle.std.proofs.Common.{◌≡◌, vec_len}
use Rattle.cert_meaning.specs.Parts.{open_entry, open_of}
use Rattle.cert_meaning.proofs.PutLemmas.{put_all}
use Rattle.sr_fragments.specs.OpenSet.{IsIndexOf}
use Rattle.sr_fragments.proofs.open_set.OpenSet.of.Given as goal

-- the items that are left, put before those so far, whose fragments the index has
abbrev pub invariant-loop-item : goal.invariant-loop-item
invariant-loop-item l = record {
  open_trx : put_all open_entry l.left.items l.open ≡ open_of l.fn.items;
  index : IsIndexOf l.index l.open;
}

abbrev pub decreases-loop-item : goal.decreases-loop-item
decreases-loop-item l = vec_len l.left
