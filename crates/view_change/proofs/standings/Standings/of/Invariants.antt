use Rattle.std.proofs.Common.{◌≡◌}
use Rattle.finite_map.specs.FiniteMap.{from_entries}
use Rattle.cert_meaning.specs.Parts.{member_entry, members_of}
use Rattle.cert_meaning.proofs.PutLemmas.{put_all}
use Rattle.view_change.proofs.standings.Standings.of.Given as goal

-- the items that are left, put before those so far
abbrev pub invariant-loop-item : goal.invariant-loop-item
invariant-loop-item l =
    put_all member_entry l.item-iterator.iter.rest.now (from_entries l.made-inside.by_member.entries) ≡ members_of l.items
