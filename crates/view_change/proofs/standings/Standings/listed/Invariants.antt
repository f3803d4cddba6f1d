use Rattle.std.proofs.Common.{◌≡◌}
use Rattle.finite_map.specs.FiniteMap.{from_entries}
use Rattle.cert_meaning.specs.Fold.{members_in}
use Rattle.cert_meaning.proofs.MemberLemmas.{with_members}
use Rattle.view_change.proofs.standings.Standings.listed.Given as goal

-- the members that are left, put before those so far
abbrev pub invariant-loop-member : goal.invariant-loop-member
invariant-loop-member l =
    with_members l.self l.number l.member-iterator.iter.rest.now (from_entries l.listed-inside.by_member.entries)
    ≡ members_in l.self l.number l.members
