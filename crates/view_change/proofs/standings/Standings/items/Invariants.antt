use Rattle.std.proofs.Common.{◌≡◌, ◌++◌, map}
use Rattle.cert_meaning.specs.Parts.{member_item, member_items}
use Rattle.view_change.proofs.standings.Standings.items.Given as goal

-- the items so far, and those of the members that are left
abbrev pub invariant-loop-member : goal.invariant-loop-member
invariant-loop-member l = l.items ++ map member_item l.member-iterator ≡ member_items l.self
