-- Each turn copies the first member that is left.
use Rattle.std.proofs.Common.{◌≡◌, List, [], ◌∷◌, ◌++◌, map, sym, ap, ◌∙◌, append-nil, append_assoc}
use Rattle.std.specs.Cmp.{nat_cmp_total}
use Rattle.std.specs.Map.Iter.{deref_pair}
use Rattle.std.specs.Ordering.{nat_cmp}
use Rattle.std.proofs.lemmas.Map.Iter.{rest_more}
use Rattle.finite_map.specs.FiniteMap.{FiniteMap}
use Rattle.cert_meaning.specs.declared.members.Standing.{Standing}
use Rattle.cert_meaning.specs.declared.parts.MemberItem.{MemberItem}
use Rattle.cert_meaning.specs.Parts.{member_item}
use Rattle.cert_meaning.proofs.TreeLemmas.{entries-tree}
use Rattle.view_change.proofs.standings.Standings.items.Goals as goal

pub loop-member-init : goal.loop-member-init
loop-member-init c =
    let gives = c.into_iter-member-iterator.ensures.into_iter_gives in
    ap (λ (items : List MemberItem). items ++ map member_item c.into_iter-member-iterator.result) c.new-items.ensures
    ∙ ap (map member_item)
    (gives.0 ∙ sym (entries-tree nat_cmp_total c.self.inside.by_member.entries gives.5)
    ∙ ap (λ (members : FiniteMap nat_cmp Standing). members.entries) c.self.view_is)

pub loop-member-preserved : goal.loop-member-preserved
loop-member-preserved c =
    let left : c.loop-member.member-iterator ≡ (c.in-Some.member.now, c.in-Some.standing.now) ∷ c.next.new.self =
    rest_more deref_pair _ _ _ _ c.in-Some.is c.next.ensures.steps in
    ap (λ (items : List MemberItem). items ++ map member_item c.next.new.self) c.in_ok-push.ensures.ok
    ∙ append_assoc c.loop-member.items (member_item (c.in-Some.member.now, c.in-Some.standing.now) ∷ []) (map member_item c.next.new.self)
    ∙ ap (λ entries. c.loop-member.items ++ map member_item entries) (sym left)
    ∙ c.loop-member.invariant

pub returns : goal.returns
returns c =
    sym (append-nil c.loop-member.items)
    ∙ ap (λ entries. c.loop-member.items ++ map member_item entries) (sym c.in-None.ensures.steps.0)
    ∙ c.loop-member.invariant
