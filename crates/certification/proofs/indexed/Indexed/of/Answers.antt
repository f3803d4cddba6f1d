-- The index has the keys of all the commits.
use Rattle.std.proofs.Common.{◌≡◌, List, sym, ap, subst, ◌∙◌}
use Rattle.finite_map.specs.FiniteMap.{empty}
use Rattle.cert_meaning.specs.declared.items.CommitItem.{CommitItem}
use Rattle.cert_meaning.specs.declared.parts.MemberItem.{MemberItem}
use Rattle.cert_meaning.specs.declared.parts.StateParts.{StateParts}
use Rattle.cert_meaning.specs.Parts.{members_of, open_of, state_of}
use Rattle.cert_meaning.specs.State.{FoldState}
use Rattle.cert_index.specs.Index.{entered}
use Rattle.sr_fragments.specs.OpenSet.{Open}
use Rattle.view_change.specs.Membership.{Membership}
use Rattle.certification.specs.Certifies.{bare}
use Rattle.certification.specs.Indexed.{IsIndexed}
use Rattle.certification.proofs.IndexHeld.{indexed-entered}
use Rattle.certification.proofs.indexed.Indexed.of.Goals as goal

pub invariant_of-result : goal.invariant_of-result
invariant_of-result c =
    let same : c.from.result.items ≡ c.args.parts.commits = c.from.ensures.0 ∙ c.into_vec.ensures in
    subst (λ cs. IsIndexed c.args.parts.number cs c.in_ok-index.index) (sym same)
    (indexed-entered c.in_ok-index.index c.args.parts.number c.args.parts.commits c.requires.rise
    (c.in_ok-index.ensures ∙ ap entered c.as_slice.ensures))

made : (parts : StateParts) (m : Membership) (open_trx : Open) (cs : List CommitItem)
    → ◌≡◌ {A = Membership} m (record { members = members_of parts.members; floor = parts.floor })
    → open_trx ≡ open_of parts.open_trx → cs ≡ parts.commits
    → ◌≡◌ {A = FoldState} (record { number = parts.number; floor = m.floor; version = parts.version; members = m.members; rows = empty; commits = cs; open_trx = open_trx })
    (bare (state_of parts))
made parts m open_trx cs members same_open same_commits = λ i. record {
  number = parts.number;
  floor = (members i).floor;
  version = parts.version;
  members = (members i).members;
  rows = empty;
  commits = same_commits i;
  open_trx = same_open i;
}

pub returns : goal.returns
returns c =
    made c.args.parts c.in_ok-of.field-0 c.in_ok-of-2.field-0 c.from.result.items
    (c.in_ok-of.ensures ∙ ap (λ (items : List MemberItem). record { members = members_of items; floor = c.args.parts.floor }) c.as_slice-2.ensures)
    c.in_ok-of-2.ensures (c.from.ensures.0 ∙ c.into_vec.ensures)
