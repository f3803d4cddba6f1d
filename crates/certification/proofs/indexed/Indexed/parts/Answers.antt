-- A state without rows has no items of rows.
use Rattle.std.proofs.Common.{◌≡◌, ℕ, List, [], ◌∙◌, ap}
use Rattle.finite_map.specs.FiniteMap.{empty}
use Rattle.row_model.specs.declared.row.RowItem.{RowItem}
use Rattle.cert_meaning.specs.declared.items.CommitItem.{CommitItem}
use Rattle.cert_meaning.specs.declared.parts.MemberItem.{MemberItem}
use Rattle.cert_meaning.specs.declared.parts.OpenItem.{OpenItem}
use Rattle.cert_meaning.specs.declared.parts.StateParts.{StateParts}
use Rattle.cert_meaning.specs.Parts.{member_items, open_items, parts_of}
use Rattle.cert_meaning.specs.State.{FoldState}
use Rattle.sr_fragments.specs.OpenSet.{Open}
use Rattle.view_change.specs.Membership.{Membership}
use Rattle.certification.proofs.indexed.Indexed.parts.Goals as goal

taken : (number version floor : ℕ) (m : Membership) (open_trx : Open) (cs commits : List CommitItem)
    (members : List MemberItem) (rows : List RowItem) (items : List OpenItem)
    → floor ≡ m.floor → members ≡ member_items m.members → rows ≡ [] → commits ≡ cs → items ≡ open_items open_trx
    → ◌≡◌ {A = StateParts}
    (record { number = number; floor = floor; version = version; members = members; rows = rows; commits = commits; open_trx = items })
    (parts_of (record { number = number; floor = m.floor; version = version; members = m.members; rows = empty; commits = cs; open_trx = open_trx }))
unfolding empty
taken number version floor m open_trx cs commits members rows items same_floor same_members no_rows same_commits same_open = λ i. record {
  number = number;
  floor = same_floor i;
  version = version;
  members = same_members i;
  rows = no_rows i;
  commits = same_commits i;
  open_trx = same_open i;
}

pub returns : goal.returns
returns c =
    taken c.self.inside.number c.self.inside.version c.floor.result c.self.inside.members c.self.inside.«open» c.self.inside.commits.items
    c.in_ok-copied.field-0 c.in_ok-items.field-0 c.new.result c.in_ok-items-2.field-0
    c.floor.ensures.floor c.in_ok-items.ensures.items c.new.ensures c.in_ok-copied.ensures c.in_ok-items-2.ensures
    ∙ ap (λ (s : FoldState). parts_of s) c.self.view_is
