-- The task of a unit: its images are as the node's committed rows have them; and its changes lead from the rows before its
-- event to those after it.
use Rattle.std.proofs.Common.{◌≡◌, ℕ, zero, suc, ◌+◌, ◌≤◌, ◌<◌, Bool, true, false, cond, List, [], ◌∷◌, ◌++◌, length, map, fold, Some, refl, ap, sym, subst, ◌∙◌, arith, add-one}
use Rattle.std.specs.Prelude.{slice_get, unwrap_or}
use Rattle.std.specs.List.{list_any, AllByRecursion}
use Rattle.std.specs.Ordering.{eq_by_cmp}
use Rattle.finite_map.specs.FiniteMap.{get}
use Rattle.key_sets.specs.Keys.{Keys, touches}
use Rattle.key_sets.specs.Meeting.{covers}
use Rattle.row_model.specs.declared.row.RowId.{RowId}
use Rattle.row_model.specs.declared.ops.Op.{Op}
use Rattle.row_model.specs.Rows.{Rows, row_cmp, id_of, ops_on}
use Rattle.order_event.specs.declared.event.Event.{Event}
use Rattle.write_set.specs.Rules.{row_parts}
use Rattle.cert_meaning.specs.declared.items.CommitItem.{CommitItem}
use Rattle.cert_meaning.specs.Fold.{state_at}
use Rattle.cert_meaning.proofs.FoldLaws.{some_there, rows-next}
use Rattle.cert_meaning.proofs.CoveredLaws.{AllCovered, commit_covered}
use Rattle.client_trx.specs.Live.{Live}
use Rattle.apply_unit.specs.Results.{Image}
use Rattle.apply_unit.specs.Task.{task}
use Rattle.node_meaning.specs.Node.{ModelNode, ApplyUnit, rows_at}
use Rattle.node_meaning.specs.Steps.{committer_of}
use Rattle.node_meaning.specs.Facts.{Facts, commit_at}
use Rattle.node_meaning.specs.Units.{with_id, named_rows, images_of, ops_by, ops_at, rows_before, unit_task}
use Rattle.node_meaning.proofs.AdvanceFacts.{Applies, rows-commit, passed_there, committer_there}
use Rattle.node_meaning.proofs.CoveredLaws.{row_before}

-- ---- by the number of an event
pub ops_at-next : (order : List Event) (p : ℕ) → ops_at order (p + 1) ≡ ops_by (state_at order p) (slice_get order p)
ops_at-next order p = ap (ops_at order) (add-one p)

-- the rows after an event of the order are those before it with its changes
pub rows-event : (order : List Event) (p : ℕ) → suc p ≤ length order
    → rows_at order (p + 1) ≡ ops_on (ops_at order (p + 1)) (rows_at order p)
rows-event order p fits =
    let there = some_there order p fits in
    rows-next order p there.0 there.1
    ∙ ap (λ ops. ops_on ops (rows_at order p)) (ap (ops_by (state_at order p)) (sym there.1) ∙ sym (ops_at-next order p))

ops_made : (order : List Event) (p : ℕ) (c : CommitItem) (made : Applies order p c) → ops_at order (p + 1) ≡ made.ops
ops_made order p c made =
    ops_at-next order p ∙ ap (ops_by (state_at order p)) made.there ∙ ap (λ o. unwrap_or o []) made.is_ops

covered_next : (order : List Event) (p : ℕ) (c : CommitItem) → suc p ≤ length order → commit_at order (p + 1) ≡ Some c
    → AllCovered c.keys (ops_at order (p + 1))
covered_next order p c fits is =
    let made = rows-commit order p c fits is in
    subst (AllCovered c.keys) (sym (ops_made order p c made))
    (commit_covered order p made.event c made.ops made.is_commit made.is_ops)

-- the changes that an event commits are covered by the keys of its commit
pub ops_covered : (order : List Event) (number : ℕ) (c : CommitItem) → 0 < number → number ≤ length order → commit_at order number ≡ Some c
    → AllCovered c.keys (ops_at order number)
ops_covered order zero c above fits is = absurd (omega (arith, above))
ops_covered order (suc p) c above fits is =
    subst (λ m. AllCovered c.keys (ops_at order m)) (add-one p)
    (covered_next order p c fits (ap (commit_at order) (add-one p) ∙ is))

-- ---- the rows that changes name
abbrev AllPlaces : Keys → List RowId → Type 0
AllPlaces keys ids = AllByRecursion (λ (id : RowId). covers keys (row_parts id) ≡ true) ids

places-append : (keys : Keys) (ids : List RowId) (id : RowId) → AllPlaces keys ids → covers keys (row_parts id) ≡ true
    → AllPlaces keys (ids ++ id ∷ [])
places-append keys [] id all own = (own, tt)
places-append keys (x ∷ xs) id all own = (all.0, places-append keys xs id all.1 own)

one_place : (keys : Keys) (ids : List RowId) (id : RowId) (b : Bool) → AllPlaces keys ids → covers keys (row_parts id) ≡ true
    → AllPlaces keys (cond b ids (ids ++ id ∷ []))
one_place keys ids id true all own = all
one_place keys ids id false all own = places-append keys ids id all own

more_places : (keys : Keys) (ops : List Op) (ids : List RowId) → AllPlaces keys ids → AllCovered keys ops
    → AllPlaces keys (fold (λ (ids : List RowId) (change : Op). with_id ids (id_of change)) ids ops)
more_places keys [] ids all own = all
more_places keys (op ∷ ops) ids all own =
    more_places keys ops (with_id ids (id_of op))
    (one_place keys ids (id_of op) (list_any (eq_by_cmp row_cmp (id_of op)) ids) all own.0) own.1

-- keys that cover changes cover the rows that these name
pub places_covered : (keys : Keys) (ops : List Op) → AllCovered keys ops
    → AllByRecursion (λ (id : RowId). covers keys (row_parts id) ≡ true) (named_rows ops)
unfolding named_rows
places_covered keys ops own = more_places keys ops [] tt own

images_same : (keys : Keys) (rows other : Rows) → ((id : RowId) → covers keys (row_parts id) ≡ true → get rows id ≡ get other id)
    → (ids : List RowId) → AllPlaces keys ids
    → map {B = Image} (λ (id : RowId). (id, get rows id)) ids ≡ map {B = Image} (λ (id : RowId). (id, get other id)) ids
images_same keys rows other same [] all = refl
images_same keys rows other same (id ∷ ids) all =
    λ i. (id, same id all.0 i) ∷ images_same keys rows other same ids all.1 i

-- ---- the task
before_is : (order : List Event) (committed number : ℕ) (keys : Keys) → number ≤ length order → committed < number
    → ((earlier : ℕ) (c : CommitItem) → committed < earlier → earlier < number → commit_at order earlier ≡ Some c
    → touches c.keys keys ≡ false)
    → (id : RowId) → covers keys (row_parts id) ≡ true → get (rows_before order number) id ≡ get (rows_at order committed) id
before_is order committed zero keys fits above clear id own = absurd (omega (arith, above))
before_is order committed (suc p) keys fits above clear id own =
    row_before order committed (suc p) keys fits clear id own p (omega (arith, above)) (omega arith)

-- the images of a passed commit's rows are those of the committed rows, where no commit since then touches it
pub task-clear : (order : List Event) (committed number : ℕ) (c : CommitItem) → number ≤ length order → committed < number
    → commit_at order number ≡ Some c
    → ((earlier : ℕ) (d : CommitItem) → committed < earlier → earlier < number → commit_at order earlier ≡ Some d
    → touches d.keys c.keys ≡ false)
    → unit_task order number ≡ task number (ops_at order number) (images_of (ops_at order number) (rows_at order committed))
task-clear order committed number c fits above is clear =
    let own = ops_covered order number c (omega (arith, above)) fits is in
    ap (task number (ops_at order number))
    (images_same c.keys (rows_before order number) (rows_at order committed)
    (before_is order committed number c.keys fits above clear) (named_rows (ops_at order number))
    (places_covered c.keys (ops_at order number) own))

-- so are those of a unit of a node
pub task-unit : (order : List Event) (n : ModelNode) (number : ℕ) (u : ApplyUnit) → Facts order n → get n.units number ≡ Some u
    → unit_task order number ≡ task number (ops_at order number) (images_of (ops_at order number) (rows_at order n.at.committed))
task-unit order n number u facts there =
    let unit = facts.units number u there in
    task-clear order n.at.committed number unit.item
    (omega (arith, unit.within, facts.in_order.certified_fits, facts.in_order.taken_fits)) unit.above unit.is_commit
    (λ earlier d above below is. ap (touches d.keys) unit.keys ∙ unit.clear earlier d above below is)

-- the rows where a live transaction commits: its changes are on them
pub rows-committer : (order : List Event) (n : ModelNode) (facts : Facts order n) → n.at.committed < n.at.certified
    → (s : ℕ) (t : Live) → committer_of n.live (n.at.committed + 1) ≡ Some (s, t)
    → rows_at order (n.at.committed + 1) ≡ ops_on t.ops (rows_at order n.at.committed)
rows-committer order n facts more s t is =
    let next = n.at.committed + 1 in
    let here = committer_there order n facts next s t is in
    rows-event order n.at.committed (omega (arith, more, facts.in_order.certified_fits, facts.in_order.taken_fits))
    ∙ ap (λ ops. ops_on ops (rows_at order n.at.committed)) (passed_there order n facts next s t here.0 here.1).changes
