-- What a node gives: the events of its ring, or a snapshot.
use Rattle.std.proofs.Common.{◌≡◌, ℕ, ◌+◌, ◌-◌, ◌≤◌, Bool, true, false, cond, List, [], ◌∷◌, ◌++◌, length, take, drop, Some, refl, ap, sym, subst, ◌∙◌, arith, leb-true, length-take-le, length-append, append_assoc}
use Rattle.std.specs.Prelude.{◌&&◌, ◌≢◌, not, nat_le, nat_lt, min, Ok, Err, Result, IfOk}
use Rattle.std.specs.List.{filter}
use Rattle.std.specs.Str.{bytes_eq}
use Rattle.std.proofs.Math.Seq.{drop-append-add}
use Rattle.std.proofs.lemmas.Bool.{and_parts, false_from_ne_true, ltb-false, le-ltb}
use Rattle.std.proofs.lemmas.Slice.Eq.{bytes_eq-Decides}
use Rattle.std.proofs.lemmas.List.{take-append-drop}
use Rattle.wsrep_base.specs.StateId.{nil_id}
use Rattle.order_event.specs.declared.event.Event.{Event}
use Rattle.row_model.specs.Rows.{Rows}
use Rattle.undo_rows.specs.RowTable.{row_items}
use Rattle.cert_meaning.specs.declared.items.CommitItem.{CommitItem}
use Rattle.cert_meaning.specs.declared.parts.StateParts.{StateParts}
use Rattle.cert_meaning.specs.State.{FoldState, RiseWithin}
use Rattle.cert_meaning.specs.Parts.{parts_of, state_of, trim}
use Rattle.cert_meaning.specs.Fold.{state_at}
use Rattle.cert_meaning.proofs.FoldLaws.{number-at}
use Rattle.cert_meaning.proofs.CommitLaws.{commits-rise}
use Rattle.cert_meaning.proofs.HalvesLemmas.{rise_filter}
use Rattle.certification.specs.Certifies.{commits_above, kept as kept_state}
use Rattle.node_meaning.specs.Node.{rows_at}
use Rattle.gcache_ring.specs.Held.{Ring, held, range_to, range_of, copy_in, copy_of}
use Rattle.gcache_ring.specs.declared.fault.CopyFault.{CopyFault}
use Rattle.gcache_ring.specs.declared.fault.CopyFault.TheVariants.{NotHeld}
use Rattle.gcache_ring.proofs.HeldLemmas.{held-suffix}
use Rattle.state_snapshot.specs.Rules.{IsGiven}
use Rattle.state_snapshot.proofs.StateLaws.{state_back}
use Rattle.node_core.specs.declared.node.NodeParts.{NodeParts}
use Rattle.node_core.specs.Giving.{is_in, gives_events, events_from}
use Rattle.node_core.specs.Stands.{Stands, plain_of}

-- a number that is in the range has its event
pub copy_is : (last : ℕ) (events : List Event) (from : ℕ) → is_in (range_to last events) from ≡ true
    → copy_in (range_to last events) events from ≡ Ok (drop (from - (last - length events + 1)) events)
copy_is last [] from is = cc
copy_is last (e ∷ es) from is =
    ap (λ b. cond {A = Result (List Event) CopyFault} b (Ok (drop (from - (last - length (e ∷ es) + 1)) (e ∷ es))) (Err (NotHeld (Some (last - length (e ∷ es) + 1))))) is

low_in : (last : ℕ) (events : List Event) (from : ℕ) → is_in (range_to last events) from ≡ true
    → last - length events + 1 ≤ from
low_in last [] from is = cc
low_in last (e ∷ es) from is = leb-true _ _ (and_parts (nat_le (last - length (e ∷ es) + 1) from) (nat_le from last) is).0

-- the events of a ring from a number on are those of the order
module _ (order : List Event) (size since taken from : ℕ) (inside : taken ≤ length order) where
  abbrev all : List Event
  all = take taken order

  abbrev kept : List Event
  kept = held size (drop since all)

  suffix : (before : List Event) × (all ≡ before ++ kept)
  suffix =
      let rest = held-suffix size (drop since all) in (
        take since all ++ rest.0,
        sym (take-append-drop since all) ∙ ap (λ (l : List Event). take since all ++ l) rest.1
            ∙ sym (append_assoc (take since all) rest.0 kept),
      )

  pub copied_are : is_in (range_to taken kept) from ≡ true
      → drop (from - (taken - length kept + 1)) kept ≡ drop (from - 1) all
  copied_are is =
      let low = low_in taken kept from is in
      let count : taken ≡ length suffix.0 + length kept =
      sym (length-take-le taken order inside) ∙ ap (λ (l : List Event). length l) suffix.1 ∙ length-append suffix.0 kept in
      let below : from - 1 ≡ length suffix.0 + (from - (taken - length kept + 1)) =
      omega (arith, low, count) in
      sym (ap (drop (from - 1)) suffix.1
      ∙ ap (λ k. drop k (suffix.0 ++ kept)) below
      ∙ drop-append-add suffix.0 kept (from - (taken - length kept + 1)))

module _ (order : List Event) (node : NodeParts) (st : Stands order node) (from : ℕ) where
  in_ring : is_in (range_of node.ring) from ≡ is_in (range_to node.at.taken (held node.ring.size (drop node.since (take node.at.taken order)))) from
  in_ring = ap (λ (r : Ring). is_in (range_of r) from) st.serves.ring

  pub gives_is : (same : Bool) → gives_events order (plain_of node) from same ≡ (same && is_in (range_of node.ring) from)
  gives_is same = ap (λ b. same && b) (sym in_ring)

  pub events_given : (events : List Event) → is_in (range_of node.ring) from ≡ true → copy_of node.ring from ≡ Ok events
      → events ≡ events_from order (plain_of node) from
  events_given events is copy =
      let held_in = sym in_ring ∙ is in
      let kept = held node.ring.size (drop node.since (take node.at.taken order)) in
      same_Ok _ _ (sym copy ∙ ap (λ (r : Ring). copy_of r from) st.serves.ring ∙ copy_is node.at.taken kept from held_in)
      ∙ copied_are order node.ring.size node.since node.at.taken from st.facts.in_order.taken_fits held_in
    where
      same_Ok : (xs ys : List Event) → ◌≡◌ {A = Result (List Event) CopyFault} (Ok xs) (Ok ys) → xs ≡ ys
      same_Ok xs ys is = cc

-- an id that is not nil
pub is_given : (id : List ℕ) → id ≢ nil_id → IsGiven id
is_given id given = ap not (false_from_ne_true (bytes_eq id nil_id) (λ same. given ((bytes_eq-Decides id nil_id).0 same)))

-- ---- the state that is committed
-- what fails a test fails a narrower one
module _ {X : Type 0} (narrow wide : X → Bool) (implied : (x : X) → wide x ≡ false → narrow x ≡ false) where
  within_one : (x : X) (xs ys : List X) (b : Bool) → wide x ≡ b → filter narrow ys ≡ filter narrow xs
      → filter narrow (cond b (x ∷ ys) ys) ≡ cond (narrow x) (x ∷ filter narrow xs) (filter narrow xs)
  within_one x xs ys true is rest = ap (λ zs. cond (narrow x) (x ∷ zs) zs) rest
  within_one x xs ys false is rest = rest ∙ sym (ap (λ b. cond b (x ∷ filter narrow xs) (filter narrow xs)) (implied x is))

  filter_within : (xs : List X) → filter narrow (filter wide xs) ≡ filter narrow xs
  filter_within [] = refl
  filter_within (x ∷ xs) = within_one x xs (filter wide xs) (wide x) refl (filter_within xs)

-- commits above a greater number
above_both : (low above : ℕ) → low ≤ above → (commits : List CommitItem)
    → commits_above above (commits_above low commits) ≡ commits_above above commits
above_both low above fits commits =
    filter_within (λ (c : CommitItem). nat_lt above c.number) (λ (c : CommitItem). nat_lt low c.number)
    (λ c none. let most = ltb-false low c.number none in le-ltb above c.number (omega (arith, most, fits))) commits

-- the parts of what is kept, with rows
abbrev pub given_parts : NodeParts → StateParts
given_parts node = record (parts_of node.certification.state) { rows = row_items node.rows.committed }

module _ (order : List Event) (node : NodeParts) (st : Stands order node) where
  abbrev s : FoldState
  s = state_at order node.at.certified

  certified_within : node.at.certified ≤ length order
  certified_within = st.certification.within

  abbrev Rises : FoldState → Type 0
  Rises t = RiseWithin 0 t.number t.commits

  pub given_rise : Rises node.certification.state
  given_rise =
      subst Rises (sym st.certification.state)
      (rise_filter 0 0 s.number (λ (c : CommitItem). nat_lt (min s.floor node.at.committed) c.number) s.commits (omega arith)
      (subst (λ k. RiseWithin 0 k s.commits) (sym (number-at order node.at.certified certified_within))
      (commits-rise order node.at.certified certified_within)))

  trim_kept : (committed : ℕ) → trim (record (kept_state committed s) { rows = s.rows }) ≡ trim s
  trim_kept committed =
      ap (λ commits. record s { commits = commits }) (above_both (min s.floor committed) s.floor (omega arith) s.commits)

  given_state : node.at.certified ≡ node.at.committed
      → trim (state_of (given_parts node)) ≡ trim (state_at order node.at.committed)
  given_state same =
      let rows : node.rows.committed ≡ s.rows = st.tables.rows.committed ∙ ap (rows_at order) (sym same) in
      ap trim (state_back (record node.certification.state { rows = node.rows.committed }))
      ∙ ap (λ (t : FoldState). trim (record t { rows = node.rows.committed })) st.certification.state
      ∙ ap (λ (rs : Rows). trim (record (kept_state node.at.committed s) { rows = rs })) rows
      ∙ trim_kept node.at.committed
      ∙ ap (λ k. trim (state_at order k)) same

pub state_made : {E : Type 0} (node : NodeParts) (parts : StateParts) (r : Result FoldState E) → node.at.certified ≡ node.at.committed
    → parts ≡ given_parts node → IfOk r (λ t. t ≡ state_of parts)
    → IfOk r (λ t. (order : List Event) → Stands order node → trim t ≡ trim (state_at order node.at.committed))
state_made node parts (Ok t) same are is = λ order st. ap trim (is ∙ ap state_of are) ∙ given_state order node st same
state_made node parts (Err e) same are is = tt
