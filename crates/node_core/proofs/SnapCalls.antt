-- A node that takes a snapshot stands for each order of whose state this is the snapshot.
use Rattle.std.proofs.Common.{◌≡◌, ℕ, ◌≤◌, List, [], ◌∷◌, length, map, take, drop, Option, None, Some, refl, ap, sym, subst, ◌∙◌, arith, true≢false}
use Rattle.std.specs.Prelude.{Ok, Result, not, unwrap_or, ◌≢◌}
use Rattle.std.proofs.lemmas.Slice.Eq.{bytes_eq-Decides}
use Rattle.finite_map.specs.FiniteMap.{empty, get, get-empty}
use Rattle.wsrep_base.specs.StateId.{nil_id}
use Rattle.wsrep_base.specs.Trx.{least}
use Rattle.row_model.specs.Rows.{row_cmp}
use Rattle.order_event.specs.declared.event.Event.{Event}
use Rattle.cert_meaning.specs.declared.items.CommitItem.{CommitItem}
use Rattle.cert_meaning.specs.declared.members.Standing.{Standing}
use Rattle.cert_meaning.specs.declared.parts.MemberItem.{MemberItem}
use Rattle.cert_meaning.specs.declared.parts.StateParts.{StateParts}
use Rattle.cert_meaning.specs.State.{FoldState, RiseWithin}
use Rattle.cert_meaning.specs.Fold.{state_at, floor_over}
use Rattle.cert_meaning.specs.Parts.{member_item, member_items, members_of, parts_of, trim}
use Rattle.cert_meaning.proofs.FoldLaws.{number-at}
use Rattle.certification.specs.Certifies.{ModelCertification, Certifies}
use Rattle.gcache_ring.specs.Held.{held}
use Rattle.state_snapshot.specs.declared.fault.SnapFault.{SnapFault}
use Rattle.state_snapshot.specs.Rules.{IsGiven, Obeys}
use Rattle.state_snapshot.specs.Laws.{IsSnapshot}
use Rattle.state_snapshot.specs.Reading.{installed}
use Rattle.state_snapshot.proofs.StateLaws.{snapshot_again, state_back}
use Rattle.state_snapshot.proofs.TakeLaws as laws
use Rattle.state_snapshot.proofs.RangeLaws.{in_range}
use Rattle.undo_rows.specs.RowTable.{RowTable, Changes}
use Rattle.node_meaning.specs.Node.{ModelNode, ApplyUnit, rows_at}
use Rattle.node_meaning.specs.Facts.{Facts}
use Rattle.node_meaning.specs.Joining.{IsAtRest, received_snapshot}
use Rattle.node_meaning.proofs.Joining.{installed_facts, none_behind}
use Rattle.node_core.specs.declared.node.NodeParts.{NodeParts}
use Rattle.node_core.specs.Tabled.{made_by, shown_of}
use Rattle.node_core.specs.Joining.{IsStateAt, TookSnapshot, has_installed}
use Rattle.node_core.specs.Stands.{Stands, DoneOver, plain_of, quietly}

from_given : (id : List ℕ) → IsGiven id → id ≢ nil_id
from_given id given same =
    true≢false (sym given ∙ ap not ((bytes_eq-Decides id nil_id).1 same))

is_none : {A : Type 0} (o : Option A) → ((a : A) → o ≡ Some a → ⊥) → o ≡ None
is_none None none = refl
is_none (Some a) none = absurd (none a refl)

pair_of : (s t : FoldState) (id other : List ℕ)
    → ◌≡◌ {A = Result (FoldState × List ℕ) SnapFault} (Ok (s, id)) (Ok (t, other)) → (s ≡ t) × (id ≡ other)
pair_of s t id other is =
    let same : ◌≡◌ {A = FoldState × List ℕ} (s, id) (t, other) = cc in
    (ap (λ (x : FoldState × List ℕ). x.0) same, ap (λ (x : FoldState × List ℕ). x.1) same)

-- ---- what is installed
from_start : (above most : ℕ) (commits : List CommitItem) → RiseWithin above most commits → RiseWithin 0 most commits
from_start above most [] rise = tt
from_start above most (commit ∷ commits) rise = (omega (arith, rise.0), rise.1, rise.2)

reports_same : (entries : List (ℕ × Standing))
    → map (λ (standing : Standing). standing.report) (map (λ entry. entry.1) entries) ≡ map (λ (item : MemberItem). item.report) (map member_item entries)
reports_same [] = refl
reports_same (entry ∷ entries) = ap (λ others. entry.1.report ∷ others) (reports_same entries)

module _ (bytes : List ℕ) (state : FoldState) (id : List ℕ) (is : IsSnapshot bytes state id) where
  obeys : Obeys (parts_of state)
  obeys = subst (λ (s : FoldState). Obeys (parts_of s)) is.trimmed is.rules

  module _ (parts : StateParts) (are : parts ≡ parts_of state) where
    -- the numbers of its commits rise
    pub parts_rise : RiseWithin 0 parts.number parts.commits
    parts_rise =
        subst (λ (p : StateParts). RiseWithin 0 p.number p.commits) (sym are)
        (from_start state.floor state.number state.commits obeys.commits.rise)

    -- its floor is the least report
    pub parts_settled : floor_over (members_of parts.members) parts.floor ≡ parts.floor
    parts_settled =
        let back : members_of (member_items state.members) ≡ state.members = ap (λ (s : FoldState). s.members) (state_back state) in
        subst (λ (p : StateParts). floor_over (members_of p.members) p.floor ≡ p.floor) (sym are)
        (subst (λ members. floor_over members state.floor ≡ state.floor) (sym back)
        (ap (λ reports. unwrap_or (least reports) state.floor) (reports_same state.members.entries) ∙ obeys.members.least))

-- it stands for the state, and for each order of which this is the trimmed one at a number
abbrev pub IsCertifiedBy : FoldState → ModelCertification → Type 0
IsCertifiedBy state certification =
    (order : List Event) (number : ℕ) → number ≤ length order → state ≡ trim (state_at order number)
    → Certifies order number number certification

module _ (old : NodeParts) (state : FoldState) (named : List ℕ) (rows : RowTable)
    (certification : ModelCertification) (rests : IsAtRest (plain_of old))
    (committed : rows.committed ≡ state.rows) (changes : rows.changes ≡ empty)
    (spare : old.units.room ≤ rows.spare) (certifies : IsCertifiedBy state certification) where
  abbrev new : NodeParts
  new = has_installed old state.number named rows certification

  module _ (order : List Event) (number : ℕ) (id bytes : List ℕ) (is_state : IsStateAt order number id bytes)
      (st : Stands order old) (is : installed bytes ≡ Ok (state, named)) where
    both : (state ≡ trim (state_at order number)) × (named ≡ id)
    both =
        pair_of state (trim (state_at order number)) named id
        (sym is ∙ ap installed is_state.spelled
        ∙ snapshot_again (state_at order number) id (in_range order number is_state.within is_state.few is_state.fits)
        (laws.can_be_taken order number is_state.within is_state.few is_state.fits) is_state.sized is_state.given)

    number_is : state.number ≡ number
    number_is = ap (λ (s : FoldState). s.number) both.0 ∙ number-at order number is_state.within

    plain_is : plain_of new ≡ received_snapshot number id (plain_of old)
    plain_is i = received_snapshot (number_is i) (both.1 i) (plain_of old)

    no_unit : (k : ℕ) (u : ApplyUnit) → get old.units.units k ≡ Some u → ⊥
    no_unit k u there =
        let unit = st.facts.units k u there in
        omega (arith, unit.above, unit.within, rests.all_certified, rests.all_committed)

    rows_are : (session : ℕ) (row : _)
        → shown_of session (get rows.changes row) ≡ made_by (rows_at order state.number) row (get old.live session)
    rows_are session row =
        ap (λ (c : Changes). shown_of session (get c row)) changes ∙ ap (shown_of session) (get-empty row_cmp row)
        ∙ sym (ap (made_by (rows_at order state.number) row) (is_none (get old.live session) (rests.none_live session)))

    pub installed_done : (state.number ≡ number) × DoneOver order (quietly (received_snapshot number id) order) old new tt
    installed_done = (
      number_is,
      record {
        same = ap (λ (n : ModelNode). (tt, n)) plain_is;
        stands = record {
          inbox = st.inbox
              ∙ ap (λ (k : ℕ). drop k (take old.at.taken order)) rests.all_certified
              ∙ none_behind old.at.taken order ∙ sym (none_behind state.number order);
          certification = subst (λ (k : ℕ). Certifies order k k certification) (sym number_is)
              (certifies order number is_state.within both.0);
          tables = record {
            locks = st.tables.locks;
            rows = record {
              committed = committed ∙ ap (λ (s : FoldState). s.rows) both.0 ∙ ap (rows_at order) (sym number_is);
              changed = rows_are;
            };
            units = record { worked = λ k u there. absurd (no_unit k u there) };
            room = spare;
          };
          serves = record {
            ring = ap (λ (events : List Event). record {
              size = old.ring.size;
              last = state.number;
              events = held old.ring.size events;
            }) (sym (none_behind state.number order));
            since = omega arith;
            id = λ connected. subst (λ (own : List ℕ). own ≢ nil_id) (sym both.1) (from_given id is_state.given);
          };
          facts = subst (Facts order) (sym plain_is)
              (installed_facts order number id (plain_of old) rests is_state.within st.facts);
        };
      },
    )

  pub took_snapshot : (bytes : List ℕ) → installed bytes ≡ Ok (state, named) → TookSnapshot bytes old new state.number
  took_snapshot bytes is = record {
    state = state;
    named = named;
    is = is;
    to = refl;
    does = λ order number id is_state st. installed_done order number id bytes is_state st is;
  }
