-- A unit that begins: its entry, the rollbacks, the kills and its locks together are the model's start.
use Rattle.std.proofs.Common.{◌≡◌, ℕ, ◌+◌, ◌≤◌, ◌<◌, ◌^◌, Bool, true, false, cond, List, [], ◌∷◌, length, fold, refl, sym, ap, subst, ◌∙◌, arith}
use Rattle.std.specs.Prelude.{Option, Some, None}
use Rattle.std.specs.Ordering.{nat_cmp, eq_by_cmp}
use Rattle.std.specs.Cmp.{nat_cmp_total}
use Rattle.finite_map.specs.FiniteMap.{FiniteMap, empty, get, insert, len, get-insert}
use Rattle.key_sets.specs.Keys.{Keys, with_keys}
use Rattle.key_sets.proofs.UnionLaws.{union-symm, union-empty}
use Rattle.order_event.specs.declared.event.Event.{Event}
use Rattle.order_event.specs.declared.event.Message.{Message}
use Rattle.order_event.specs.declared.step.Answer.TheVariants as answer
use Rattle.write_set.specs.declared.write_set.WriteSet.{WriteSet}
use Rattle.client_trx.specs.Live.{Live, rollback_due}
use Rattle.row_locks.specs.declared.holder.Holder.TheVariants.{Session, Unit as UnitHolder}
use Rattle.row_locks.specs.Locks.{LockState, keys_at, touching_sessions}
use Rattle.row_locks.specs.Alike.{HoldAlike, with_held}
use Rattle.row_locks.proofs.AlikeLaws.{alike_between, alike-insert, touch_alike}
use Rattle.row_locks.proofs.LockLemmas.{keys_at-insert}
use Rattle.node_parts.specs.Units.{UnitTable, added}
use Rattle.node_meaning.specs.declared.progress.Progress.{Progress}
use Rattle.node_meaning.specs.declared.progress.Stage.TheVariants.{Started}
use Rattle.node_meaning.specs.Node.{ModelNode, ApplyUnit, locks_of, rows_at, send_any}
use Rattle.node_meaning.specs.Facts.{ProgressInRange}
use Rattle.node_meaning.specs.Steps.{sent_rollback, send_rollback, end_killed, kill_session}
use Rattle.node_meaning.specs.Units.{ops_at, named_rows}
use Rattle.node_meaning.proofs.KillOrder.{kills-touching}
use Rattle.node_meaning.proofs.LockLaws.{keys_of_unit, keys_at-session, keys_at-unit}
use Rattle.node_laws.proofs.UnitMoves.{CanTakeBack}
use Rattle.node_laws.proofs.StepFacts.{started_keeps}
use Rattle.node_core.specs.declared.node.NodeParts.{NodeParts}
use Rattle.node_core.proofs.Standing.{done_by, worked_put, unchanged_ring}
use Rattle.node_core.specs.Tabled.{Tabled}
use Rattle.node_core.specs.Stands.{AreWorked, DoneOver, Unchanged, plain_of}
use Rattle.node_core.specs.Starting.{CanStart, Aborts, unit_started, with_sent, entered}
use Rattle.node_core.proofs.Tabling.{same_tabled}

-- ---- the keys of a unit that begins
module _ (live : FiniteMap nat_cmp Live) (older : FiniteMap nat_cmp ApplyUnit) (number : ℕ) (unit : ApplyUnit) where
  unit_begun : HoldAlike (insert (locks_of live older) (UnitHolder number) unit.keys) (locks_of live (insert older number unit))
  unit_begun (Session s) =
      keys_at-insert (locks_of live older) (UnitHolder number) unit.keys (Session s)
      ∙ keys_at-session live older s ∙ sym (keys_at-session live (insert older number unit) s)
  unit_begun (UnitHolder k) =
      keys_at-insert (locks_of live older) (UnitHolder number) unit.keys (UnitHolder k)
      ∙ ap (cond (eq_by_cmp nat_cmp k number) unit.keys) (keys_at-unit live older k)
      ∙ by (eq_by_cmp nat_cmp k number) (get older k)
      ∙ sym (keys_at-unit live (insert older number unit) k ∙ ap keys_of_unit (get-insert nat_cmp_total older number unit k))
    where
      by : (b : Bool) (o : Option ApplyUnit) → cond b unit.keys (keys_of_unit o) ≡ keys_of_unit (cond b (Some unit) o)
      by true o = refl
      by false o = refl

-- ---- rollbacks are sent whatever the units are
module _ (units : FiniteMap nat_cmp ApplyUnit) where
  session_beside : (n : ModelNode) (o : Option Live)
      → sent_rollback (record n { units = units }) o ≡ record (sent_rollback n o) { units = units }
  session_beside n None = refl
  session_beside n (Some t) = by (rollback_due t n.at.serial n.at.committed)
    where
      by : (o : Option WriteSet)
          → send_any (record n { units = units }) o ≡ record (send_any n o) { units = units }
      by None = refl
      by (Some w) = refl

  sends_beside : (sessions : List ℕ) (n : ModelNode)
      → fold send_rollback (record n { units = units }) sessions
      ≡ record (fold send_rollback n sessions) { units = units }
  sends_beside [] n = refl
  sends_beside (v ∷ vs) n =
      ap (λ m. fold send_rollback m vs) (session_beside n (get n.live v))
      ∙ sends_beside vs (send_rollback n v)

-- ---- the call
module _ (order : List Event) (old mid killed : NodeParts) (number : ℕ) (keys : Keys) (rows : ℕ)
    (aborted : List ℕ) (sent : List Message) (can : CanStart order old number keys)
    (unchanged : Unchanged old mid) (same_units : mid.units ≡ old.units)
    (sends : fold send_rollback (plain_of old) aborted ≡ with_sent (plain_of old) sent)
    (victims : aborted ≡ touching_sessions old.locks.locks keys)
    (kills : Aborts (λ n. fold (end_killed number) n aborted) (entered mid number keys rows sent) killed) where
  abbrev n : ModelNode
  n = plain_of old

  abbrev unit : ApplyUnit
  unit = record { stage = Started; keys = keys }

  -- with the unit
  abbrev begun : ModelNode → ModelNode
  begun m = record m { units = insert n.units number unit }

  live_is : mid.live ≡ old.live
  live_is = ap (λ (m : ModelNode). m.live) unchanged.plain

  -- all rollbacks first, and then the ends
  kills_are : (vs : List ℕ) → aborted ≡ vs
      → fold (kill_session number) (begun n) vs
      ≡ fold (end_killed number) (fold send_rollback (begun n) vs) vs
      → fold (end_killed number) (begun (with_sent n sent)) aborted
      ≡ fold (kill_session number) (begun n) vs
  kills_are vs is both =
      ap (fold (end_killed number) (begun (with_sent n sent))) is
      ∙ sym (both ∙ ap (λ m. fold (end_killed number) m vs) (sends_beside (begun n).units vs n
      ∙ ap begun (ap (fold send_rollback n) (sym is) ∙ sends)))

  same : (answer.Started number aborted, plain_of killed) ≡ unit_started number keys n
  same =
      let units = old.units.units in
      let is = victims ∙ touch_alike old.locks.locks _ can.stands.tables.locks keys in
      let ends = kills.plain
      ∙ ap (λ (m : ModelNode). fold (end_killed number) (record (with_sent m sent) {
        units = insert m.units number unit;
      }) aborted) unchanged.plain
      ∙ kills_are (touching_sessions (locks_of old.live units) keys) is
      (kills-touching number old.live units keys (begun n)) in
      λ i. (answer.Started number (is i), ends i)

  killed_units : killed.units ≡ added old.units number keys rows
  killed_units = kills.units ∙ ap (λ (t : UnitTable). added t number keys rows) same_units

  killed_locks : HoldAlike killed.locks.locks (locks_of killed.live old.units.units)
  killed_locks =
      kills.locks old.units.units
      (alike_between _ _ _ _ unchanged.locks can.stands.tables.locks
      (ap (λ (m : FiniteMap nat_cmp Live). locks_of m old.units.units) (sym live_is)))

  module _ (locks : LockState)
      (held : HoldAlike locks.locks (with_held killed.locks.locks (UnitHolder number) keys.entries))
      (count : rows ≡ length (named_rows (ops_at order number)))
      (room : mid.units.room + rows ≤ mid.rows.spare) (back : CanTakeBack n) where
    its_keys : with_keys (keys_at killed.locks.locks (UnitHolder number)) keys.entries ≡ keys
    its_keys =
        ap (λ (had : Keys). with_keys had keys.entries)
        (killed_locks (UnitHolder number) ∙ keys_at-unit killed.live old.units.units number
        ∙ ap keys_of_unit can.fresh)
        ∙ union-symm empty keys ∙ union-empty keys

    locks_are : HoldAlike locks.locks (locks_of killed.live killed.units.units)
    locks_are h =
        held h
        ∙ alike-insert killed.locks.locks _ (UnitHolder number) _ _ its_keys killed_locks h
        ∙ unit_begun killed.live old.units.units number unit h
        ∙ ap (λ (t : UnitTable). keys_at (locks_of killed.live t.units) h) (sym killed_units)

    pub begin_done : DoneOver order (unit_started number keys) old (record killed { locks = locks })
        (answer.Started number aborted)
    begin_done =
        let at = kills.at ∙ ap (λ (m : ModelNode). (with_sent m sent).at) unchanged.plain in
        let ring = unchanged_ring old mid unchanged in
        let base = rows_at order old.at.committed in
        let grown = ap (λ (t : UnitTable). t.room) kills.units in
        done_by order (unit_started number keys) old (record killed { locks = locks })
        (answer.Started number aborted) can.stands same
        (λ f. started_keeps order n number (record {
          number = can.label;
          trx = can.trx;
          keys = keys;
        }) back f (record { above = can.above; within = can.within; is_commit = can.is_commit })
        can.fresh can.remote can.clear)
        (old.at.serial + length sent) old.at.begin at
        (record {
          ring = kills.ring.ring ∙ ring.ring;
          since = kills.ring.since ∙ ring.since;
          id = kills.ring.id ∙ ring.id;
        })
        (kills.inbox ∙ unchanged.inbox) (kills.certification ∙ unchanged.certification)
        (record {
          locks = locks_are;
          rows = subst (λ (a : Progress). Tabled (rows_at order a.committed) killed.live
              killed.rows) (sym at)
              (kills.rows base (subst (λ m. Tabled base m mid.rows) (sym live_is)
              (same_tabled base old.live old.rows mid.rows can.stands.tables.rows
              unchanged.committed unchanged.changes)));
          units = subst (AreWorked order) (sym killed_units)
              (worked_put order old.units number unit (record { rows = rows; done = None })
              (old.units.room + rows) can.stands.tables.units
              (record { rows = count; task = refl }));
          room = omega (arith, grown, room, kills.room);
        })

-- the node's numbers are in range, also with a rollback of each live transaction
pub can_take_back : (node : NodeParts) → ProgressInRange node.at → len node.live ≤ 33 → node.at.serial < 2 ^ 63 → CanTakeBack (plain_of node)
can_take_back node range few low = record {
  member = range.member;
  committed = range.committed;
  serial = omega (arith, few, low);
  begin = range.begin;
}
