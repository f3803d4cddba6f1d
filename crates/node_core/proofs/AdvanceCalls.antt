-- Committing the next number does what the model does.
use Rattle.std.proofs.Common.{◌≡◌, ℕ, ◌+◌, ◌≤◌, ◌<◌, Bool, true, false, cond, List, [], length, Option, None, Some, refl, ap, sym, subst, ◌∙◌, arith}
use Rattle.std.specs.Prelude.{◌==◌, ◌||◌, not, is_some, is_none, option_map}
use Rattle.std.specs.Ordering.{nat_cmp}
use Rattle.std.specs.Cmp.{nat_cmp_total}
use Rattle.std.proofs.Math.Bool.{or-false}
use Rattle.std.proofs.lemmas.Bool.{eq-eqb, ne_eqb}
use Rattle.std.proofs.lemmas.Option.{same_Some}
use Rattle.finite_map.proofs.Edits.{numbers, left}
use Rattle.finite_map.specs.FiniteMap.{FiniteMap, get, insert, remove, get-remove}
use Rattle.undo_rows.specs.RowTable.{RowTable}
use Rattle.row_model.specs.declared.calls.Reply.{Reply}
use Rattle.row_model.specs.declared.calls.Reply.TheVariants as reply
use Rattle.row_model.specs.Rows.{Rows, ops_on}
use Rattle.row_locks.specs.declared.holder.Holder.TheVariants.{Session, Unit as UnitHolder}
use Rattle.row_locks.specs.Locks.{LockState}
use Rattle.row_locks.specs.Alike.{HoldAlike}
use Rattle.row_locks.proofs.AlikeLaws.{alike_between, alike-remove}
use Rattle.wsrep_base.specs.declared.verdict.Judged.{Judged}
use Rattle.wsrep_watch.specs.declared.note.Note.{Note}
use Rattle.order_event.specs.declared.event.Event.{Event}
use Rattle.order_event.specs.declared.step.Answer.{Answer}
use Rattle.order_event.specs.declared.step.Answer.TheVariants as answer
use Rattle.apply_unit.specs.Results.{put_all}
use Rattle.apply_unit.specs.Task.{ModelTask}
use Rattle.cert_meaning.specs.declared.items.CommitItem.{CommitItem}
use Rattle.certification.specs.Certifies.{ModelCertification, Certifies, commit_with}
use Rattle.certification.proofs.Ahead.{commit-is}
use Rattle.client_trx.specs.declared.status.Status.{Status}
use Rattle.client_trx.specs.declared.status.Status.TheVariants as status
use Rattle.client_trx.specs.Live.{Live, has_locks}
use Rattle.node_meaning.specs.Node.{ModelNode, ApplyUnit, rows_at, seen_rows, passed_at, locks_of}
use Rattle.node_meaning.specs.declared.progress.Stage.{Stage}
use Rattle.node_meaning.specs.declared.progress.Stage.TheVariants as stage
use Rattle.node_meaning.specs.Steps.{is_certified_at, is_replaying_at, is_local, is_finished, committer_of, told_committed, committed_next, is_ready, advance_step}
use Rattle.node_meaning.specs.Units.{ops_at, unit_task, judged_at}
use Rattle.node_meaning.proofs.EntryLaws.{some_not_none}
use Rattle.node_meaning.proofs.LockLaws.{locks_of-remove, locks_of-remove_unit}
use Rattle.node_meaning.proofs.UnitLaws.{rows-event, rows-committer, task-unit}
use Rattle.node_meaning.proofs.AdvanceFacts.{committer_there, commits_at, rows-none, committer-none, not_local, unit-finished, units-local}
use Rattle.node_parts.specs.Units.{Work, without, done_of, rows_of}
use Rattle.node_core.specs.declared.node.NodeParts.{NodeParts}
use Rattle.node_core.proofs.Standing.{serves_by, facts_by}
use Rattle.node_core.specs.Tabled.{Tabled}
use Rattle.node_core.specs.Advancing.{AreFree, results_of, TakesUnit, IsCommitted, AfterCommitter}
use Rattle.node_core.specs.Watching.{noted, note_at}
use Rattle.node_laws.proofs.StepFacts.{advance_keeps}
use Rattle.node_core.specs.Stands.{Stands, AreWorked, IsWorked, HasTask, DoneOver, plain_of}
use Rattle.node_core.proofs.Tabling.{tabled-put, tabled-kept}
use Rattle.node_core.proofs.CertifyCalls.{two_ways}
use Rattle.node_core.proofs.UnitRows.{unit_free, unit_length, rows_left}
use Rattle.node_core.proofs.ImageCalls.{put_named}

not_some : {A : Type 0} (o : Option A) → not (is_some o) ≡ is_none o
not_some None = refl
not_some (Some a) = refl

-- the end of a transaction leaves certification
after_certification : (o : Option (ℕ × Live)) (number : ℕ) (mid new : NodeParts) → AfterCommitter o number mid new
    → new.certification ≡ mid.certification
after_certification None number mid new is = ap (λ (n : NodeParts). n.certification) is
after_certification (Some e) number mid new is = ap (λ (n : NodeParts). n.certification) is.rest

-- a transaction that commits at a number and has locks is Certified there
certified_locks : (number : ℕ) (s : Status)
    → is_certified_at number s || is_replaying_at number s ≡ true → has_locks s ≡ true
    → is_certified_at number s ≡ true
certified_locks number (status.Certified own) now locks = sym (or-false (number == own)) ∙ now
certified_locks number _ now locks = cc

no_locks : (number : ℕ) (s : Status) → has_locks s ≡ false → is_certified_at number s ≡ false
no_locks number (status.Certified own) none = cc
no_locks number _ none = refl

-- ---- a finished unit has its task
finished_done : (order : List Event) (number : ℕ) (units : FiniteMap nat_cmp ApplyUnit) (table : FiniteMap nat_cmp Work)
    → (o : Option ApplyUnit) → get units number ≡ o → is_finished o ≡ true
    → ((u : ApplyUnit) → get units number ≡ Some u → (work : Work) × (get table number ≡ Some work) × IsWorked order number u work)
    → (u : ApplyUnit) × (get units number ≡ Some u) × (done_of (get table number) ≡ Some (unit_task order number))
finished_done order number units table None is finished worked = cc
finished_done order number units table (Some u) is finished worked =
    let w = worked u is in
    (u, is, ap done_of w.1 ∙ by_stage u.stage finished w.0 w.2.task)
  where
    by_stage : (s : Stage) → is_finished (Some (record { stage = s; keys = u.keys })) ≡ true → (work : Work) → HasTask order number work s
        → work.done ≡ Some (unit_task order number)
    by_stage stage.Started h work has = cc
    by_stage stage.Finished h work has = has

no_results : (o : Option ModelTask) → is_some o ≡ false → results_of o ≡ []
no_results None none = refl
no_results (Some task) none = cc

module _ (order : List Event) (old : NodeParts) (stands : Stands order old) where
  abbrev next : ℕ
  next = old.at.committed + 1

  pub advance_nothing : old.at.committed ≡ old.at.certified
      → DoneOver order (λ n. advance_step order n) old old answer.Nothing
  unfolding advance_step
  advance_nothing all = record {
    same = rw (eq-eqb old.at.committed old.at.certified all) refl;
    stands = stands;
  }

  module _ (finished : is_finished (get old.units.units next) ≡ true) where
    task_there : (u : ApplyUnit) × (get old.units.units next ≡ Some u) × (done_of (get old.units.work next) ≡ Some (unit_task order next))
    task_there = finished_done order next old.units.units old.units.work (get old.units.units next) refl finished (stands.tables.units.worked next)

    pub results_free : AreFree old.rows.changes (results_of (done_of (get old.units.work next)))
    results_free =
        subst (λ o. AreFree old.rows.changes (results_of o)) (sym task_there.2)
        (unit_free order (plain_of old) stands.facts next task_there.0 task_there.1 (rows_at order old.at.committed) old.rows stands.tables.rows)

    pub results_few : length (results_of (done_of (get old.units.work next))) ≤ rows_of (get old.units.work next)
    results_few =
        let w = stands.tables.units.worked next task_there.0 task_there.1 in
        let long = ap (λ o. length (results_of o)) task_there.2 ∙ unit_length order (plain_of old) stands.facts next task_there.0 task_there.1 in
        let rows = ap rows_of w.1 ∙ w.2.rows in
        omega (arith, long, rows)

  module _ (differs : old.at.committed ≡ old.at.certified → ⊥) where
    more : old.at.committed < old.at.certified
    more = let fits = stands.facts.in_order.committed_fits in omega (arith, differs, fits)

    within : old.at.certified ≤ length order
    within = omega (arith, stands.facts.in_order.certified_fits, stands.facts.in_order.taken_fits)

    step_is : (b : Bool) → is_ready order (plain_of old) next ≡ b
        → advance_step order (plain_of old)
        ≡ cond {A = Answer × ModelNode} b (answer.At next, committed_next (plain_of old) next)
        (answer.NotReady next, plain_of old)
    unfolding advance_step
    step_is b is = rw (ne_eqb old.at.committed old.at.certified differs, is) refl

    -- the code's reads tell whether it is ready
    pub ready_is : is_none (commit_with next old.certification) || is_finished (get old.units.units next) || is_local old.live next
        ≡ is_ready order (plain_of old) next
    ready_is =
        ap (λ b. b || is_finished (get old.units.units next) || is_local old.live next)
        (ap is_none (commit-is order old.at.committed old.at.certified old.certification stands.certification next (omega arith))
        ∙ sym (not_some (passed_at order old.at.committed old.at.certified next)))

    -- what certification tells of the number makes its note
    pub note_told : (mid : NodeParts) → TakesUnit next old mid → (new : NodeParts) → AfterCommitter (committer_of mid.live next) next mid new
        → (told : Option Judged) (given : Option Note)
        → (Certifies order old.at.committed old.at.certified new.certification → next ≡ next → old.at.committed < old.at.certified
        → told ≡ Some (judged_at order next))
        → given ≡ option_map (noted next) told → given ≡ Some (note_at order next)
    note_told mid takes new after told given judged is =
        let same : new.certification ≡ old.certification =
        after_certification (committer_of mid.live next) next mid new after ∙ ap (λ (n : NodeParts). n.certification) takes.rest in
        is ∙ ap (option_map (noted next))
        (judged (subst (Certifies order old.at.committed old.at.certified) (sym same) stands.certification) refl more)

    pub advance_waits : is_ready order (plain_of old) next ≡ false → DoneOver order (λ n. advance_step order n) old old (answer.NotReady next)
    advance_waits waits = record { same = sym (step_is false waits); stands = stands }

    module _ (ready : is_ready order (plain_of old) next ≡ true) (mid : NodeParts) (takes : TakesUnit next old mid) where
      -- ---- the rows after the unit
      rows_finished : is_finished (get old.units.units next) ≡ true → Tabled (rows_at order next) old.live mid.rows
      rows_finished finished =
          let task = task_there finished in
          let event = rows-event order old.at.committed (omega (arith, more, within)) in
          tabled-put (rows_at order old.at.committed) old.live old.rows mid.rows stands.tables.rows (rows_at order next)
          (takes.committed ∙ ap (put_all (results_of (done_of (get old.units.work next)))) stands.tables.rows.committed
          ∙ ap (λ o. put_all (results_of o) (rows_at order old.at.committed)) task.2
          ∙ ap (λ (t : ModelTask). put_all (results_of (Some t)) (rows_at order old.at.committed))
          (task-unit order (plain_of old) next task.0 stands.facts task.1)
          ∙ put_named (ops_at order next) (rows_at order old.at.committed)
          ∙ sym event)
          takes.changes
          (λ q id row made. ap (λ r. get r id) event
          ∙ rows_left order (plain_of old) stands.facts next task.0 task.1 (rows_at order old.at.committed) q id row made)

      rows_waiting : is_finished (get old.units.units next) ≡ false → Tabled (rows_at order old.at.committed) old.live mid.rows
      rows_waiting none =
          tabled-put (rows_at order old.at.committed) old.live old.rows mid.rows stands.tables.rows (rows_at order old.at.committed)
          (takes.committed ∙ ap (λ images. put_all images old.rows.committed)
          (no_results (done_of (get old.units.work next)) (takes.finished ∙ none))
          ∙ stands.tables.rows.committed)
          takes.changes
          (λ q id row made. refl)

      -- ---- the rows after the transaction
      passed_or : {P : Type 0} (o : Option CommitItem) → passed_at order old.at.committed old.at.certified next ≡ o
          → (passed_at order old.at.committed old.at.certified next ≡ None → P)
          → ((c : CommitItem) → passed_at order old.at.committed old.at.certified next ≡ Some c → P) → P
      passed_or None is none some = none is
      passed_or (Some c) is none some = some c is

      rows_none : committer_of old.live next ≡ None → Tabled (rows_at order next) old.live mid.rows
      rows_none none =
          passed_or (passed_at order old.at.committed old.at.certified next) refl
          (λ absent. two_ways (is_finished (get old.units.units next)) rows_finished
          (λ waits. subst (λ rows. Tabled rows old.live mid.rows) (sym (rows-none order (plain_of old) stands.facts more absent)) (rows_waiting waits)))
          (λ c is. rows_finished (unit-finished order (plain_of old) stands.facts more c is
          (not_local order (plain_of old) stands.facts more (λ s t one. absurd (some_not_none (s, t) (committer_of old.live next) one none))) ready))

      module _ (s : ℕ) (t : Live) (one : committer_of old.live next ≡ Some (s, t)) (new : NodeParts) (is : IsCommitted s next mid new) where
        here : (get old.live s ≡ Some t) × (commits_at next (s, t) ≡ true)
        here = committer_there order (plain_of old) stands.facts next s t one

        -- what the session saw is committed
        kept : (rows : Rows) → Tabled rows old.live mid.rows → (b : Bool) → has_locks t.status ≡ b
            → Tabled (cond b (ops_on t.ops rows) rows) (remove old.live s) new.rows
        kept rows tabled b locks =
            subst (λ r. Tabled r (remove old.live s) new.rows)
            (ap (seen_rows rows) here.0 ∙ ap (λ b. cond b (ops_on t.ops rows) rows) locks)
            (tabled-kept rows old.live mid.rows new.rows tabled s is.committed is.changes)

        kept_locks : has_locks t.status ≡ true → Tabled (rows_at order next) (remove old.live s) new.rows
        kept_locks locks =
            let certified = certified_locks next t.status here.1 locks in
            let none = units-local order (plain_of old) stands.facts more s t one certified in
            subst (λ rows. Tabled rows (remove old.live s) new.rows) (sym (rows-committer order (plain_of old) stands.facts more s t one))
            (kept (rows_at order old.at.committed) (rows_waiting (ap is_finished none)) true locks)

        kept_nothing : has_locks t.status ≡ false → Tabled (rows_at order next) (remove old.live s) new.rows
        kept_nothing none =
            passed_or (passed_at order old.at.committed old.at.certified next) refl
            (λ absent. absurd (some_not_none (s, t) (committer_of old.live next) one (committer-none order (plain_of old) stands.facts more absent)))
            (λ c passed. kept (rows_at order next)
            (rows_finished (unit-finished order (plain_of old) stands.facts more c passed
            (not_local order (plain_of old) stands.facts more (λ o u other.
            ap (λ (e : ℕ × Live). is_certified_at next e.1.status) (same_Some (o, u) (s, t) (sym other ∙ one)) ∙ no_locks next t.status none)) ready))
            false none)

        rows_some : Tabled (rows_at order next) (remove old.live s) new.rows
        rows_some = two_ways (has_locks t.status) kept_locks kept_nothing

      -- ---- the other parts
      units_left : AreWorked order (without old.units next)
      units_left = record {
        worked = λ number u is.
            let l = left numbers old.units.units next number u is in
            let w = stands.tables.units.worked number u l.there in
            (w.0, get-remove nat_cmp_total old.units.work next number ∙ ap (λ b. cond b None (get old.units.work number)) l.elsewhere ∙ w.1, w.2);
      }

      -- how many rows may still be put
      room_left : (without old.units next).room ≤ mid.rows.spare
      room_left = two_ways (is_finished (get old.units.units next))
          (λ finished. let few = results_few finished in
          omega (arith, few, takes.spare, stands.tables.room))
          (λ waits. let none = ap length (no_results (done_of (get old.units.work next))
          (takes.finished ∙ waits)) in
          omega (arith, none, takes.spare, stands.tables.room))

      -- ---- the node after both
      abbrev taken : NodeParts
      taken = record old { units = without old.units next; locks = mid.locks; rows = mid.rows }

      mid_is : mid ≡ taken
      mid_is = takes.rest
          ∙ ap (λ units. record old { units = units; locks = mid.locks; rows = mid.rows })
          takes.units

      mid_locks : HoldAlike mid.locks.locks (locks_of old.live (remove old.units.units next))
      mid_locks =
          alike_between _ _ _ _ takes.locks
          (alike-remove old.locks.locks _ (UnitHolder next) stands.tables.locks)
          (sym (locks_of-remove_unit old.live old.units.units next))

      module _ (new : NodeParts) (certification : ModelCertification)
          (committed : Certifies order old.at.committed old.at.certified new.certification
          → Certifies order next old.at.certified certification) where
        abbrev with_next : NodeParts → NodeParts
        with_next m = record m {
          at = record m.at { committed = next };
          certification = certification;
        }

        abbrev next_of : ModelNode → ModelNode
        next_of n = record n {
          at = record n.at { committed = next };
          units = remove old.units.units next;
        }

        done : (live : FiniteMap nat_cmp Live) (waiting : FiniteMap nat_cmp Reply)
            (locks : LockState) (rows : RowTable)
            → new ≡ record taken { live = live; waiting = waiting; locks = locks; rows = rows }
            → committed_next (plain_of old) next
            ≡ next_of (record (plain_of old) { live = live; waiting = waiting })
            → HoldAlike locks.locks (locks_of live (remove old.units.units next))
            → Tabled (rows_at order next) live rows → mid.rows.spare ≤ rows.spare
            → DoneOver order (λ n. advance_step order n) old (with_next new) (answer.At next)
        done live waiting locks rows new_is told alike tabled spare =
            let after = with_next
            (record taken { live = live; waiting = waiting; locks = locks; rows = rows }) in
            let same : (answer.At next, plain_of after) ≡ advance_step order (plain_of old) =
            sym (step_is true ready ∙ ap (λ m. (answer.At next, m)) told) in
            subst (λ m. DoneOver order (λ n. advance_step order n) old (with_next m)
            (answer.At next)) (sym new_is)
            (record {
              same = same;
              stands = record {
                inbox = stands.inbox;
                certification = committed (subst (Certifies order old.at.committed old.at.certified)
                    (sym (ap (λ (m : NodeParts). m.certification) new_is)) stands.certification);
                tables = record {
                  locks = alike;
                  rows = tabled;
                  units = units_left;
                  room = omega (arith, room_left, spare);
                };
                serves = serves_by order old after (record { ring = refl; since = refl; id = refl })
                    refl (λ is. is) stands.serves;
                facts = facts_by order (λ n. advance_step order n) old after (answer.At next) stands
                    same (advance_keeps order (plain_of old));
              };
            })

        done_by : (o : Option (ℕ × Live)) → committer_of old.live next ≡ o
            → AfterCommitter o next mid new
            → DoneOver order (λ n. advance_step order n) old (with_next new) (answer.At next)
        done_by None is after =
            done old.live old.waiting mid.locks mid.rows (after ∙ mid_is)
            (ap (told_committed (next_of (plain_of old)) next) is) mid_locks (rows_none is)
            (omega arith)
        done_by (Some e) is after =
            let live = after.live ∙ ap (λ (m : NodeParts). remove m.live e.0) mid_is in
            let waiting = after.waiting
            ∙ ap (λ (m : NodeParts). insert m.waiting e.0 (reply.Committed next)) mid_is in
            done (remove old.live e.0) (insert old.waiting e.0 (reply.Committed next)) new.locks
            new.rows
            (after.rest ∙ (λ i. record (mid_is i) {
              live = live i;
              waiting = waiting i;
              locks = new.locks;
              rows = new.rows;
            }))
            (ap (told_committed (next_of (plain_of old)) next) is)
            (alike_between _ _ _ _ after.locks
            (alike-remove mid.locks.locks _ (Session e.0) mid_locks)
            (sym (locks_of-remove old.live (remove old.units.units next) e.0)))
            (rows_some e.0 e.1 is new after) after.spare

        pub advance_does : AfterCommitter (committer_of mid.live next) next mid new
            → DoneOver order (λ n. advance_step order n) old (with_next new) (answer.At next)
        advance_does after =
            done_by (committer_of old.live next) refl
            (subst (λ (m : NodeParts). AfterCommitter (committer_of m.live next) next mid new)
            mid_is after)
