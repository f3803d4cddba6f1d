-- Every step of a node keeps its facts.
use Rattle.std.proofs.Common.{◌≡◌, ℕ, ◌<◌, true, false, inl, List, [], ◌∷◌, Option, None, Some, refl, ap, sym, ◌∙◌, true≢false}
use Rattle.std.specs.Prelude.{IsTrue}
use Rattle.std.specs.Ordering.{nat_cmp}
use Rattle.finite_map.specs.FiniteMap.{FiniteMap, get, remove}
use Rattle.finite_map.proofs.Edits.{numbers, get-taken, remove-absent}
use Rattle.wsrep_base.specs.Trx.{greatest}
use Rattle.key_sets.specs.Keys.{touches}
use Rattle.key_sets.proofs.ListLemmas.{In}
use Rattle.row_model.specs.declared.calls.Call.{Call}
use Rattle.row_model.specs.declared.calls.Reply.{Reply}
use Rattle.row_model.specs.Names.{call_fits}
use Rattle.order_event.specs.declared.event.Event.{Event}
use Rattle.cert_meaning.specs.declared.items.CommitItem.{CommitItem}
use Rattle.client_trx.specs.Live.{Live}
use Rattle.row_locks.specs.Locks.{touching_sessions}
use Rattle.node_meaning.specs.declared.progress.Phase.{Phase}
use Rattle.node_meaning.specs.declared.progress.Phase.TheVariants as phase
use Rattle.node_meaning.specs.Node.{ModelNode, locks_of, end_live, ahead}
use Rattle.node_meaning.specs.Client.{Statement, statement, begin_call, commit_call, rollback_call, is_pending, told_first, client}
use Rattle.node_meaning.specs.Steps.{is_local, started, touching_before, take_step, certify_step, start_step, finish_step, advance_step, report_step, drained}
use Rattle.node_meaning.specs.Facts.{Facts, CallInRange, ProgressInRange, commit_at}
use Rattle.node_meaning.proofs.ClientFacts.{StatementFits}
use Rattle.node_meaning.proofs.PassedLaws.{IsPassed, passed-is, from_touching}
use Rattle.node_laws.proofs.Moves.{MayBegin, with_begun, Pays, Quiet, Tells, Begins, Ends, Reaches, Here, one, to_same}
use Rattle.node_laws.proofs.ClientMoves.{CanCall, statement_moves, commit_moves, rollback_moves, client_moves}
use Rattle.node_laws.proofs.TakeMoves.{take_moves}
use Rattle.node_laws.proofs.CertifyMoves.{certify_moves}
use Rattle.node_laws.proofs.UnitMoves.{CanTakeBack, start_moves, started_moves, finish_moves}
use Rattle.node_laws.proofs.ReportMoves.{report_moves}
use Rattle.node_laws.proofs.AdvanceMoves.{CanDrain, advance_moves, drained_moves}
use Rattle.node_laws.proofs.FactsMoved.{facts_moved, facts_reached, certified_inside}

-- whatever answers wait, and whether or not it has left
beside : (order : List Event) (n : ModelNode) (now : Phase) (waiting : FiniteMap nat_cmp Reply)
    → Facts order n
    → Facts order (record n { at = record n.at { phase = now }; waiting = waiting })
beside order n now waiting f = record {
  in_order = f.in_order;
  sendable = f.sendable;
  sent = f.sent;
  units = f.units;
  remote = f.remote;
  apart = f.apart;
}

module _ (order : List Event) (n : ModelNode) where
  reached : (k : ℕ) (m : ModelNode) → Reaches order (Unit {0}) true n k m → Facts order n
      → Facts order m
  reached k m row f = facts_reached order (Unit {0}) true tt n k m row f

  pub take_keeps : Facts order n → Facts order (take_step order n).1
  take_keeps = reached 0 _ (take_moves order _ true n)

  pub certify_keeps : Facts order n → Facts order (certify_step order n).1
  certify_keeps = reached 0 _ (certify_moves order _ true n)

  pub start_keeps : (number : ℕ) → CanTakeBack n → Facts order n
      → Facts order (start_step order n number).1
  start_keeps number can =
      facts_reached order (CanTakeBack n) true can n 0 _
      (start_moves order (CanTakeBack n) n number (λ g inside. g))

  pub finish_keeps : (number : ℕ) → Facts order n → Facts order (finish_step n number).1
  finish_keeps number = reached 0 _ (finish_moves order _ n number)

  pub advance_keeps : Facts order n → Facts order (advance_step order n).1
  advance_keeps = reached 0 _ (advance_moves order _ n)

  pub report_keeps : Facts order n → Facts order (report_step n).1
  report_keeps = reached 1 _ (report_moves order _ true n)

  pub drained_keeps : CanDrain order n → Facts order n → Facts order (drained order n)
  drained_keeps can =
      facts_reached order (CanDrain order n) true can n 0 _
      (drained_moves order (CanDrain order n) n (λ g. g))

  -- ---- a client call
  module _ (s : ℕ) where
    ended_by : (o : Option Live) → get n.live s ≡ o
        → Reaches order (Unit {0}) true n 0 (end_live n s)
    ended_by None there =
        to_same 0 n n (end_live n s)
        (ap (λ (live : FiniteMap nat_cmp Live). record n { live = live })
        (remove-absent numbers n.live s there)) Here
    ended_by (Some t) there = one 0 n _ (Ends s t None there)

    pub ended_keeps : Facts order n → Facts order (end_live n s)
    ended_keeps = reached 0 _ (ended_by (get n.live s) refl)

    pub begin_keeps : (unit : ℕ) (o : Option Live) → get n.live s ≡ o → Facts order n
        → Facts order (begin_call n s unit o).1
    begin_keeps unit None there f =
        let told : ModelNode = record n {
          at = record n.at { phase = phase.Connected };
          waiting = remove n.waiting s;
        } in
        let may : MayBegin told s = record {
          connected = refl;
          none = there;
          told = get-taken numbers n.waiting s;
        } in
        beside order (with_begun told s unit) n.at.phase n.waiting
        (facts_moved order (Unit {0}) tt told Pays _ (Begins s unit may)
        (beside order n phase.Connected told.waiting f))
    begin_keeps unit (Some t) there f = f

    pub statement_keeps : (o : Option Live) → get n.live s ≡ o → is_pending o ≡ false
        → (st : Statement) → StatementFits st → ProgressInRange n.at
        → Facts order n → Facts order (statement order n s o st).1
    statement_keeps o there idle st fits range =
        reached 1 _ (statement_moves order true n s _ o st there idle (λ _. fits) (λ _. range))

    pub commit_keeps : (o : Option Live) → get n.live s ≡ o → is_pending o ≡ false
        → ProgressInRange n.at
        → Facts order n → Facts order (commit_call n s o).1
    commit_keeps o there idle range =
        reached 1 _ (commit_moves order true n s _ o there idle (λ _. range))

    pub rollback_keeps : (o : Option Live) → get n.live s ≡ o → ProgressInRange n.at
        → Facts order n → Facts order (rollback_call n s o).1
    rollback_keeps o there range =
        reached 1 _ (rollback_moves order true n s _ o there (λ _. range))

    pub told_keeps : (waiting : Option Reply) (otherwise : Reply × ModelNode) → Facts order n
        → Facts order otherwise.1
        → Facts order (told_first n s waiting otherwise).1
    told_keeps (Some waiting) otherwise f g = facts_moved order (Unit {0}) tt n Quiet _ (Tells s) f
    told_keeps None otherwise f g = g

  pub client_keeps : (s : ℕ) (c : Call) → IsTrue (call_fits c) → CallInRange c
      → ProgressInRange n.at → Facts order n → Facts order (client order n s c).1
  client_keeps s c names values range f =
      facts_reached order (CanCall n c) true (record {
        names = names;
        values = values;
        range = range;
      }) n 1 _ (client_moves order true n s c) f

  -- ---- a unit that starts
  none_greatest : (ns : List ℕ) → ((m : ℕ) → In m ns → ⊥) → greatest ns ≡ None
  none_greatest [] none = refl
  none_greatest (m ∷ ms) none = absurd (none m (inl refl))

  pub started_keeps : (number : ℕ) (commit : CommitItem) → CanTakeBack n → Facts order n
      → IsPassed order n.at.committed n.at.certified number commit
      → get n.units number ≡ None → is_local n.live number ≡ false
      → ((earlier : ℕ) (c : CommitItem) → n.at.committed < earlier → earlier < number
      → commit_at order earlier ≡ Some c
      → touches c.keys commit.keys ≡ false)
      → Facts order (started n number commit.keys
      (touching_sessions (locks_of n.live n.units) commit.keys)).1
  started_keeps number commit can f passed fresh remote clear =
      let inside = certified_inside order n f in
      facts_reached order (CanTakeBack n) true can n 0 _
      (started_moves order (CanTakeBack n) n number (λ g inside. g) commit
      (passed-is order n.at.committed n.at.certified number passed.above passed.within inside
      ∙ passed.is_commit) fresh remote
      (none_greatest (touching_before (ahead order n.at.committed n.at.certified) number
      commit.keys) (λ earlier i.
      let way = from_touching order n.at.committed n.at.certified number commit.keys inside earlier
      i in
      true≢false (sym way.touching ∙ clear earlier way.item way.above way.below way.is_commit)))) f
