-- Every client call is at most one move that pays, and one more where a statement sends a fragment.
use Rattle.std.proofs.Common.{◌≡◌, ℕ, Bool, true, false, List, Option, None, Some, refl, ap, sym}
use Rattle.std.specs.Prelude.{◌==◌, ◌&&◌, ◌||◌, nat_lt, IsTrue, length}
use Rattle.std.proofs.lemmas.Bool.{or_parts}
use Rattle.finite_map.specs.FiniteMap.{FiniteMap, get}
use Rattle.finite_map.proofs.Edits.{numbers, get-put, insert-insert}
use Rattle.row_model.specs.declared.ops.Op.{Op}
use Rattle.std.specs.Ordering.{nat_cmp}
use Rattle.row_model.specs.declared.calls.Call.{Call}
use Rattle.row_model.specs.declared.calls.Call.TheVariants as call
use Rattle.row_model.specs.declared.calls.Reply.{Reply}
use Rattle.row_model.specs.declared.calls.Reply.TheVariants as reply
use Rattle.row_model.specs.Names.{place_fits, call_fits}
use Rattle.order_event.specs.declared.event.Event.{Event}
use Rattle.write_set.proofs.RulesOf.{both}
use Rattle.write_set.specs.declared.write_set.WriteSet.{WriteSet}
use Rattle.client_trx.specs.Live.{Live, is_due, fragment_of, fragment_sent, rollback_due}
use Rattle.node_meaning.specs.Node.{ModelNode, is_left, is_joining, is_connected, set_live, end_live, send, send_any}
use Rattle.node_meaning.specs.Client.{Statement, inserting, updating, deleting, sharing, extended, met_by, refusal, send_fragment, changed, accepted, statement_by, statement, begin_call, send_commit, commit_call, rollback_call, served, is_pending, asked, told_first, client}
use Rattle.node_meaning.specs.Facts.{CallInRange, ProgressInRange}
use Rattle.node_meaning.proofs.ClientFacts.{StatementFits, due_change, running_of}
use Rattle.node_laws.proofs.Moves.{connected_from, IsRunning, Tells, Begins, Extends, Streams, Sends, Ends, TakesBack, Reaches, Here, Paying, one, paid, at_most, chosen, to_same}

-- a call whose names have their form and whose values are in range, of a node whose numbers are
pub record CanCall (n : ModelNode) (c : Call) : Type 0 where
  pub names : IsTrue (call_fits c)
  pub values : CallInRange c
  pub range : ProgressInRange n.at

module _ (order : List Event) (works : Bool) (n : ModelNode) (s : ℕ) where
  module _ (given : Type 0) where
    pub begin_moves : (unit : ℕ) (o : Option Live) → is_connected n.at.phase ≡ true → get n.live s ≡ o
        → get n.waiting s ≡ None → Reaches order given works n 1 (begin_call n s unit o).1
    begin_moves unit None connected there told =
        paid n _ (Begins s unit (record { connected = connected; none = there; told = told }))
    begin_moves unit (Some t) connected there told = Here

    module _ (t : Live) (st : Statement) (here : IsRunning n s t) (fits : given → StatementFits st)
        (range : given → ProgressInRange n.at) where
      abbrev after : Live
      after = extended t st

      abbrev with_after : ModelNode
      with_after = set_live n s after

      fragment_same : send_fragment n s after ≡ send_fragment with_after s after
      fragment_same =
          ap (λ (live : FiniteMap nat_cmp Live). record (send n (fragment_of after n.at.serial n.at.committed)) { live = live })
          (sym (insert-insert numbers n.live s after (fragment_sent after)))

      module _ (free : refusal (met_by order n s t st) st.change ≡ None) where
        extends : Reaches order given works n 0 with_after
        extends = one 0 n _ (Extends s t st here fits free)

        changed_moves : (due : Bool) → is_due after ≡ due → Reaches order given works n 1 (changed due n s after).1
        changed_moves true due =
            to_same 1 n (send_fragment with_after s after) (send_fragment n s after) fragment_same
            (Paying extends (Streams s after
            (record { there = get-put numbers n.live s after; running = here.running }) (due_change after due) range))
        changed_moves false due = at_most 1 n _ extends

        accepted_moves : (row : Option (List ℕ)) (change : Option Op)
            → Reaches order given works n 1 (accepted n s row change after).1
        accepted_moves row None = at_most 1 n _ extends
        accepted_moves row (Some c) = changed_moves (is_due after) refl

      refused_moves : (row : Option (List ℕ)) (why : Option Reply) → refusal (met_by order n s t st) st.change ≡ why
          → Reaches order given works n 1 (statement_by why n (accepted n s row st.change after)).1
      refused_moves row (Some why) is = Here
      refused_moves row None is = accepted_moves is row st.change

    pub statement_moves : (o : Option Live) (st : Statement) → get n.live s ≡ o → is_pending o ≡ false
        → (given → StatementFits st) → (given → ProgressInRange n.at)
        → Reaches order given works n 1 (statement order n s o st).1
    statement_moves None st there idle fits range = Here
    statement_moves (Some t) st there idle fits range =
        let met = met_by order n s t st in
        refused_moves t st (record { there = there; running = running_of t idle }) fits range met.row (refusal met st.change) refl

    pub commit_moves : (o : Option Live) → get n.live s ≡ o → is_pending o ≡ false
        → (given → ProgressInRange n.at) → Reaches order given works n 1 (commit_call n s o).1
    commit_moves None there idle range = Here
    commit_moves (Some t) there idle range =
        chosen 1 n (length t.ops == 0 && t.sent == 0) (reply.Committed 0, end_live n s) (reply.Pending, send_commit n s t)
        (λ _. one 1 n _ (Ends s t None there))
        (λ _. paid n _ (Sends s t (record { there = there; running = running_of t idle }) range))

    back_moves : (t : Live) → get n.live s ≡ Some t → (given → ProgressInRange n.at)
        → (due : Option WriteSet) → rollback_due t n.at.serial n.at.committed ≡ due
        → Reaches order given works n 1 (end_live (send_any n due) s)
    back_moves t there range None due = one 1 n _ (Ends s t None there)
    back_moves t there range (Some w) due = one 1 n _ (TakesBack s t w None there due (λ g inside. range g))

    pub rollback_moves : (o : Option Live) → get n.live s ≡ o → (given → ProgressInRange n.at)
        → Reaches order given works n 1 (rollback_call n s o).1
    rollback_moves None there range = Here
    rollback_moves (Some t) there range =
        back_moves t there range (rollback_due t n.at.serial n.at.committed) refl

  served_moves : (o : Option Live) (c : Call) → is_connected n.at.phase ≡ true → get n.live s ≡ o
      → get n.waiting s ≡ None → is_pending o ≡ false
      → Reaches order (CanCall n c) works n 1 (served order n s o c).1
  served_moves o (call.Begin unit) connected there told idle = begin_moves _ unit o connected there told
  served_moves o (call.Insert id row) connected there told idle =
      statement_moves _ o (inserting id row) there idle
      (λ h. record { names = h.names; key = record { form = h.names; key = refl }; place = h.values.0; change = h.values })
      (λ h. h.range)
  served_moves o (call.Update id change) connected there told idle =
      statement_moves _ o (updating id change) there idle
      (λ h. record { names = (both (place_fits id) _ h.names).0; key = record { form = h.names; key = refl }; place = h.values.0; change = h.values })
      (λ h. h.range)
  served_moves o (call.Delete id) connected there told idle =
      statement_moves _ o (deleting id) there idle
      (λ h. record { names = h.names; key = record { form = h.names; key = refl }; place = h.values; change = h.values })
      (λ h. h.range)
  served_moves o (call.Share id) connected there told idle =
      statement_moves _ o (sharing id) there idle (λ h. record { names = h.names; key = tt; place = h.values; change = tt })
      (λ h. h.range)
  served_moves o (call.Read id) connected there told idle = Here
  served_moves o call.Commit connected there told idle = commit_moves _ o there idle (λ h. h.range)
  served_moves o call.Rollback connected there told idle = rollback_moves _ o there (λ h. h.range)
  served_moves o call.Poll connected there told idle = Here

  asked_moves : (o : Option Live) (c : Call) → get n.live s ≡ o → get n.waiting s ≡ None
      → Reaches order (CanCall n c) works n 1 (asked order n s o c).1
  asked_moves o c there told =
      chosen 1 n (is_pending o) (reply.Pending, n) _ (λ _. Here) (λ idle.
      chosen 1 n (is_left n.at.phase) (reply.Disconnected, n) _ (λ _. Here) (λ stays.
      chosen 1 n (is_joining n.at.phase || nat_lt n.at.committed n.at.view) (reply.NotSynced, n) (served order n s o c) (λ _. Here) (λ late.
      served_moves o c
      (connected_from n.at.phase stays
      (or_parts (is_joining n.at.phase) (nat_lt n.at.committed n.at.view) late).0) there told idle)))

  first_moves : (given : Type 0) (o : Option Reply) (otherwise : Reply × ModelNode)
      → (o ≡ None → Reaches order given works n 1 otherwise.1)
      → Reaches order given works n 1 (told_first n s o otherwise).1
  first_moves given (Some waiting) otherwise row = one 1 n _ (Tells s)
  first_moves given None otherwise row = row refl

pub client_moves : (order : List Event) (works : Bool) (n : ModelNode) (s : ℕ) (c : Call)
    → Reaches order (CanCall n c) works n 1 (client order n s c).1
unfolding client
client_moves order works n s c =
    first_moves order works n s (CanCall n c) (get n.waiting s) (asked order n s (get n.live s) c)
    (asked_moves order works n s (get n.live s) c refl)
