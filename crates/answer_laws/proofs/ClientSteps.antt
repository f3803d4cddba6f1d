-- What a client call is told: nothing of a transaction, or a claim that holds.
use Rattle.std.proofs.Common.{◌≡◌, ℕ, Bool, true, false, List, [], ◌∷◌, length, Option, Some, None, refl, ap, sym, ◌∙◌, arith}
use Rattle.std.specs.Prelude.{◌==◌, ◌&&◌, ◌||◌, not, nat_lt, is_some, is_none, option_map}
use Rattle.std.specs.Ordering.{nat_cmp}
use Rattle.std.proofs.lemmas.Bool.{and_parts, cond_both}
use Rattle.finite_map.specs.FiniteMap.{FiniteMap, get}
use Rattle.finite_map.proofs.Edits.{numbers, left}
use Rattle.row_model.specs.declared.ops.Op.{Op}
use Rattle.row_model.specs.declared.calls.Call.{Call}
use Rattle.row_model.specs.declared.calls.Call.TheVariants as call
use Rattle.row_model.specs.declared.calls.Reply.{Reply}
use Rattle.row_model.specs.declared.calls.Reply.TheVariants as reply
use Rattle.order_event.specs.declared.event.Event.{Event}
use Rattle.write_set.specs.declared.write_set.WriteSet.{WriteSet}
use Rattle.client_trx.specs.Live.{Live, is_due, is_uncommitted, rollback_due}
use Rattle.row_locks.specs.declared.holder.Holder.{Holder}
use Rattle.row_locks.specs.declared.holder.Holder.TheVariants.{Session, Unit as UnitHolder}
use Rattle.node_meaning.specs.Node.{ModelNode, is_left, is_joining, rows_at, seen_rows, send_any, end_live}
use Rattle.node_meaning.specs.Client.{Statement, Met, inserting, updating, deleting, sharing, first_line, where_true, is_insert, missing_column, busy_reply, refusal, extended, met_by, row_reply, changed, accepted, statement_by, statement, begin_call, send_commit, commit_call, rollback_call, poll_reply, served, is_pending, asked, told_first, client}
use Rattle.node_meaning.specs.Facts.{Facts, ProgressInRange}
use Rattle.node_meaning.proofs.ClientFacts.{running_of}
use Rattle.node_laws.proofs.SetLists.{equal}
use Rattle.answer_laws.specs.Answers.{asker_of, IsBare}
use Rattle.answer_laws.specs.Counting.{is_of}
use Rattle.answer_laws.proofs.Pasts.{Pasts}
use Rattle.answer_laws.proofs.Claims.{Unended, Claim}
use Rattle.answer_laws.proofs.Causes.{shut_by, shut_back}
use Rattle.answer_laws.proofs.Ending.{IsWithin}

-- ---- a refusal says nothing of a transaction
abbrev IsBareIf : Option Reply → Type 0
IsBareIf None = Unit {0}
IsBareIf (Some r) = IsBare false r

next_bare : (o : Option Reply) (lines : List (Option Reply)) → IsBareIf o
    → IsBareIf (first_line lines) → IsBareIf (first_line (o ∷ lines))
next_bare None lines bare rest = rest
next_bare (Some r) lines bare rest = bare

option_bare : {X : Type 0} (f : X → Reply) → ((x : X) → IsBare false (f x)) → (o : Option X)
    → IsBareIf (option_map f o)
option_bare f bare None = tt
option_bare f bare (Some x) = bare x

busy_bare : (h : Holder) → IsBare false (busy_reply h)
busy_bare (Session session) = tt
busy_bare (UnitHolder number) = tt

true_bare : (b : Bool) (r : Reply) → IsBare false r → IsBareIf (where_true b r)
true_bare true r bare = bare
true_bare false r bare = tt

refusal_bare : (met : Met) (change : Option Op) → IsBareIf (refusal met change)
refusal_bare met change =
    next_bare _ _ (option_bare reply.HeldBy (λ _. tt) met.held)
    (next_bare _ _ (option_bare busy_reply busy_bare met.blocker)
    (next_bare _ _ (true_bare (is_insert change && is_some met.row) reply.Duplicate tt)
    (next_bare _ _ (true_bare (not (is_insert change) && is_none met.row) reply.NoRow tt)
    (next_bare _ _ (option_bare reply.NoColumn (λ _. tt) (missing_column change met.row))
    (next_bare _ [] (true_bare met.large reply.TooLarge tt) tt)))))

row_bare : (o : Option (List ℕ)) → IsBare false (row_reply o)
row_bare None = tt
row_bare (Some row) = tt

-- ---- what a call is told for which no answer waits, of the session's transaction
pub data Answered (order : List Event) (n m : ModelNode) (o : Option Live) (r : Reply)
    : Type 0 where
  Bare : IsBare false r → Answered order n m o r
  Claims : (t : Live) → o ≡ Some t → Claim order m (asker_of t) r → IsWithin n.at.committed r
      → Answered order n m o r

module _ (order : List Event) (n : ModelNode) (f : Facts order n) (h : Pasts order n) (s : ℕ)
    (range : ProgressInRange n.at) where
  -- and no new answer waits
  abbrev Told : Option Live → Reply × ModelNode → Type 0
  Told o x = Answered order n x.1 o x.0 × (x.1.waiting ≡ n.waiting)

  begin_by : (unit : ℕ) (o : Option Live) → Told o (begin_call n s unit o)
  begin_by unit None = (Bare tt, refl)
  begin_by unit (Some t) = (Bare tt, refl)

  changed_by : (o : Option Live) (due : Bool) (t : Live) → Told o (changed due n s t)
  changed_by o true t = (Bare tt, refl)
  changed_by o false t = (Bare tt, refl)

  accepted_by : (o : Option Live) (row : Option (List ℕ)) (change : Option Op) (t : Live)
      → Told o (accepted n s row change t)
  accepted_by o row None t = (Bare (row_bare row), refl)
  accepted_by o row (Some c) t = changed_by o (is_due t) t

  refused_by : (o : Option Live) (why : Option Reply) → IsBareIf why → (x : Reply × ModelNode)
      → Told o x → Told o (statement_by why n x)
  refused_by o None bare x other = other
  refused_by o (Some why) bare x other = (Bare bare, refl)

  statement_told : (o : Option Live) (st : Statement) → Told o (statement order n s o st)
  statement_told None st = (Bare tt, refl)
  statement_told (Some t) st =
      let met = met_by order n s t st in
      refused_by (Some t) (refusal met st.change) (refusal_bare met st.change) _
      (accepted_by (Some t) met.row st.change (extended t st))

  module _ (t : Live) (there : get n.live s ≡ Some t) (idle : is_pending (Some t) ≡ false) where
    may : is_uncommitted t.status ≡ true
    may = ap is_uncommitted (running_of t idle)

    commit_none : length t.ops == 0 && t.sent == 0 ≡ true
        → Told (Some t) (reply.Committed 0, end_live n s)
    commit_none none =
        let parts = and_parts (length t.ops == 0) (t.sent == 0) none in (
          Claims t refl (shut_by order n f h s t there may (is_of t.trx.begin) n.outbox
              ((h.each s t there).unsent may (equal t.sent 0 parts.1))) (omega arith),
          refl,
        )

    back_by : (due : Option WriteSet) → rollback_due t n.at.serial n.at.committed ≡ due
        → Told (Some t) (reply.RolledBack, end_live (send_any n due) s)
    back_by None due =
        (Claims t refl (Unended (shut_back order n f h s t there may range None due)) tt, refl)
    back_by (Some w) due =
        (Claims t refl (Unended (shut_back order n f h s t there may range (Some w) due)) tt, refl)

  commit_told : (o : Option Live) → get n.live s ≡ o → is_pending o ≡ false
      → Told o (commit_call n s o)
  commit_told None there idle = (Bare tt, refl)
  commit_told (Some t) there idle =
      cond_both (length t.ops == 0 && t.sent == 0) (reply.Committed 0, end_live n s)
      (reply.Pending, send_commit n s t) (Told (Some t)) (commit_none t there idle)
      (λ _. (Bare tt, refl))

  rollback_told : (o : Option Live) → get n.live s ≡ o → is_pending o ≡ false
      → Told o (rollback_call n s o)
  rollback_told None there idle = (Bare tt, refl)
  rollback_told (Some t) there idle =
      back_by t there idle (rollback_due t n.at.serial n.at.committed) refl

  poll_by : (o : Option Live) → IsBare false (poll_reply o)
  poll_by None = tt
  poll_by (Some t) = tt

  served_told : (o : Option Live) (c : Call) → get n.live s ≡ o → is_pending o ≡ false
      → Told o (served order n s o c)
  served_told o (call.Begin unit) there idle = begin_by unit o
  served_told o (call.Insert id row) there idle = statement_told o (inserting id row)
  served_told o (call.Update id change) there idle = statement_told o (updating id change)
  served_told o (call.Delete id) there idle = statement_told o (deleting id)
  served_told o (call.Share id) there idle = statement_told o (sharing id)
  served_told o (call.Read id) there idle =
      (Bare (row_bare (get (seen_rows (rows_at order n.at.committed) o) id)), refl)
  served_told o call.Commit there idle = commit_told o there idle
  served_told o call.Rollback there idle = rollback_told o there idle
  served_told o call.Poll there idle = (Bare (poll_by o), refl)

  pub asked_told : (o : Option Live) (c : Call) → get n.live s ≡ o → Told o (asked order n s o c)
  asked_told o c there =
      cond_both (is_pending o) (reply.Pending, n) _ (Told o) (λ _. (Bare tt, refl)) (λ idle.
      cond_both (is_left n.at.phase) (reply.Disconnected, n) _ (Told o) (λ _. (Bare refl, refl))
      (λ _. cond_both (is_joining n.at.phase || nat_lt n.at.committed n.at.view)
      (reply.NotSynced, n) (served order n s o c) (Told o) (λ _. (Bare tt, refl))
      (λ _. served_told o c there idle)))

  -- no client call leaves a new answer
  first_waits : (o : Option Reply) (x : Reply × ModelNode) → x.1.waiting ≡ n.waiting
      → (q : ℕ) (r : Reply) → get (told_first n s o x).1.waiting q ≡ Some r
      → get n.waiting q ≡ Some r
  first_waits (Some waiting) x same q r is = (left numbers n.waiting s q r is).there
  first_waits None x same q r is =
      sym (ap (λ (y : FiniteMap nat_cmp Reply). get y q) same) ∙ is

  pub client_waits : (c : Call) (q : ℕ) (r : Reply)
      → get (client order n s c).1.waiting q ≡ Some r → get n.waiting q ≡ Some r
  unfolding client
  client_waits c =
      first_waits (get n.waiting s) (asked order n s (get n.live s) c)
      (asked_told (get n.live s) c refl).1
