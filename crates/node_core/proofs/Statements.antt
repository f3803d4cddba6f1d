-- What a statement meets, and what it leaves of a node.
use Rattle.std.proofs.Common.{rules, ◌≡◌, ◌≤◌, ℕ, ◌+◌, Bool, true, false, cond, List, [], ◌∷◌, refl, sym, ap, subst, ◌∙◌, arith}
use Rattle.std.specs.Prelude.{Option, Some, None, IfSome, option_map, nat_lt, ◌||◌}
use Rattle.std.specs.Ordering.{nat_cmp}
use Rattle.std.proofs.lemmas.Bool.{false_from_ne_true}
use Rattle.std.proofs.lemmas.Option.{same_Some}
use Rattle.finite_map.proofs.Edits.{numbers, insert-there, remove-absent, insert-remove}
use Rattle.finite_map.specs.FiniteMap.{FiniteMap, get, empty, insert, remove, get-empty}
use Rattle.key_sets.specs.declared.kind.Kind.{Kind}
use Rattle.key_sets.specs.declared.parts.Parts.{Parts}
use Rattle.key_sets.specs.Parts.{parts_cmp}
use Rattle.key_sets.specs.Kinds.{raised}
use Rattle.key_sets.specs.Keys.{Keys, with_key, one_key}
use Rattle.row_model.specs.declared.row.RowId.{RowId}
use Rattle.row_model.specs.declared.ops.Op.{Op}
use Rattle.row_model.specs.declared.ops.Op.TheVariants as op
use Rattle.row_model.specs.declared.calls.Reply.{Reply}
use Rattle.row_model.specs.declared.calls.Reply.TheVariants as reply
use Rattle.order_event.specs.declared.event.Event.{Event}
use Rattle.write_set.specs.Rules.{row_parts}
use Rattle.node_meaning.specs.Facts.{ProgressInRange}
use Rattle.certification.proofs.Ahead.{holder-is}
use Rattle.client_trx.specs.Live.{Live, add_by, added_unless, told_added, is_due, is_too_large, has_locks}
use Rattle.client_trx.specs.KeyedOps.{IsKeyOf, with_op}
use Rattle.client_trx.specs.declared.status.Added.TheVariants as added
use Rattle.client_trx.specs.declared.status.Added.{Added}
use Rattle.row_locks.specs.declared.holder.Holder.{Holder}
use Rattle.row_locks.specs.declared.holder.Holder.TheVariants.{Session}
use Rattle.row_locks.specs.Locks.{blocker, granted, granted_unless}
use Rattle.row_locks.specs.Alike.{HoldAlike}
use Rattle.row_locks.proofs.AlikeLaws.{alike_between, alike-with_lock, block_alike}
use Rattle.undo_rows.specs.RowTable.{written, written_unless}
use Rattle.row_model.specs.Rows.{Rows, id_of}
use Rattle.row_model.specs.declared.calls.Call.{Call}
use Rattle.node_meaning.specs.Node.{ModelNode, is_left, is_joining, rows_at, locks_of}
use Rattle.node_meaning.specs.Client as client
use Rattle.node_meaning.specs.Client.{first_line, where_true, refusal, met_by, extended, statement, statement_by, accepted, changed, send_fragment, is_pending}
use Rattle.node_core.specs.declared.node.NodeParts.{NodeParts}
use Rattle.node_core.proofs.Standing.{done_by, rings_kept, unchanged_ring}
use Rattle.node_core.specs.declared.refusal.Met.{Met}
use Rattle.node_core.specs.Client.{hindrance, closed_by}
use Rattle.node_core.specs.Sending.{trx_after, node_after, grown_by}
use Rattle.node_core.specs.Statement.{met_at, told_and_put, reply_after, changes_after}
use Rattle.node_core.specs.Tabled.{Tabled, made_by}
use Rattle.node_meaning.proofs.ClientFacts.{StatementFits}
use Rattle.node_laws.proofs.StepFacts.{statement_keeps, told_keeps}
use Rattle.node_meaning.proofs.LockLaws.{locks_of-with_lock}
use Rattle.node_core.proofs.Tabling.{sees, made-alike, put_at, tabled-left}
use Rattle.node_core.proofs.TabledWrites.{tabled-written, free_row, key_changes}
use Rattle.node_core.specs.Stands.{Stands, Tables, KeepsRing, Does, DoneOver, Unchanged, plain_of}
use Rattle.node_core.proofs.ClientCalls.{unchanged_stands, running_status}

-- a key that is added to no keys
pub one_more : (none keys : Keys) (p : Parts) (k : Kind) → none ≡ empty → keys ≡ with_key none p k → keys ≡ one_key p k
unfolding with_key
one_more none keys p k is added =
    added ∙ ap (λ all. with_key all p k) is ∙ ap (λ o. insert empty p (raised o k)) (get-empty parts_cmp p)

-- ---- the transaction is taken out and put back
around : (a : Added) (t : Live) (node : NodeParts) (taken live : FiniteMap nat_cmp Live)
    → record (node_after a t (record node { live = taken })) { live = live }
    ≡ record (node_after a t node) { live = live }
around added.Done t node taken live = refl
around _ t node taken live = refl

pub extended_told : (node after : NodeParts) (s : ℕ) (trx t new : Live) (taken live : FiniteMap nat_cmp Live) (told : Added) (p : Parts)
    (k : Kind) (o : Option Op) → Some trx ≡ get node.live s → get node.live s ≡ Some t → taken ≡ remove node.live s
    → (told, new, after) ≡ grown_by (record node { live = taken }) (add_by trx p k o)
    → after ≡ record (record node { live = taken }) { at = after.at; queue = after.queue }
    → live ≡ insert after.live s new
    → (told, record after { live = live }) ≡ told_and_put node s (add_by t p k o)
extended_told node after s trx t new taken live told p k o mine there left both others live_is =
    let b = add_by t p k o in
    let all : (told, new, after) ≡ grown_by (record node { live = taken }) b =
    both ∙ ap (λ t. grown_by (record node { live = taken }) (add_by t p k o))
    (same_Some trx t (mine ∙ there)) in
    let live_now : live ≡ insert node.live s (trx_after b.0 b.1) =
    live_is ∙ ap (λ (n : NodeParts). insert n.live s new) others ∙ ap (λ l. insert l s new) left
    ∙ insert-remove numbers node.live s new
    ∙ ap (λ (p : Added × Live × NodeParts). insert node.live s p.1) all in
    (λ i. ((all i).0, record (all i).2 { live = live_now i }))
    ∙ ap (λ n. (b.0, n)) (around b.0 b.1 node taken (insert node.live s (trx_after b.0 b.1)))

pub put_back : (node after : NodeParts) (s : ℕ) (trx new : Live) (taken live : FiniteMap nat_cmp Live) → Some trx ≡ get node.live s
    → taken ≡ remove node.live s → after ≡ record node { live = taken } → new ≡ trx → live ≡ insert after.live s new
    → record after { live = live } ≡ node
put_back node after s trx new taken live mine left after_is same live_is =
    ap (λ (n : NodeParts). record n { live = live }) after_is
    ∙ ap (λ l. record node { live = l })
    (live_is ∙ ap (λ (n : NodeParts). insert n.live s new) after_is ∙ ap (λ l. insert l s new) left ∙ insert-remove numbers node.live s new
    ∙ ap (insert node.live s) same ∙ insert-there numbers node.live s trx (sym mine))

-- ---- why a statement is refused
-- a refusal is what hinders the statement, and else its transaction's size
refusal-split : (held : Option ℕ) (other : Option Holder) (row : Option (List ℕ)) (large : Bool)
    (change : Option Op)
    → refusal (record { held = held; blocker = other; row = row; large = large }) change
    ≡ first_line (hindrance held other row change ∷ where_true large reply.TooLarge ∷ [])
refusal-split (Some n) other row large change = refl
refusal-split None (Some h) row large change = refl
refusal-split None None None large None = refl
refusal-split None None None large (Some (op.Insert id values)) = refl
refusal-split None None None large _ = refl
refusal-split None None (Some row) large (Some (op.Update id change)) =
    by (option_map reply.NoColumn (client.missing_column (Some (op.Update id change)) (Some row)))
  where
    by : (o : Option Reply) → first_line (o ∷ where_true large reply.TooLarge ∷ [])
        ≡ first_line (first_line (o ∷ []) ∷ where_true large reply.TooLarge ∷ [])
    by None = refl
    by (Some why) = refl
refusal-split None None (Some row) large _ = refl

abbrev pub asked_for : RowId → Kind → Option Op → client.Statement
asked_for id kind change = record { id = id; kind = kind; change = change }

-- a statement is only made of a live transaction, and meets what the parts show
live_met : (node : NodeParts) (session : ℕ) (id : RowId) (kind : Kind) (o : Option Live) (m : Met)
    → Some m ≡ option_map (met_at node session id kind) o
    → (t : Live) × (o ≡ Some t) × (m ≡ met_at node session id kind t)
live_met node session id kind None m met = cc
live_met node session id kind (Some t) m met = (t, refl, same_Some _ _ met)

module _ (order : List Event) (node : NodeParts) (session : ℕ) (id : RowId) (kind : Kind)
    (change : Option Op) (m : Met)
    (met : Some m ≡ option_map (met_at node session id kind) (get node.live session))
    (st : Stands order node) where
  abbrev asked : client.Statement
  asked = asked_for id kind change

  abbrev its : (t : Live) × (get node.live session ≡ Some t) × (m ≡ met_at node session id kind t)
  its = live_met node session id kind (get node.live session) m met

  abbrev more : Live
  more = extended its.0 asked

  -- what the parts show is what the model's statement meets
  statement_is : statement order (plain_of node) session (get node.live session) asked
      ≡ statement_by (first_line (hindrance m.held m.blocker m.row change
      ∷ where_true (is_too_large more) reply.TooLarge ∷ []))
      (plain_of node) (accepted (plain_of node) session m.row change more)
  statement_is =
      let n = plain_of node in
      let t = its.0 in
      let model = met_by order n session t asked in
      let held : m.held ≡ model.held = ap (λ (m : Met). m.held) its.2
      ∙ holder-is order node.at.committed node.at.certified node.certification st.certification
      t.trx (one_key (row_parts id) kind) in
      let blocker : m.blocker ≡ model.blocker = ap (λ (m : Met). m.blocker) its.2
      ∙ block_alike node.locks.locks (locks_of node.live node.units.units) st.tables.locks
      (Session session) (row_parts id) kind in
      let row : m.row ≡ model.row = ap (λ (m : Met). m.row) its.2
      ∙ sees (rows_at order node.at.committed) node.live node.rows st.tables.rows session id
      (Some t) its.1 in
      ap (λ o. statement order n session o asked) its.1
      ∙ ap (λ r. statement_by r n (accepted n session model.row change more))
      (refusal-split model.held model.blocker model.row model.large change)
      ∙ sym (λ i. statement_by (first_line (hindrance (held i) (blocker i) (row i) change
      ∷ where_true (is_too_large more) reply.TooLarge ∷ []))
      n (accepted n session (row i) change more))

  pub refused : (why : Reply) → hindrance m.held m.blocker m.row change ≡ Some why
      → DoneOver order (λ n. statement order n session (get n.live session) asked) node node why
  refused why hindered = record { same = sym (rw hindered at statement_is); stands = st }

-- ---- a statement that nothing hinders but its transaction's size
pub unhindered : (held : Option ℕ) (other : Option Holder) (row : Option (List ℕ)) (change : Option Op)
    → hindrance held other row change ≡ None → other ≡ None
unhindered (Some n) other row change none = cc
unhindered None (Some h) row change none = cc
unhindered None None row change none = refl

not_told : (due : Bool) → cond due added.Fragment added.Done ≡ added.TooLarge → ⊥
not_told true e = cc
not_told false e = cc

told_large : (b : Bool) (change : Option Op) (old new : Live) → (added_unless b change old new).0 ≡ added.TooLarge → b ≡ true
told_large true change old new told = refl
told_large false None old new told = cc
told_large false (Some o) old new told = absurd (not_told (is_due new) told)

-- what the model makes of an accepted statement
accepted_is : (node : NodeParts) (session : ℕ) (row : Option (List ℕ)) (change : Option Op)
    (t : Live) → (
      reply_after (told_added change t) row change,
      plain_of (told_and_put node session (told_added change t, t)).1,
    ) ≡ accepted (plain_of node) session row change t
accepted_is node session row None t = refl
accepted_is node session row (Some o) t = by (is_due t)
  where
    by : (due : Bool) → let a = cond due added.Fragment added.Done in
        (reply_after a row (Some o), plain_of (told_and_put node session (a, t)).1)
        ≡ changed due (plain_of node) session t
    by true = refl
    by false = refl

after_part : (a : Added) (t : Live) (node : NodeParts) → let after = node_after a t node in
    after ≡ record node { at = record node.at { serial = after.at.serial }; queue = after.queue }
after_part added.Done t node = refl
after_part _ t node = refl

-- the transaction has its locks, its keys and its changes
after_same : (a : Added) (t : Live) → has_locks t.status ≡ true
    → (has_locks (trx_after a t).status ≡ true) × ((trx_after a t).keys ≡ t.keys)
    × ((trx_after a t).ops ≡ t.ops)
after_same added.Fragment t locked = (refl, refl, refl)
after_same _ t locked = (locked, refl, refl)

module _ (order : List Event) (c0 c1 c2 : NodeParts) (session : ℕ) (id : RowId) (kind : Kind)
    (change : Option Op) (m : Met)
    (met : Some m ≡ option_map (met_at c0 session id kind) (get c0.live session))
    (st : Stands order c0) (none : hindrance m.held m.blocker m.row change ≡ None)
    (same : Unchanged c0 c1) (told : Added) (p : Parts) (named : p ≡ row_parts id)
    (grows : (t : Live) → get c1.live session ≡ Some t
    → (told, c2) ≡ told_and_put c1 session (add_by t p kind change)) where
  abbrev t : Live
  t = (its order c0 session id kind change m met st).0

  abbrev grown : Live
  grown = extended t (asked_for id kind change)

  there : get c1.live session ≡ Some t
  there = ap (λ (n : ModelNode). get n.live session) same.plain
      ∙ (its order c0 session id kind change m met st).1

  both : (b : Bool) → is_too_large grown ≡ b
      → (told, c2) ≡ told_and_put c1 session (added_unless b change t grown)
  both b large = grows t there ∙ ap (λ p. told_and_put c1 session (add_by t p kind change)) named
      ∙ ap (λ b. told_and_put c1 session (added_unless b change t grown)) large

  told_is : told ≡ (added_unless (is_too_large grown) change t grown).0
  told_is = ap (λ (p : Added × NodeParts). p.0) (both (is_too_large grown) refl)

  made_is : (b : Bool) → is_too_large grown ≡ b
      → statement order (plain_of c0) session (get c0.live session) (asked_for id kind change)
      ≡ statement_by (first_line (where_true b reply.TooLarge ∷ []))
      (plain_of c0) (accepted (plain_of c0) session m.row change grown)
  made_is b large = rw (none, large) at (statement_is order c0 session id kind change m met st)

  pub grown_too_large : told ≡ added.TooLarge
      → DoneOver order
      (λ n. statement order n session (get n.live session) (asked_for id kind change))
      c0 c2 reply.TooLarge
  grown_too_large too =
      let large = told_large (is_too_large grown) change t grown (sym told_is ∙ too) in
      let left : c2 ≡ c1 = ap (λ (p : Added × NodeParts). p.1) (both true large)
      ∙ ap (λ l. record c1 { live = l }) (insert-there numbers c1.live session t there) in
      record {
        same = ap (λ n. (reply.TooLarge, n)) (ap plain_of left ∙ same.plain)
            ∙ sym (made_is true large);
        stands = subst (Stands order) (sym left) (unchanged_stands order c0 c1 same st);
      }

  module _ (small : told ≡ added.TooLarge → ⊥) (room : c0.units.room + 1 ≤ c1.rows.spare)
      (c3 : NodeParts) (others : c3 ≡ record c2 { locks = c3.locks; rows = c3.rows })
      (locks : c3.locks.locks ≡ (granted c2.locks.locks (Session session) p kind).1)
      (changes : c3.rows.changes ≡ changes_after c2.rows session change)
      (committed : c3.rows.committed ≡ c2.rows.committed)
      (spare : c2.rows.spare ≤ c3.rows.spare + 1)
      (fits : StatementFits (asked_for id kind change)) (range : ProgressInRange c0.at)
      (free : is_pending (get c0.live session) ≡ false) where
    is_small : is_too_large grown ≡ false
    is_small = false_from_ne_true (is_too_large grown)
        (λ large. small (told_is ∙ ap (λ b. (added_unless b change t grown).0) large))

    -- what became of it
    abbrev what : Added
    what = told_added change grown

    abbrev new : Live
    new = trx_after what grown

    abbrev mid : NodeParts
    mid = node_after what grown c1

    abbrev base : Rows
    base = rows_at order c1.at.committed

    put : c2 ≡ record c1 {
      at = record c1.at { serial = mid.at.serial };
      queue = mid.queue;
      live = insert c1.live session new;
    }
    put = ap (λ (p : Added × NodeParts). p.1) (both false is_small)
        ∙ ap (λ (n : NodeParts). record n { live = insert c1.live session new })
        (after_part what grown c1)

    all_is : c3 ≡ record c1 {
      at = record c1.at { serial = mid.at.serial };
      queue = mid.queue;
      live = insert c1.live session new;
      locks = c3.locks;
      rows = c3.rows;
    }
    all_is = others ∙ ap (λ (n : NodeParts). record n { locks = c3.locks; rows = c3.rows }) put

    tables : Tables order c1
    tables = (unchanged_stands order c0 c1 same st).tables

    locked : has_locks t.status ≡ true
    locked = ap has_locks (running_status t.status
        (ap is_pending (sym (its order c0 session id kind change m met st).1) ∙ free))

    after : (has_locks new.status ≡ true) × (new.keys ≡ grown.keys) × (new.ops ≡ grown.ops)
    after = after_same what grown locked

    unblocked : blocker (locks_of c1.live c1.units.units) (Session session) (row_parts id) kind ≡ None
    unblocked =
        sym (block_alike c1.locks.locks _ tables.locks (Session session) (row_parts id) kind)
        ∙ ap (λ l. blocker l (Session session) (row_parts id) kind) same.locks
        ∙ ap (λ (m : Met). m.blocker) (sym (its order c0 session id kind change m met st).2)
        ∙ unhindered m.held m.blocker m.row change none

    locks_now : HoldAlike c3.locks.locks (locks_of (insert c1.live session new) c1.units.units)
    locks_now =
        let model = locks_of c1.live c1.units.units in
        alike_between _ _ _ _
        (locks
        ∙ ap (λ p. (granted c2.locks.locks (Session session) p kind).1) named
        ∙ ap (λ (n : NodeParts). (granted n.locks.locks (Session session) (row_parts id) kind).1)
        put
        ∙ ap (λ o. (granted_unless o c1.locks.locks (Session session) (row_parts id) kind).1)
        (block_alike c1.locks.locks model tables.locks (Session session) (row_parts id) kind
        ∙ unblocked))
        (alike-with_lock c1.locks.locks model (Session session) (row_parts id) kind tables.locks)
        (sym (locks_of-with_lock c1.live c1.units.units session t new (row_parts id) kind there
        locked after.0 after.1))

    rows_now : (o : Option Op) → change ≡ o → Tabled base (insert c1.live session new) c3.rows
    rows_now None no_change =
        tabled-left base c1.live c1.rows c3.rows tables.rows (insert c1.live session new) session
        (Some new) (put_at c1.live session new)
        (λ row. made-alike base row new t (after.0 ∙ sym locked)
        (after.2 ∙ ap (with_op t.ops) no_change) ∙ ap (made_by base row) (sym there))
        (committed ∙ ap (λ (n : NodeParts). n.rows.committed) put)
        (changes ∙ ap (changes_after c2.rows session) no_change
        ∙ ap (λ (n : NodeParts). n.rows.changes) put)
    rows_now (Some o) some_change =
        let key = key_changes (row_parts id) kind o
        (subst (λ c. IfSome c (λ o. IsKeyOf (row_parts id) kind o)) some_change fits.key) in
        let unowned = free_row order (plain_of c1) base c1.rows
        (unchanged_stands order c0 c1 same st).facts tables.rows session (id_of o) kind key.1
        (ap (λ p. blocker (locks_of c1.live c1.units.units) (Session session) p kind) (sym key.0)
        ∙ unblocked) in
        tabled-written base c1.live c1.rows c3.rows tables.rows session t new o there locked
        (after.2 ∙ ap (with_op t.ops) some_change) after.0 unowned
        (committed ∙ ap (λ (n : NodeParts). n.rows.committed) put)
        (changes ∙ ap (changes_after c2.rows session) some_change
        ∙ ap (λ (n : NodeParts). (written n.rows session o).1) put
        ∙ ap (λ w. (written_unless w c1.rows session o).1) unowned)

    pub grown_stands : DoneOver order
        (λ n. statement order n session (get n.live session) (asked_for id kind change))
        c0 c3 (reply_after told m.row change)
    grown_stands =
        let mid_spare : c2.rows.spare ≡ c1.rows.spare = ap (λ (n : NodeParts). n.rows.spare) put in
        let now : (reply_after told m.row change, plain_of c3)
        ≡ accepted (plain_of c1) session m.row change grown =
        ap (λ n. (reply_after told m.row change, plain_of n)) others
        ∙ ap (λ (p : Added × NodeParts). (reply_after p.0 m.row change, plain_of p.1))
        (both false is_small)
        ∙ accepted_is c1 session m.row change grown in
        done_by order
        (λ n. statement order n session (get n.live session) (asked_for id kind change)) c0 c3
        (reply_after told m.row change) st
        (now ∙ ap (λ n. accepted n session m.row change grown) same.plain
        ∙ sym (made_is false is_small))
        (statement_keeps order (plain_of c0) session (get c0.live session) refl free
        (asked_for id kind change) fits range)
        mid.at.serial c0.at.begin
        (ap (λ (n : NodeParts). n.at) all_is
        ∙ ap (λ (n : ModelNode). record n.at { serial = mid.at.serial }) same.plain)
        (rings_kept c0 c1 c3 (unchanged_ring c0 c1 same)
        (subst (KeepsRing c1) (sym all_is) (record { ring = refl; since = refl; id = refl })))
        (ap (λ (n : NodeParts). n.inbox) all_is ∙ same.inbox)
        (ap (λ (n : NodeParts). n.certification) all_is ∙ same.certification)
        (subst (Tables order) (sym all_is) (record {
          locks = locks_now;
          rows = rows_now change refl;
          units = tables.units;
          room = omega (arith, room, same.unit_room, mid_spare, spare);
        }))

-- ---- the rules before the table of calls
by_rules : (a b c : Bool) (n : ModelNode) (x : Reply × ModelNode)
    → cond a (reply.Pending, n) (cond b (reply.Disconnected, n) (cond c (reply.NotSynced, n) x))
    ≡ statement_by (cond a (Some reply.Pending) (cond b (Some reply.Disconnected) (cond c (Some reply.NotSynced) None))) n x
by_rules true b c n x = refl
by_rules false true c n x = refl
by_rules false false true n x = refl
by_rules false false false n x = refl

module _ (order : List Event) (old : NodeParts) (session : ℕ) (c : Call)
    (waiting : FiniteMap nat_cmp Reply) (left : waiting ≡ remove old.waiting session) where
  -- a waiting answer is told
  pub told : Stands order old → (said : Reply) → get old.waiting session ≡ Some said
      → DoneOver order (λ n. client.client order n session c) old (record old { waiting = waiting }) said
  unfolding client.client
  told st said is =
      let n = plain_of old in
      done_by order (λ n. client.client order n session c) old (record old { waiting = waiting })
      said st
      (ap (λ w. (said, record n { waiting = w })) left
      ∙ ap (λ o. client.told_first n session o
      (client.asked order n session (get n.live session) c)) (sym is))
      (λ f. rw is (told_keeps order n session (Some said) (said, n) f f))
      old.at.serial old.at.begin refl (record { ring = refl; since = refl; id = refl }) refl refl
      (search rules)

  module _ (none : get old.waiting session ≡ None) where
    pub as_before : record old { waiting = waiting } ≡ old
    as_before =
        ap (λ w. record old { waiting = w }) (left ∙ remove-absent numbers old.waiting session none)

    -- the rules come first, and then the table
    client_is : (o : Option Reply) → closed_by old.at (get old.live session) ≡ o
        → client.client order (plain_of old) session c
        ≡ statement_by o (plain_of old)
        (client.served order (plain_of old) session (get old.live session) c)
    unfolding client.client
    client_is o closed =
        let n = plain_of old in
        let live = get old.live session in
        ap (λ o. client.told_first n session o (client.asked order n session live c)) none
        ∙ by_rules (is_pending live) (is_left n.at.phase)
        (is_joining n.at.phase || nat_lt n.at.committed n.at.view) n
        (client.served order n session live c)
        ∙ ap (λ o. statement_by o n (client.served order n session live c)) closed

    -- a call that is not done
    pub not_done : Stands order old → (why : Reply)
        → closed_by old.at (get old.live session) ≡ Some why
        → DoneOver order (λ n. client.client order n session c) old
        (record old { waiting = waiting }) why
    not_done st why closed = record {
      same = ap (λ n. (why, plain_of n)) as_before ∙ sym (client_is (Some why) closed);
      stands = subst (Stands order) (sym as_before) st;
    }

    -- a call of the table
    pub done : (new : NodeParts) (said : Reply) → closed_by old.at (get old.live session) ≡ None
        → Does (λ order n. client.served order n session (get n.live session) c)
        (record old { waiting = waiting }) new said
        → Stands order old → DoneOver order (λ n. client.client order n session c) old new said
    done new said open_to does st =
        let did = subst (λ n. Does (λ order n. client.served order n session (get n.live session) c)
        n new said) as_before does order st in
        record { same = did.same ∙ sym (client_is None open_to); stands = did.stands }
