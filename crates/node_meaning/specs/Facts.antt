-- what holds of a node over the order at every moment; every step keeps it
use Rattle.std.specs.Prelude.{◌≡◌, ◌≤◌, ◌<◌, ℕ, ◌+◌, ◌==◌, false, List, [], ◌∷◌, ◌++◌, map, take, drop, slice_get, Option, Some, None, length, ◌^◌, if◌then◌else◌}
use Rattle.std.specs.List.{filter, filter_map, AllByRecursion}
use Rattle.std.specs.Ordering.{nat_cmp}
use Rattle.finite_map.specs.FiniteMap.{FiniteMap, empty, get}
use Rattle.wsrep_base.specs.declared.ids.TrxId.{TrxId}
use Rattle.wsrep_base.specs.declared.verdict.Verdict.{Verdict}
use Rattle.wsrep_base.specs.declared.verdict.Verdict.TheVariants as verdict
use Rattle.key_sets.specs.Keys.{Keys, touches}
use Rattle.row_model.specs.declared.calls.Call.{Call}
use Rattle.row_model.specs.declared.calls.Call.TheVariants as call
use Rattle.row_model.specs.declared.ops.Op.{Op}
use Rattle.row_model.specs.declared.ops.Op.TheVariants as op
use Rattle.order_event.specs.declared.event.Event.{Event}
use Rattle.order_event.specs.declared.event.Event.TheVariants as event
use Rattle.order_event.specs.declared.event.Message.{Message}
use Rattle.order_event.specs.declared.event.Message.TheVariants as message
use Rattle.write_set.specs.declared.write_set.WriteSet.{WriteSet}
use Rattle.write_set.specs.Reading.{decoded}
use Rattle.write_set.specs.Rules.{place_in_range, OpInRange, KeysInRange, OpsInRange}
use Rattle.cert_meaning.specs.declared.items.CommitItem.{CommitItem}
use Rattle.cert_meaning.specs.State.{FoldState, commit_numbered, fragments_of, whole_keys, whole_ops}
use Rattle.cert_meaning.specs.Verdict as rules
use Rattle.cert_meaning.specs.Verdict.{trx_of}
use Rattle.cert_meaning.specs.Fold.{state_at}
use Rattle.client_trx.specs.KeyedOps.{IsFit, IsPart}
use Rattle.client_trx.specs.Live.{Live, whole_of, newest_of, commit_flags, fragment_flags}
use Rattle.client_trx.specs.declared.status.Status.{Status}
use Rattle.client_trx.specs.declared.status.Status.TheVariants as status
use Rattle.row_locks.specs.declared.holder.Holder.{Holder}
use Rattle.row_locks.specs.Holders.{same_holder}
use Rattle.row_locks.specs.Locks.{Locks, keys_at}
use Rattle.node_meaning.specs.declared.progress.Progress.{Progress}
use Rattle.node_meaning.specs.Node.{ModelNode, ApplyUnit, locks_of}
use Rattle.node_meaning.specs.Steps.{is_local}
use Rattle.node_meaning.specs.Units.{ops_at}

-- a node has not committed more than it certified, nor certified more than it took, nor taken more
-- than there is
pub record InOrder (order : List Event) (committed certified taken : ℕ) : Type 0 where
  pub committed_fits : committed ≤ certified
  pub certified_fits : certified ≤ taken
  pub taken_fits : taken ≤ length order

-- the passed commit with this number in an order
abbrev pub commit_at : List Event → ℕ → Option CommitItem
commit_at order number = commit_numbered number (state_at order number).commits

-- ---- numbers and names: what is true of every value of the types, and has to be said where any
-- may stand
pub record ProgressInRange (at : Progress) : Type 0 where
  pub member : at.member < 2 ^ 32
  pub committed : at.committed < 2 ^ 64
  pub serial : at.serial < 2 ^ 64
  pub begin : at.begin < 2 ^ 64

abbrev pub CallInRange : Call → Type 0
CallInRange (call.Begin unit) = Unit {0}
CallInRange (call.Insert id row) = OpInRange (op.Insert id row)
CallInRange (call.Update id change) = OpInRange (op.Update id change)
CallInRange (call.Delete id) = OpInRange (op.Delete id)
CallInRange (call.Share id) = place_in_range id
CallInRange (call.Read id) = place_in_range id
CallInRange call.Commit = Unit {0}
CallInRange call.Rollback = Unit {0}
CallInRange call.Poll = Unit {0}

-- ---- what a live transaction may send
-- its keys and changes make a valid write set, and so do those since its last fragment, which are a
-- part of them; and each fragment took a change
pub record IsSendable (t : Live) : Type 0 where
  pub fit : IsFit t.keys t.ops
  pub part : IsPart (whole_of t) (newest_of t)
  pub newest : IsFit t.new_keys t.new_ops
  pub range : KeysInRange t.new_keys × OpsInRange t.new_ops
  pub few : t.sent + length t.new_ops ≤ length t.ops

-- ---- pending write sets
abbrev pub own_body : ℕ → Event → Option (List ℕ)
own_body member (event.Write sender body) = if sender == member then Some body else None
own_body member (event.View version members) = None
own_body member (event.Report sender number) = None

abbrev pub sent_body : Message → Option (List ℕ)
sent_body (message.Write body) = Some body
sent_body (message.Report number) = None

-- the write sets of the node's member that are taken and not certified, and then those in its queue
abbrev pub pending_in : List Event → ℕ → ℕ → ℕ → List Message → List (List ℕ)
pending_in order member certified taken queue =
    filter_map (own_body member) (drop certified (take taken order)) ++ filter_map sent_body queue

abbrev pub pending : List Event → ModelNode → List (List ℕ)
pending order n = pending_in order n.at.member n.at.certified n.at.taken (n.ordered ++ n.outbox)

-- those of one transaction
abbrev pub sets_of : ℕ → List WriteSet → List WriteSet
sets_of begin sets = filter (λ (w : WriteSet). w.begin == begin) sets

-- their serials rise, from above the one number to below the other
abbrev pub SerialsRise : ℕ → List WriteSet → ℕ → Type 0
SerialsRise low [] next = low < next
SerialsRise low (w ∷ sets) next = (low < w.serial) × SerialsRise w.serial sets next

-- a write set that the node sent: of its member, of a transaction that has begun, and when it was
-- sent no more was committed than now
pub record IsOurs (member begin committed : ℕ) (w : WriteSet) : Type 0 where
  pub of_member : w.member ≡ member
  pub begun : w.begin < begin
  pub seen : w.last_seen ≤ committed

-- ---- what a transaction gathered
-- where so many fragments of it have passed, its keys and changes are those of these and then those
-- of one more write set; where it sent none, they are those of the write set alone
pub record Gathered (s : FoldState) (t : Live) (keys : Keys) (ops : List Op)
    (sent : ℕ) : Type 0 where
  pub first : sent ≡ 0 → (t.keys ≡ keys) × (t.ops ≡ ops)
  pub whole : length (fragments_of s t.trx) ≡ sent
      → (t.keys ≡ whole_keys (fragments_of s t.trx) keys)
      × (t.ops ≡ whole_ops (fragments_of s t.trx) ops)

-- the write set is the last fragment that the transaction sent, and it has gathered nothing since
pub record IsFragmentOf (s : FoldState) (t : Live) (w : WriteSet) : Type 0 where
  pub number : w.fragment + 1 ≡ t.sent
  pub flags : w.flags ≡ fragment_flags w.fragment
  pub no_keys : t.new_keys ≡ empty
  pub no_ops : t.new_ops ≡ []
  pub gathered : Gathered s t w.keys w.ops w.fragment

-- the write set is the transaction's commit
pub record IsCommitOf (s : FoldState) (t : Live) (w : WriteSet) : Type 0 where
  pub number : w.fragment ≡ t.sent
  pub flags : w.flags ≡ commit_flags w.fragment
  pub gathered : Gathered s t w.keys w.ops w.fragment

-- a verdict that a write set made by the rules never has
abbrev pub IsUndecided : Verdict → Type 0
IsUndecided verdict.Pass = ⊥
IsUndecided verdict.Malformed = Unit {0}
IsUndecided verdict.Stranger = Unit {0}
IsUndecided verdict.Repeat = Unit {0}
IsUndecided verdict.Future = Unit {0}
IsUndecided verdict.Stale = Unit {0}
IsUndecided verdict.Broken = Unit {0}
IsUndecided (verdict.Conflict commit) = ⊥
IsUndecided (verdict.Held fragment) = ⊥

-- a certified write set of the transaction has such a verdict
pub record HasFailed (order : List Event) (certified : ℕ) (trx : TrxId) : Type 0 where
  pub before : ℕ
  pub within : before < certified
  pub body : List ℕ
  pub there : slice_get order before ≡ Some (event.Write trx.member body)
  pub set : WriteSet
  pub is : decoded body ≡ Some set
  pub of_trx : trx_of set ≡ trx
  pub undecided : IsUndecided (rules.verdict (state_at order before) trx.member set)

-- of a transaction's write sets one is pending; or none, as it failed so
pub data Alone (P : WriteSet → Type 0) (failed : Type 0) (mine : List WriteSet) : Type 0 where
  One : (w : WriteSet) → mine ≡ w ∷ [] → P w → Alone P failed mine
  Lost : mine ≡ [] → failed → Alone P failed mine

-- ---- live transactions
-- the commit of the transaction passed at this number, which is certified and not committed, and
-- has its keys and changes
pub record HasPassed (order : List Event) (committed certified : ℕ) (t : Live)
    (number : ℕ) : Type 0 where
  pub above : committed < number
  pub within : number ≤ certified
  pub is_commit : commit_at order number
      ≡ Some (record { number = number; trx = t.trx; keys = t.keys })
  pub changes : ops_at order number ≡ t.ops

-- what is pending of a live transaction, and what it gathered, by its status
abbrev pub StandsBy : List Event → ℕ → ℕ → List WriteSet → Live → Status → Type 0
StandsBy order committed certified mine t status.Running =
    (mine ≡ []) × Gathered (state_at order certified) t t.new_keys t.new_ops t.sent
StandsBy order committed certified mine t status.FragmentSent =
    Alone (IsFragmentOf (state_at order certified) t) (HasFailed order certified t.trx) mine
StandsBy order committed certified mine t status.CommitSent =
    Alone (IsCommitOf (state_at order certified) t) (HasFailed order certified t.trx) mine
StandsBy order committed certified mine t (status.Certified number) =
    (mine ≡ []) × HasPassed order committed certified t number
StandsBy order committed certified mine t status.KilledSent =
    Alone (IsCommitOf (state_at order certified) t) (HasFailed order certified t.trx) mine
StandsBy order committed certified mine t (status.Replaying number) =
    (mine ≡ []) × HasPassed order committed certified t number

-- a live transaction is of the node's member, began before the next begin number, and stands so
pub record IsLive (order : List Event) (member begin committed certified : ℕ) (sets : List WriteSet)
    (t : Live) : Type 0 where
  pub of_member : t.trx.member ≡ member
  pub begun : t.trx.begin < begin
  pub stands : StandsBy order committed certified (sets_of t.trx.begin sets) t t.status

-- write sets of the member, in line with its live transactions
pub record Lined (order : List Event) (member begin serial committed certified : ℕ)
    (live : FiniteMap nat_cmp Live) (sets : List WriteSet) : Type 0 where
  pub ours : AllByRecursion (IsOurs member begin committed) sets
  pub serials : SerialsRise 0 sets serial
  pub each : (session : ℕ) (t : Live) → get live session ≡ Some t
      → IsLive order member begin committed certified sets t
  pub begins : (s o : ℕ) (t u : Live) → get live s ≡ Some t → get live o ≡ Some u
      → t.trx.begin ≡ u.trx.begin → s ≡ o

-- bytes that spell such write sets
pub record Spelled (order : List Event) (member begin serial committed certified : ℕ)
    (live : FiniteMap nat_cmp Live) (bodies : List (List ℕ)) : Type 0 where
  pub sets : List WriteSet
  pub are : map decoded bodies ≡ map Some sets
  pub lined : Lined order member begin serial committed certified live sets

-- ---- units
-- a unit is a passed commit that is certified and not committed, and no earlier one of these
-- touches it
pub record HasUnit (order : List Event) (committed certified number : ℕ)
    (u : ApplyUnit) : Type 0 where
  pub above : committed < number
  pub within : number ≤ certified
  pub item : CommitItem
  pub is_commit : commit_at order number ≡ Some item
  pub keys : item.keys ≡ u.keys
  pub clear : (earlier : ℕ) (c : CommitItem) → committed < earlier → earlier < number
      → commit_at order earlier ≡ Some c → touches c.keys u.keys ≡ false

-- no holder's keys touch those of another one
abbrev pub AreApart : Locks → Type 0
AreApart locks =
    (h g : Holder) → same_holder h g ≡ false → touches (keys_at locks h) (keys_at locks g) ≡ false

-- ---- all of it
pub record Facts (order : List Event) (n : ModelNode) : Type 0 where
  pub in_order : InOrder order n.at.committed n.at.certified n.at.taken
  pub sendable : (session : ℕ) (t : Live) → get n.live session ≡ Some t → IsSendable t
  pub sent :
      Spelled order n.at.member n.at.begin n.at.serial n.at.committed n.at.certified n.live
      (pending order n)
  pub units : (number : ℕ) (u : ApplyUnit) → get n.units number ≡ Some u
      → HasUnit order n.at.committed n.at.certified number u
  pub remote : (number : ℕ) (u : ApplyUnit) → get n.units number ≡ Some u
      → is_local n.live number ≡ false
  pub apart : AreApart (locks_of n.live n.units)
