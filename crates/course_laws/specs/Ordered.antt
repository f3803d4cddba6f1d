-- what holds of a node of a cluster over the order so far, beside the facts that hold over any
use Rattle.std.specs.Prelude.{◌≡◌, ◌≤◌, ◌<◌, ℕ, ◌+◌, ◌==◌, max, not, false, true, List, [], ◌∷◌, ◌++◌, length, slice_get, Option, Some, None}
use Rattle.std.specs.List.{filter_map, list_any, AllByRecursion}
use Rattle.std.specs.Option.{option_map}
use Rattle.std.specs.Ordering.{nat_cmp}
use Rattle.finite_map.specs.FiniteMap.{FiniteMap, get}
use Rattle.wsrep_base.specs.declared.ids.TrxId.{TrxId}
use Rattle.order_event.specs.declared.event.Event.{Event}
use Rattle.order_event.specs.declared.event.Event.TheVariants as event
use Rattle.order_event.specs.declared.event.Message.{Message}
use Rattle.order_event.specs.declared.event.Message.TheVariants as message
use Rattle.write_set.specs.declared.write_set.WriteSet.{WriteSet}
use Rattle.write_set.specs.Reading.{decoded}
use Rattle.cert_meaning.specs.declared.members.Standing.{Standing}
use Rattle.cert_meaning.specs.State.{FoldState, is_open, fragments_of, last_seen_of}
use Rattle.cert_meaning.specs.Verdict.{is_rollback, is_broken}
use Rattle.cert_meaning.specs.Fold.{state_at}
use Rattle.client_trx.specs.Live.{Live}
use Rattle.client_trx.specs.declared.status.Status.TheVariants as status
use Rattle.node_meaning.specs.Node.{ModelNode}
use Rattle.node_meaning.specs.Facts.{SerialsRise, pending}
use Rattle.node_laws.specs.InStep.{messages_behind}

-- the write sets that are pending
abbrev pub pending_sets : List Event → ModelNode → List WriteSet
pending_sets order n = filter_map decoded (pending order n)

-- what its sender had committed when it sent the message
abbrev pub seen_in : Message → Option ℕ
seen_in (message.Write body) = option_map (λ (w : WriteSet). w.last_seen) (decoded body)
seen_in (message.Report number) = Some number

-- the member's messages behind what its node certified: those in the order, and then those in its
-- outbox
abbrev pub messages_ahead : List Event → ModelNode → List Message
messages_ahead order n = messages_behind n.at.member n.at.certified order ++ n.outbox

-- what was committed when each of them was sent
abbrev pub seen_ahead : List Event → ModelNode → List ℕ
seen_ahead order n = filter_map seen_in (messages_ahead order n)

-- the numbers do not fall, from the one number on, and none is above the other
abbrev pub Rises : ℕ → List ℕ → ℕ → Type 0
Rises low [] high = low ≤ high
Rises low (k ∷ ks) high = (low ≤ k) × Rises k ks high

-- a write set that is no rollback goes on where its transaction stands
abbrev pub IsPlaced : FoldState → WriteSet → Type 0
IsPlaced s w = is_rollback w ≡ false → is_broken s w ≡ false

-- a write set of the transaction of an earlier one is its rollback
abbrev pub OnlyEnds : WriteSet → List WriteSet → Type 0
OnlyEnds w sets = AllByRecursion (λ (v : WriteSet). v.begin ≡ w.begin → is_rollback v ≡ true) sets

-- behind each write set only the rollback of its transaction follows
abbrev pub AllEnd : List WriteSet → Type 0
AllEnd [] = Unit {0}
AllEnd (w ∷ sets) = OnlyEnds w sets × AllEnd sets

-- as many fragments of the transaction have passed as were sent, and the last saw no more than is
-- committed
pub record HasSent (s : FoldState) (committed : ℕ) (t : Live) : Type 0 where
  pub opened : is_open s t.trx ≡ not (t.sent == 0)
  pub count : length (fragments_of s t.trx) ≡ t.sent
  pub seen : last_seen_of (fragments_of s t.trx) ≤ committed

-- a live transaction began when its node had committed the view of its member; all that it sent has
-- passed while it is Running
pub record GoesOn (s : FoldState) (view committed : ℕ) (t : Live) : Type 0 where
  pub synced : view ≤ committed
  pub sent : t.status ≡ status.Running → HasSent s committed t

-- the node's member is one, and what is pending follows what it had sent
pub record Entered (s : FoldState) (member view begin serial committed : ℕ)
    (live : FiniteMap nat_cmp Live) (sets : List WriteSet) (seen : List ℕ) : Type 0 where
  -- the view in which it entered is certified
  pub entered : view ≤ s.number
  pub standing : Standing
  pub is_member : get s.members member ≡ Some standing
  pub floor : s.floor ≤ standing.report
  pub serials : SerialsRise standing.serial sets serial
  -- what its messages ahead had seen rises from its report to what is committed, or to its view
  -- where that is greater
  pub rises : Rises standing.report seen (max committed view)
  pub placed : AllByRecursion (IsPlaced s) sets
  pub ends : AllEnd sets
  pub each : (session : ℕ) (t : Live) → get live session ≡ Some t → GoesOn s view committed t
  -- a transaction that has not begun is not open
  pub unbegun : (trx : TrxId) → trx.member ≡ member → begin ≤ trx.begin
      → get s.open_trx trx ≡ None

abbrev pub OrderedFacts : List Event → ModelNode → Type 0
OrderedFacts order n =
    Entered (state_at order n.at.certified) n.at.member n.at.view n.at.begin n.at.serial
    n.at.committed n.live (pending_sets order n) (seen_ahead order n)

-- what an event of a course keeps of a member: a view has it
abbrev pub Keeps : ℕ → Event → Type 0
Keeps member (event.Write sender body) = Unit {0}
Keeps member (event.View version members) = list_any (λ k. k == member) members ≡ true
Keeps member (event.Report sender number) = Unit {0}

-- an event knows nothing of a member: it is none of the member's, and no view has it
abbrev pub IsUnaware : ℕ → Event → Type 0
IsUnaware member (event.Write sender body) = sender == member ≡ false
IsUnaware member (event.View version members) = list_any (λ k. k == member) members ≡ false
IsUnaware member (event.Report sender number) = sender == member ≡ false

-- a member enters with this view, and no event before it knows of the member
pub record IsNewcomer (order : List Event) (member view : ℕ) : Type 0 where
  pub before : ℕ
  pub number : view ≡ before + 1
  pub version : ℕ
  pub members : List ℕ
  pub opens : slice_get order before ≡ Some (event.View version members)
  pub has : list_any (λ k. k == member) members ≡ true
  pub unaware : (j : ℕ) (e : Event) → j < before → slice_get order j ≡ Some e
      → IsUnaware member e

-- the node has not certified the view in which its member enters: it has nothing live and has sent
-- nothing
pub record IsEarly (order : List Event) (member view certified serial : ℕ)
    (live : FiniteMap nat_cmp Live) (bodies : List (List ℕ)) (ahead : List Message)
    : Type 0 where
  pub before : certified < view
  pub newcomer : IsNewcomer order member view
  pub positive : 0 < serial
  pub idle : (session : ℕ) (t : Live) → get live session ≡ Some t → ⊥
  pub nothing : bodies ≡ []
  pub silent : ahead ≡ []

-- before that, and since
pub data Stage (order : List Event) (n : ModelNode) : Type 0 where
  Early : IsEarly order n.at.member n.at.view n.at.certified n.at.serial n.live (pending order n)
      (messages_ahead order n) → Stage order n
  Since : OrderedFacts order n → Stage order n
