-- A node that joins is at rest until it has the state that it misses, and then it is in step with
-- the order, which has no message of its new member.
use Rattle.std.proofs.Common.{◌≡◌, ℕ, zero, suc, ◌≤◌, ◌<◌, Bool, true, false, cond, List, [], ◌∷◌, ◌++◌, Option, None, Some, refl, ap, sym, ◌∙◌, arith, true≢false, eq-eqb}
use Rattle.std.specs.Prelude.{◌==◌, drop, take, map}
use Rattle.std.specs.List.{filter_map, cons_option}
use Rattle.std.proofs.lemmas.List.Elements.{filter_map-append}
use Rattle.finite_map.specs.FiniteMap.{get}
use Rattle.order_event.specs.declared.event.Event.{Event}
use Rattle.order_event.specs.declared.event.Event.TheVariants as event
use Rattle.order_event.specs.declared.event.Message.{Message}
use Rattle.order_event.specs.declared.event.Message.TheVariants as message
use Rattle.group_order.specs.Order.{event_of, last_member}
use Rattle.client_trx.specs.Live.{Live}
use Rattle.node_meaning.specs.declared.progress.Phase.{Phase}
use Rattle.node_meaning.specs.declared.progress.Phase.TheVariants as phase
use Rattle.node_meaning.specs.Node.{ModelNode, is_joining, is_connected}
use Rattle.node_meaning.specs.Joining.{IsAtRest, joined_node, received_events, received_snapshot}
use Rattle.node_meaning.specs.Facts.{Facts, own_body}
use Rattle.node_meaning.proofs.Joining.{NoneOwn, at_rest}
use Rattle.node_laws.specs.InStep.{IsCleared, IsWaiting, IsInStep, message_of, messages_behind}
use Rattle.node_laws.proofs.LastMember.{last-grows, last-sent}
use Rattle.node_laws.proofs.Moves.{with_ordered, Kind, Move, Begins, Extends, Streams, Sends, Ends, TakesBack, Unlocks, Reports, Orders, Leaves, Takes, Certifies, Passes, Fails, Advances, Commits, May, Reaches, kept}
use Rattle.node_laws.proofs.LeftSets.{front_none}
use Rattle.node_laws.proofs.InStep.{other_messages, phase_moved}

-- ---- no messages of a member
cons_none : {B : Type 0} (o : Option B) (rest : List B) → cons_option o rest ≡ []
    → (o ≡ None) × (rest ≡ [])
cons_none None rest none = (refl, none)
cons_none (Some b) rest none = cc

module _ {A B : Type 0} (f : A → Option B) where
  pub none_from : (xs : List A) (k : ℕ) → filter_map f xs ≡ [] → filter_map f (drop k xs) ≡ []
  none_from xs zero none = none
  none_from [] (suc k) none = refl
  none_from (x ∷ xs) (suc k) none = none_from xs k (cons_none (f x) (filter_map f xs) none).1

  -- none behind the first so many, so none behind more
  pub none_later : (xs : List A) (k j : ℕ) → k ≤ j → filter_map f (drop k xs) ≡ []
      → filter_map f (drop j xs) ≡ []
  none_later xs zero j below none = none_from xs j none
  none_later xs (suc k) zero below none = absurd (omega (arith, below))
  none_later [] (suc k) (suc j) below none = refl
  none_later (x ∷ xs) (suc k) (suc j) below none = none_later xs k j (omega (arith, below)) none

  -- and none up to a number
  module _ {C : Type 0} (g : A → Option C) (each : (x : A) → f x ≡ None → g x ≡ None) where
    none_in : (xs : List A) (j : ℕ) → filter_map f xs ≡ [] → filter_map g (take j xs) ≡ []
    none_in [] zero none = refl
    none_in (x ∷ xs) zero none = refl
    none_in [] (suc j) none = refl
    none_in (x ∷ xs) (suc j) none =
        let parts = cons_none (f x) (filter_map f xs) none in
        ap (λ o. cons_option o (filter_map g (take j xs))) (each x parts.0)
        ∙ none_in xs j parts.1

    none_between : (xs : List A) (k j : ℕ) → filter_map f (drop k xs) ≡ []
        → filter_map g (drop k (take j xs)) ≡ []
    none_between xs zero j none = none_in xs j none
    none_between [] (suc k) zero none = refl
    none_between [] (suc k) (suc j) none = refl
    none_between (x ∷ xs) (suc k) zero none = refl
    none_between (x ∷ xs) (suc k) (suc j) none = none_between xs k j none

-- an event that is no message of a member is no write set of it
pub body_none : (member : ℕ) (e : Event) → message_of member e ≡ None → own_body member e ≡ None
body_none member (event.Write sender body) none = by (sender == member) none
  where
    by : (b : Bool) → cond b (Some (message.Write body)) None ≡ None
        → cond b (Some body) None ≡ None
    by true is = cc
    by false is = refl
body_none member (event.View version members) none = refl
body_none member (event.Report sender number) none = refl

pub none_own : (order : List Event) (member taken last : ℕ)
    → messages_behind member taken order ≡ [] → NoneOwn order member taken last
none_own order member taken last none =
    none_between (message_of member) (own_body member) (body_none member) order taken last none

-- ---- an order knows nothing of a member that is above those of its views
abbrev pub KnowsNoneAbove : List Event → Type 0
KnowsNoneAbove order =
    (member : ℕ) → last_member order < member → filter_map (message_of member) order ≡ []

no_more : (member : ℕ) (order more : List Event) → filter_map (message_of member) order ≡ []
    → filter_map (message_of member) more ≡ [] → filter_map (message_of member) (order ++ more) ≡ []
no_more member order more none other =
    filter_map-append (message_of member) order more ∙ (λ i. none i ++ other i)

pub knows_sent : (order : List Event) (sender : ℕ) (ms : List Message) → sender ≤ last_member order
    → KnowsNoneAbove order → KnowsNoneAbove (order ++ map (event_of sender) ms)
knows_sent order sender ms known h member above =
    let more : last_member order < member = omega (arith, last-sent order sender ms, above) in
    no_more member order (map (event_of sender) ms) (h member more)
    (other_messages member sender (λ same. omega (arith, same, known, more)) ms)

-- and nothing of a new one behind the view with which it enters
pub knows_none-joined : (order : List Event) (version : ℕ) (members : List ℕ) (member : ℕ)
    → last_member order < member → KnowsNoneAbove order
    → filter_map (message_of member) (order ++ event.View version members ∷ []) ≡ []
knows_none-joined order version members member above h =
    no_more member order (event.View version members ∷ []) (h member above) refl

pub knows_viewed : (order : List Event) (version : ℕ) (members : List ℕ) → KnowsNoneAbove order
    → KnowsNoneAbove (order ++ event.View version members ∷ [])
knows_viewed order version members h member above =
    let more : last_member order < member =
    omega (arith, last-grows order (event.View version members ∷ []), above) in
    no_more member order (event.View version members ∷ []) (h member more) refl

-- ---- while it waits
not_connected : (now : Phase) → is_joining now ≡ true → is_connected now ≡ true → ⊥
not_connected phase.Left joining connected = absurd cc
not_connected phase.Joining joining connected = absurd cc
not_connected phase.Connected joining connected = absurd cc

-- moves keep its view
pub view_moved : (order : List Event) (given : Type 0) (n : ModelNode) (kind : Kind) (m : ModelNode)
    → Move order given n kind m → m.at.view ≡ n.at.view
view_moved order given n kind m (Leaves can) = refl
view_moved order given n kind m _ = refl

pub view_reached : (order : List Event) (given : Type 0) (works : Bool) (n : ModelNode) (k : ℕ)
    (m : ModelNode) → Reaches order given works n k m → m.at.view ≡ n.at.view
view_reached order given works n k m row =
    kept (λ o. o.at.view ≡ n.at.view)
    (λ o kind q may move h. view_moved order given o kind q move ∙ h) n k m row refl

module _ (n : ModelNode) (joining : is_joining n.at.phase ≡ true) (h : IsWaiting n) where
  not_less : (a b : ℕ) → a ≡ b → a == b ≡ false → ⊥
  not_less a b same differs = true≢false (sym (eq-eqb a b same) ∙ differs)

  none_more : n.at.certified == n.at.taken ≡ false → ⊥
  none_more = not_less n.at.certified n.at.taken h.0.all_certified

  none_next : n.at.committed == n.at.certified ≡ false → ⊥
  none_next =
      not_less n.at.committed n.at.certified (h.0.all_committed ∙ sym h.0.all_certified)

  waiting_moved : (order : List Event) (given : Type 0) (works : Bool) (kind : Kind) (m : ModelNode)
      → May works kind → Move order given n kind m → IsWaiting m
  waiting_moved order given works kind m may (Begins s unit can) =
      absurd (not_connected n.at.phase joining can.connected)
  waiting_moved order given works kind m may (Extends s t st here fits free) =
      absurd (h.0.none_live s t here.there)
  waiting_moved order given works kind m may (Streams s t here change range) =
      absurd (h.0.none_live s t here.there)
  waiting_moved order given works kind m may (Sends s t here range) =
      absurd (h.0.none_live s t here.there)
  waiting_moved order given works kind m may (Ends s t o there) = absurd (h.0.none_live s t there)
  waiting_moved order given works kind m may (TakesBack s t w o there due range) =
      absurd (h.0.none_live s t there)
  waiting_moved order given works kind m may (Unlocks s t to there unlocked) =
      absurd (h.0.none_live s t there)
  waiting_moved order given works kind m may (Reports connected) =
      absurd (not_connected n.at.phase joining connected)
  waiting_moved order given works kind m may (Orders front back is) = absurd may
  waiting_moved order given works kind m may (Leaves can) = absurd may
  waiting_moved order given works kind m may (Takes e ordered there leaves) =
      absurd (not_connected n.at.phase joining leaves.connected)
  waiting_moved order given works kind m may (Certifies e can) = absurd (none_more can.more)
  waiting_moved order given works kind m may (Passes s t body w judged pass) =
      absurd (h.0.none_live s t judged.there)
  waiting_moved order given works kind m may (Fails s t body w v judged came) =
      absurd (h.0.none_live s t judged.there)
  waiting_moved order given works kind m may (Advances can none) = absurd (none_next can.more)
  waiting_moved order given works kind m may (Commits s t can there is) =
      absurd (h.0.none_live s t there)
  waiting_moved order given works kind m may _ = h

abbrev pub WaitsWhileJoining : ModelNode → Type 0
WaitsWhileJoining n = is_joining n.at.phase ≡ true → IsWaiting n

pub waiting_reached : (order : List Event) (given : Type 0) (works : Bool) (n : ModelNode) (k : ℕ)
    (m : ModelNode) → Reaches order given works n k m → WaitsWhileJoining n → WaitsWhileJoining m
waiting_reached order given works =
    kept WaitsWhileJoining (λ n kind m may move h joining.
    let was : is_joining n.at.phase ≡ true =
    ap is_joining (sym (phase_moved order given works n kind m may move)) ∙ joining in
    waiting_moved n was (h was) order given works kind m may move)

-- none of its messages is there to be ordered
pub waiting_ordered : (n : ModelNode) (front back : List Message) → n.outbox ≡ front ++ back
    → IsWaiting n → IsWaiting (with_ordered n front back)
waiting_ordered n front back is h =
    let none : front ++ back ≡ [] = sym is ∙ h.0.none_waits in
    let first : front ≡ [] = front_none front back none in (
      record {
        all_certified = h.0.all_certified;
        all_committed = h.0.all_committed;
        none_ordered = (λ i. h.0.none_ordered i ++ first i);
        none_waits = ap (λ ms. ms ++ back) (sym first) ∙ none;
        none_live = h.0.none_live;
      },
      h.1,
    )

-- ---- it is in step with the order
-- as a new member
pub in_step_joined : (order more : List Event) (fresh : Bool) (member view : ℕ) (n : ModelNode)
    → IsAtRest n → filter_map (message_of member) (order ++ more) ≡ []
    → IsInStep (order ++ more) (joined_node fresh member view n)
in_step_joined order more fresh member view n rest none =
    rest.none_ordered ∙ sym (none_from (message_of member) (order ++ more) n.at.taken none)

module _ (order : List Event) (n : ModelNode) (rest : IsAtRest n) (h : IsInStep order n) where
  pub none_behind_it : messages_behind n.at.member n.at.taken order ≡ []
  none_behind_it = sym h ∙ rest.none_ordered

  pub in_step_received : (last : ℕ) → n.at.taken ≤ last → IsInStep order (received_events last n)
  in_step_received last more =
      rest.none_ordered
      ∙ sym (none_later (message_of n.at.member) order n.at.taken last more none_behind_it)

  pub in_step_installed : (number : ℕ) (id : List ℕ) → n.at.taken ≤ number
      → IsInStep order (received_snapshot number id n)
  in_step_installed number id more =
      rest.none_ordered
      ∙ sym (none_later (message_of n.at.member) order n.at.taken number more none_behind_it)

-- ---- a node that left, where nothing is live
pub left_rests : (order : List Event) (n : ModelNode) → Facts order n
    → IsCleared n.ordered n.outbox n.live → n.at.taken ≡ n.at.committed
    → ((session : ℕ) (t : Live) → get n.live session ≡ Some t → ⊥) → IsAtRest n
left_rests order n f cleared all live =
    at_rest order n f all cleared.none_ordered cleared.none_waits live
