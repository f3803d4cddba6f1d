-- A node's messages behind what it took are exactly those that it had ordered, until it leaves.
use Rattle.std.proofs.Common.{◌≡◌, ℕ, ◌+◌, ◌≤◌, Bool, true, false, cond, List, [], ◌∷◌, ◌++◌, length, Option, None, Some, refl, ap, sym, subst, ◌∙◌, add-one, append-nil, eq-eqb, eqb→eq}
use Rattle.std.specs.Prelude.{◌==◌, T, not, drop, map}
use Rattle.std.specs.List.{filter_map, find, cons_option}
use Rattle.std.specs.Option.{unwrap_or}
use Rattle.std.proofs.lemmas.Bool.{false_from_ne_true}
use Rattle.std.proofs.lemmas.List.{drop-append-le}
use Rattle.std.proofs.lemmas.List.Elements.{filter_map-append}
use Rattle.order_event.specs.declared.event.Event.{Event}
use Rattle.order_event.specs.declared.event.Event.TheVariants as event
use Rattle.order_event.specs.declared.event.Message.{Message}
use Rattle.order_event.specs.declared.event.Message.TheVariants as message
use Rattle.group_order.specs.Order.{event_of}
use Rattle.node_meaning.specs.declared.progress.Phase.{Phase}
use Rattle.node_meaning.specs.declared.progress.Phase.TheVariants as phase
use Rattle.node_meaning.specs.Node.{ModelNode, is_left, is_connected}
use Rattle.node_meaning.specs.Steps.{is_write, is_report, without_first, is_this_write, unqueued}
use Rattle.node_meaning.proofs.CertifyFacts.{drop_one}
use Rattle.node_laws.proofs.Moves.{Kind, Move, Orders, Leaves, Takes, May, Reaches, kept}
pub use Rattle.node_laws.specs.InStep.{message_of, messages_behind, IsInStep, IsCleared}

-- ---- an event is taken
module _ (n : ModelNode) (ordered rest : List Message) where
  abbrev queue_of : Option ModelNode → List Message
  queue_of o = (unwrap_or o n).ordered

  abbrev now : ModelNode
  now = record n { ordered = ordered }

  write_left : (body : List ℕ) (own here : Bool)
      → cond (not own) (Some n) (cond here (Some (record n { ordered = without_first is_write n.ordered })) None)
      ≡ Some now
      → n.ordered ≡ cons_option (cond own (Some (message.Write body)) None) rest → ordered ≡ rest
  write_left body false here left was = sym (ap queue_of left) ∙ was
  write_left body true true left was = sym (ap queue_of left) ∙ ap (without_first is_write) was
  write_left body true false left was = cc

  report_left : (number : ℕ) (own : Bool)
      → cond own (Some (record n { ordered = without_first is_report n.ordered })) (Some n) ≡ Some now
      → n.ordered ≡ cons_option (cond own (Some (message.Report number)) None) rest → ordered ≡ rest
  report_left number true left was = sym (ap queue_of left) ∙ ap (without_first is_report) was
  report_left number false left was = sym (ap queue_of left) ∙ was

  event_left : (e : Event) → unqueued n e ≡ Some now → n.ordered ≡ cons_option (message_of n.at.member e) rest
      → ordered ≡ rest
  event_left (event.Write sender body) left was =
      write_left body (sender == n.at.member) (is_this_write body (find is_write n.ordered)) left was
  event_left (event.Report sender number) left was = report_left number (sender == n.at.member) left was
  event_left (event.View version members) left was = sym (ap queue_of left) ∙ was

-- ---- the law
pub in_step_moved : (order : List Event) (given : Type 0) (works : Bool) (n : ModelNode) (kind : Kind) (m : ModelNode)
    → May works kind → Move order given n kind m → IsInStep order n → IsInStep order m
in_step_moved order given works n kind m may (Orders front back is) h = absurd may
in_step_moved order given works n kind m may (Leaves can) h = absurd may
in_step_moved order given works n kind m may (Takes e ordered there leaves) h =
    let member = n.at.member in
    event_left n ordered (messages_behind member (n.at.taken + 1) order) e leaves.queue
    (h ∙ ap (filter_map (message_of member)) (drop_one order n.at.taken e there
    ∙ ap (λ k. e ∷ drop k order) (sym (add-one n.at.taken))))
in_step_moved order given works n kind m may _ h = h

pub in_step_reached : (order : List Event) (given : Type 0) (works : Bool) (n : ModelNode) (k : ℕ) (m : ModelNode)
    → Reaches order given works n k m → IsInStep order n → IsInStep order m
in_step_reached order given works =
    kept (IsInStep order) (λ n kind m may move. in_step_moved order given works n kind m may move)

-- ---- the order grows
own_message : (member : ℕ) (m : Message) → message_of member (event_of member m) ≡ Some m
own_message member (message.Write body) = ap (λ b. cond b (Some (message.Write body)) None) (eq-eqb member member refl)
own_message member (message.Report number) =
    ap (λ b. cond b (Some (message.Report number)) None) (eq-eqb member member refl)

pub own_messages : (member : ℕ) (ms : List Message) → filter_map (message_of member) (map (event_of member) ms) ≡ ms
own_messages member [] = refl
own_messages member (m ∷ ms) =
    ap (λ o. cons_option o (filter_map (message_of member) (map (event_of member) ms))) (own_message member m)
    ∙ ap (λ rest. m ∷ rest) (own_messages member ms)

module _ (member other : ℕ) (differs : other ≡ member → ⊥) where
  not_same : other == member ≡ false
  not_same = false_from_ne_true (other == member) (λ same. differs (eqb→eq other member (subst T (sym same) tt)))

  other_message : (m : Message) → message_of member (event_of other m) ≡ None
  other_message (message.Write body) = ap (λ b. cond b (Some (message.Write body)) None) not_same
  other_message (message.Report number) = ap (λ b. cond b (Some (message.Report number)) None) not_same

  pub other_messages : (ms : List Message) → filter_map (message_of member) (map (event_of other) ms) ≡ []
  other_messages [] = refl
  other_messages (m ∷ ms) =
      ap (λ o. cons_option o (filter_map (message_of member) (map (event_of other) ms))) (other_message m)
      ∙ other_messages ms

module _ (order : List Event) (n : ModelNode) (inside : n.at.taken ≤ length order) (h : IsInStep order n) where
  behind_more : (more : List Event) → messages_behind n.at.member n.at.taken (order ++ more)
      ≡ n.ordered ++ filter_map (message_of n.at.member) more
  behind_more more =
      ap (filter_map (message_of n.at.member)) (drop-append-le n.at.taken order more inside)
      ∙ filter_map-append (message_of n.at.member) (drop n.at.taken order) more
      ∙ ap (λ first. first ++ filter_map (message_of n.at.member) more) (sym h)

  -- by the front of the node's own outbox
  pub in_step_ordered : (front back : List Message)
      → IsInStep (order ++ map (event_of n.at.member) front) (record n { ordered = n.ordered ++ front; outbox = back })
  in_step_ordered front back =
      sym (behind_more (map (event_of n.at.member) front)
      ∙ ap (λ ms. n.ordered ++ ms) (own_messages n.at.member front))

  -- by what another member had sent
  pub in_step_beside : (other : ℕ) → (other ≡ n.at.member → ⊥) → (front : List Message)
      → IsInStep (order ++ map (event_of other) front) n
  in_step_beside other differs front =
      sym (behind_more (map (event_of other) front)
      ∙ ap (λ ms. n.ordered ++ ms) (other_messages n.at.member other differs front) ∙ append-nil n.ordered)

  -- by a view
  pub in_step_viewed : (version : ℕ) (members : List ℕ)
      → IsInStep (order ++ event.View version members ∷ []) n
  in_step_viewed version members =
      sym (behind_more (event.View version members ∷ []) ∙ append-nil n.ordered)

-- ---- rows of moves: the node stays in the group, or out of it
pub phase_moved : (order : List Event) (given : Type 0) (works : Bool) (n : ModelNode) (kind : Kind)
    (m : ModelNode) → May works kind → Move order given n kind m → m.at.phase ≡ n.at.phase
phase_moved order given works n kind m may (Leaves can) = absurd may
phase_moved order given works n kind m may _ = refl

pub phase_reached : (order : List Event) (given : Type 0) (works : Bool) (n : ModelNode) (k : ℕ)
    (m : ModelNode) → Reaches order given works n k m → m.at.phase ≡ n.at.phase
phase_reached order given works n k m row =
    kept (λ o. o.at.phase ≡ n.at.phase)
    (λ o kind q may move h. phase_moved order given works o kind q may move ∙ h) n k m row refl

pub left_not_in : (now : Phase) → is_left now ≡ true → is_connected now ≡ true → ⊥
left_not_in phase.Left left connected = absurd cc
left_not_in phase.Joining left connected = absurd cc
left_not_in phase.Connected left connected = absurd cc

-- out of it, it takes nothing
taken_moved : (order : List Event) (given : Type 0) (n : ModelNode) (kind : Kind) (m : ModelNode)
    → Move order given n kind m → is_left n.at.phase ≡ true → m.at.taken ≡ n.at.taken
taken_moved order given n kind m (Takes e ordered there leaves) left =
    absurd (left_not_in n.at.phase left leaves.connected)
taken_moved order given n kind m _ left = refl

pub taken_reached : (order : List Event) (given : Type 0) (works : Bool) (n : ModelNode) (k : ℕ)
    (m : ModelNode) → Reaches order given works n k m → is_left n.at.phase ≡ true → m.at.taken ≡ n.at.taken
taken_reached order given works n k m row left =
    (kept (λ o. (is_left o.at.phase ≡ true) × (o.at.taken ≡ n.at.taken))
    (λ o kind q may move h. (
      ap is_left (phase_moved order given works o kind q may move) ∙ h.0,
      taken_moved order given o kind q move h.0 ∙ h.1,
    )) n k m row (left, refl)).1
