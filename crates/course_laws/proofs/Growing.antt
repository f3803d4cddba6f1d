-- The order grows by events of others, or by the front of the node's outbox: what holds of the node
-- holds over the longer order, and all write sets of its member are decided there too.
use Rattle.std.proofs.Common.{◌≡◌, ℕ, zero, suc, ◌≤◌, ◌<◌, Bool, false, List, [], ◌∷◌, ◌++◌, length, Some, None, refl, ap, sym, subst, ◌∙◌, arith, append-nil, inl, inr}
use Rattle.std.specs.Prelude.{map, slice_get}
use Rattle.std.specs.List.{AllByRecursion, filter_map}
use Rattle.std.proofs.lemmas.List.{append_assoc, drop-append-le}
use Rattle.std.proofs.lemmas.List.Elements.{filter_map-append}
use Rattle.std.proofs.lemmas.Option.{same_Some, slice_get_within}
use Rattle.order_event.specs.declared.event.Event.{Event}
use Rattle.order_event.specs.declared.event.Event.TheVariants as event
use Rattle.order_event.specs.declared.event.Message.{Message}
use Rattle.order_event.specs.declared.event.Message.TheVariants as message
use Rattle.group_order.specs.Order.{event_of}
use Rattle.cert_meaning.proofs.FoldLaws.{state_at-append}
use Rattle.node_meaning.specs.declared.progress.Phase.TheVariants as phase
use Rattle.node_meaning.specs.Node.{ModelNode, is_left}
use Rattle.node_meaning.specs.Facts.{Facts, pending, pending_in}
use Rattle.node_meaning.proofs.GrowFacts.{facts_grow, pending-append}
use Rattle.node_laws.proofs.Moves.{Joint, Orders, with_ordered}
use Rattle.node_laws.proofs.FactsMoved.{facts_moved}
use Rattle.node_laws.specs.InStep.{message_of, messages_behind, IsInStep}
use Rattle.node_laws.proofs.InStep.{own_messages, in_step_ordered}
use Rattle.node_laws.proofs.SetLists.{all_each}
use Rattle.course_laws.specs.Ordered.{IsNewcomer, Keeps, Stage, Early, Since}
use Rattle.course_laws.specs.Courses.{IsOfOthers}
use Rattle.course_laws.specs.Laws.{OwnAreDecided, NoneBehind}
use Rattle.course_laws.proofs.PendingSets.{within_order}
use Rattle.course_laws.proofs.Following.{Follows, AllKeep, Place, Inside, Entering, Outside, stayed}
use Rattle.course_laws.proofs.Ahead.{DecidedAt, decided_ahead}
use Rattle.std.proofs.lemmas.Bool.{cases_lt}

-- ---- lists
pub front_get : {A : Type 0} (xs ys : List A) (k : ℕ) → k < length xs
    → slice_get (xs ++ ys) k ≡ slice_get xs k
front_get [] ys k below = absurd (omega (arith, below))
front_get (x ∷ xs) ys zero below = refl
front_get (x ∷ xs) ys (suc k) below = front_get xs ys k (omega (arith, below))

pub all_at : {A : Type 0} (P : A → Type 0) (xs : List A) → AllByRecursion P xs → (k : ℕ) (x : A)
    → slice_get xs k ≡ Some x → P x
all_at P [] all k x there = cc
all_at P (y ∷ xs) all zero x there = subst P (same_Some y x there) all.0
all_at P (y ∷ xs) all (suc k) x there = all_at P xs all.1 k x there

-- an event of the longer order is one of the order, or of what is behind it
pub data Where {A : Type 0} (xs ys : List A) (k : ℕ) (x : A) : Type 0 where
  Before : k < length xs → slice_get xs k ≡ Some x → Where xs ys k x
  Behind : (j : ℕ) → length xs ≤ k → slice_get ys j ≡ Some x → Where xs ys k x

pub where_is : {A : Type 0} (xs ys : List A) (k : ℕ) (x : A) → slice_get (xs ++ ys) k ≡ Some x
    → Where xs ys k x
where_is [] ys k x there = Behind k (omega arith) there
where_is (y ∷ xs) ys zero x there = Before (omega arith) there
where_is (y ∷ xs) ys (suc k) x there = elim (where_is xs ys k x there) [
  | Before below at ↦ Before (omega (arith, below)) at
  | Behind j above at ↦ Behind j (omega (arith, above)) at
]

-- a member enters by the view by which it did
newcomer_grown : (order more : List Event) (member view : ℕ) → IsNewcomer order member view
    → IsNewcomer (order ++ more) member view
newcomer_grown order more member view h =
    let within = slice_get_within order h.before (event.View h.version h.members) h.opens in
    record {
      before = h.before;
      number = h.number;
      version = h.version;
      members = h.members;
      opens = front_get order more h.before within ∙ h.opens;
      has = h.has;
      unaware = λ j e below there.
          h.unaware j e below
          (sym (front_get order more j (omega (arith, below, within))) ∙ there);
    }

-- ---- what is ahead, and the fold so far
-- the front of the outbox is in the longer order
module _ (order more : List Event) (n : ModelNode) (front back : List Message)
    (is : n.outbox ≡ front ++ back) (f : Facts order n)
    (sent : filter_map (message_of n.at.member) more ≡ front) where
  abbrev longer : List Event
  longer = order ++ more

  abbrev now : ModelNode
  now = with_ordered n front back

  same_pending : pending longer now ≡ pending order n
  same_pending =
      let queue = append_assoc n.ordered front back ∙ ap (λ out. n.ordered ++ out) (sym is) in
      pending-append order more n.at.member n.at.certified n.at.taken
      ((n.ordered ++ front) ++ back) f.in_order.taken_fits
      ∙ ap (pending_in order n.at.member n.at.certified n.at.taken) queue

  same_ahead : messages_behind n.at.member n.at.certified longer ++ back
      ≡ messages_behind n.at.member n.at.certified order ++ n.outbox
  same_ahead =
      rw (
        drop-append-le n.at.certified order more (within_order order n f),
        filter_map-append,
        sent,
        is,
        append_assoc,
      )

  pub stage_grown : Stage order n → Stage longer now
  stage_grown (Early h) = Early (record {
    before = h.before;
    newcomer = newcomer_grown order more n.at.member n.at.view h.newcomer;
    positive = h.positive;
    idle = h.idle;
    nothing = same_pending ∙ h.nothing;
    silent = same_ahead ∙ h.silent;
  })
  stage_grown (Since h) =
      Since (rw (state_at-append order more n.at.certified (within_order order n f))
      (rw same_pending (rw same_ahead h)))

-- ---- events of others
others_keep : (member : ℕ) (e : Event) → IsOfOthers member false e → Keeps member e
others_keep member (event.View version members) is = is
others_keep member _ is = tt

others_none : (member : ℕ) (left : Bool) (e : Event) → IsOfOthers member left e
    → message_of member e ≡ None
others_none member left (event.View version members) is = refl
others_none member left _ is = grind (arith, is)

-- none of these is a message of the member
abbrev pub AreSilent : ℕ → List Event → Type 0
AreSilent member events = AllByRecursion (λ (e : Event). message_of member e ≡ None) events

pub others_silent : (member : ℕ) (left : Bool) (events : List Event)
    → AllByRecursion (IsOfOthers member left) events → AreSilent member events
others_silent member left events all =
    all_each _ _ (others_none member left) events all

none_sent : (member : ℕ) (events : List Event) → AreSilent member events
    → filter_map (message_of member) events ≡ []
none_sent member [] all = refl
none_sent member (e ∷ events) all = rw all.0 (none_sent member events all.1)

all_keep : (order events : List Event) (member view : ℕ) → AllByRecursion (Keeps member) events
    → AllKeep order member view → AllKeep (order ++ events) member view
all_keep order events member view all keeps j e from there =
    elim (where_is order events j e there) [
      | Before below at ↦ keeps j e from at
      | Behind k above at ↦ all_at (Keeps member) events all k e at
    ]

module _ (order : List Event) (n : ModelNode) (events : List Event) (f : Facts order n)
    (all : AllByRecursion (IsOfOthers n.at.member (is_left n.at.phase)) events)
    (none : filter_map (message_of n.at.member) events ≡ []) where
  in_step_grown : IsInStep order n → IsInStep (order ++ events) n
  in_step_grown step =
      rw (drop-append-le n.at.taken order events f.in_order.taken_fits) (rw filter_map-append
      (rw none (rw append-nil step)))

  in_keep_grown : is_left n.at.phase ≡ false → AllKeep order n.at.member n.at.view
      → AllKeep (order ++ events) n.at.member n.at.view
  in_keep_grown stays =
      all_keep order events n.at.member n.at.view
      (all_each _ _ (others_keep n.at.member) events (rw stays at all))

  others_place : Place order n → Place (order ++ events) n
  others_place (Inside h) = Inside (record {
    connected = h.connected;
    in_step = in_step_grown h.in_step;
    keeps = in_keep_grown (ap is_left h.connected) h.keeps;
  })
  others_place (Entering h) = Entering (record {
    joining = h.joining;
    rest = h.rest;
    behind = h.behind;
    in_step = in_step_grown h.in_step;
    keeps = in_keep_grown (ap is_left h.joining) h.keeps;
  })
  others_place (Outside h) = Outside (record {
    left = h.left;
    cleared = h.cleared;
    keeps = λ j e from below there.
        h.keeps j e from below
        (sym (front_get order events j (omega (arith, below, f.in_order.taken_fits))) ∙ there);
  })

-- the order grows by events of others, and nothing is sent
pub others_follows : (order : List Event) (member : ℕ) (n : ModelNode) (events : List Event)
    → AllByRecursion (IsOfOthers n.at.member (is_left n.at.phase)) events
    → Follows order member n → Follows (order ++ events) member n
others_follows order member n events all h =
    let none = none_sent n.at.member events
    (others_silent n.at.member (is_left n.at.phase) events all) in record {
      home = h.home;
      facts = facts_grow order events n h.facts;
      stage = subst (λ ordered. Stage (order ++ events) (record n { ordered = ordered }))
          (append-nil n.ordered)
          (stage_grown order events n [] n.outbox refl h.facts none h.stage);
      place = others_place order n events h.facts all none h.place;
    }

-- ---- the front of the outbox
own_keep : (member : ℕ) (front : List Message)
    → AllByRecursion (Keeps member) (map (event_of member) front)
own_keep member [] = tt
own_keep member (message.Write body ∷ front) = (tt, own_keep member front)
own_keep member (_ ∷ front) = (tt, own_keep member front)

pub own_all_keep : (order : List Event) (member view : ℕ) (front : List Message)
    → AllKeep order member view → AllKeep (order ++ map (event_of member) front) member view
own_all_keep order member view front =
    all_keep order (map (event_of member) front) member view (own_keep member front)

pub own_follows : (order : List Event) (member : ℕ) (n : ModelNode) (front back : List Message)
    → n.outbox ≡ front ++ back → n.at.phase ≡ phase.Connected → Follows order member n
    → Follows (order ++ map (event_of member) front) member (with_ordered n front back)
own_follows order member n front back is connected h =
    let more = map (event_of n.at.member) front in
    let s = stayed order n connected h.place in
    subst (λ k. Follows (order ++ map (event_of k) front) k (with_ordered n front back)) h.home
    (record {
      home = refl;
      facts = facts_moved (order ++ more) (Unit {0}) tt n Joint (with_ordered n front back)
          (Orders front back is) (facts_grow order more n h.facts);
      stage = stage_grown order more n front back is h.facts (own_messages n.at.member front)
          h.stage;
      place = Inside (record {
        connected = connected;
        in_step = in_step_ordered order n h.facts.in_order.taken_fits s.in_step front back;
        keeps = own_all_keep order n.at.member n.at.view front s.keeps;
      });
    })

-- ---- the write sets of the member
pub own_is : (member : ℕ) (body : List ℕ)
    → message_of member (event.Write member body) ≡ Some (message.Write body)
own_is member body = grind arith

module _ (order more : List Event) (member : ℕ) where
  -- one that was decided is so over the longer order
  decided_then : OwnAreDecided order member → (before : ℕ) (body : List ℕ)
      → before < length order → slice_get order before ≡ Some (event.Write member body)
      → DecidedAt (order ++ more) member before body
  decided_then were before body first there =
      let was = were before body there in (
        was.0,
        was.1,
        rw (state_at-append order more before (omega (arith, first))) was.2,
      )

  -- it grows by nothing of the member's
  pub decided_still : OwnAreDecided order member → AreSilent member more
      → OwnAreDecided (order ++ more) member
  decided_still were silent before body there =
      let own = event.Write member body in
      elim (where_is order more before own there) [
        | Before first at ↦ decided_then were before body first at
        | Behind j above at ↦
            let none = all_at (λ (e : Event). message_of member e ≡ None) more silent j own at in
            let some = own_is member body in cc
      ]

  -- it grows by what its node, which is connected, had sent
  pub decided_grown : (n : ModelNode) → OwnAreDecided order member
      → n.at.certified ≤ length order → n.at.phase ≡ phase.Connected
      → Follows (order ++ more) member n → OwnAreDecided (order ++ more) member
  decided_grown n were inside connected h before body there =
      elim (cases_lt before n.at.certified) [
        | inl below ↦
            let first : before < length order = omega (arith, below, inside) in
            decided_then were before body first (sym (front_get order more before first) ∙ there)
        | inr above ↦
            decided_ahead (order ++ more) member n connected h before body above there
      ]

-- ---- behind a view without the member
-- where all events keep it there is none
pub none_behind_kept : (order : List Event) (member view : ℕ) → AllKeep order member view
    → NoneBehind order member view
none_behind_kept order member view keeps place behind version members e from there without later
    at =
    let has = keeps place (event.View version members) from there in cc

pub none_behind_grown : (order more : List Event) (member view : ℕ) → NoneBehind order member view
    → AreSilent member more → NoneBehind (order ++ more) member view
none_behind_grown order more member view were silent place behind version members e from there
    without later at =
    elim (where_is order more behind e at) [
      | Before first found ↦
          were place behind version members e from
          (sym (front_get order more place (omega (arith, first, later))) ∙ there) without later
          found
      | Behind j above found ↦
          all_at (λ (x : Event). message_of member x ≡ None) more silent j e found
    ]
