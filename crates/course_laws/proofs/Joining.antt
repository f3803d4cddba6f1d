-- A node that left joins again as a new member, which nothing in the order knows, and takes the
-- state that it misses: by the events of a donor, or by a snapshot. What is kept of it is kept then
-- too.
use Rattle.std.proofs.Common.{◌≡◌, ℕ, ◌+◌, ◌≤◌, Bool, true, List, [], ◌∷◌, ◌++◌, length, Some, None, refl, ap, sym, ◌∙◌, arith, true≢false}
use Rattle.std.specs.Prelude.{slice_get}
use Rattle.std.specs.List.{filter_map, cons_option}
use Rattle.order_event.specs.declared.event.Event.{Event}
use Rattle.group_order.specs.Order.{last_view, new_member, view_with}
use Rattle.cert_meaning.specs.Fold.{state_at}
use Rattle.cert_meaning.proofs.FoldLaws.{number-at}
use Rattle.node_meaning.specs.Node.{ModelNode, is_left, is_joining}
use Rattle.node_meaning.specs.Joining.{IsAtRest, joined_node, received_events, received_snapshot}
use Rattle.node_meaning.specs.Facts.{sent_body, pending}
use Rattle.node_meaning.proofs.CertifyFacts.{drop_one}
use Rattle.node_meaning.proofs.GrowFacts.{facts_grow}
use Rattle.node_meaning.proofs.Joining.{none_own-behind, joined_facts, received_facts, installed_facts}
use Rattle.node_laws.specs.InStep.{message_of, messages_behind, IsCleared}
use Rattle.node_laws.specs.Views.{ViewLacks}
use Rattle.node_laws.proofs.Joining.{none_from, none_later, none_own, left_rests, in_step_joined, in_step_received, in_step_installed, none_behind_it}
use Rattle.node_laws.proofs.LastMember.{none_views}
use Rattle.node_laws.proofs.SetLists.{all_push}
use Rattle.course_laws.specs.Ordered.{Keeps, IsNewcomer, IsEarly, Entered, Stage, Early, Since, messages_ahead}
use Rattle.course_laws.specs.Places.{AllKeep, HasJoined, Place, Inside, Entering, Outside}
use Rattle.course_laws.specs.Kept.{Kept}
use Rattle.course_laws.proofs.PendingSets.{within_order}
use Rattle.course_laws.proofs.Newcoming.{none_first, newcomer_entered, silent_unaware}
use Rattle.course_laws.proofs.Growing.{AreSilent, front_get, all_at, none_behind_kept, decided_still, Before, Behind, where_is}
use Rattle.course_laws.proofs.Viewed.{has_last}
use Rattle.course_laws.proofs.KeptLaws.{ends_idle}

-- ---- lists without messages of a member
silent_none : (m : ℕ) (es : List Event) → AreSilent m es → filter_map (message_of m) es ≡ []
silent_none m [] all = refl
silent_none m (e ∷ es) all =
    ap (λ o. cons_option o (filter_map (message_of m) es)) all.0 ∙ silent_none m es all.1

-- where there is none behind the first so many, no event there is one
none_at : (m c : ℕ) (es : List Event) (j : ℕ) (e : Event) → messages_behind m c es ≡ [] → c ≤ j
    → slice_get es j ≡ Some e → message_of m e ≡ None
none_at m c es j e is above there =
    (none_first (message_of m e) _ (sym (ap (filter_map (message_of m)) (drop_one es j e there))
    ∙ none_later (message_of m) es c j above is)).0

pub last_is : {X : Type 0} (xs : List X) (x : X) → slice_get (xs ++ x ∷ []) (length xs) ≡ Some x
last_is [] x = refl
last_is (y ∷ xs) x = last_is xs x

-- ---- a node that left joins
module _ (old most : ℕ) (order : List Event) (n : ModelNode) (h : Kept old most order n)
    (left : is_left n.at.phase ≡ true) (all : n.at.taken ≡ n.at.committed) where
  cleared : Place order n → IsCleared n.ordered n.outbox n.live
  cleared (Inside s) = absurd (true≢false (sym left ∙ ap is_left s.connected))
  cleared (Entering s) = absurd (true≢false (sym left ∙ ap is_left s.joining))
  cleared (Outside g) = g.cleared

  at_rest : IsAtRest n
  at_rest =
      left_rests order n h.follows.facts (cleared h.follows.place) all
      (ends_idle old most order n h left all)

  module _ (fresh : Bool) (silent : AreSilent (new_member order) order) where
    abbrev member : ℕ
    member = new_member order

    abbrev view : Event
    view = view_with order (new_member order)

    abbrev now : List Event
    now = order ++ view_with order (new_member order) ∷ []

    abbrev m : ModelNode
    m = joined_node fresh (new_member order) (length order + 1) n

    all_silent : AreSilent (new_member order) now
    all_silent = all_push (λ (e : Event). message_of member e ≡ None) order view silent refl

    none_now : filter_map (message_of member) now ≡ []
    none_now = silent_none member now all_silent

    none_ahead : messages_behind member n.at.certified now ≡ []
    none_ahead = none_from (message_of member) now n.at.certified none_now

    newcomer : IsNewcomer now (new_member order) (length order + 1)
    newcomer = record {
      before = length order;
      number = refl;
      version = (last_view order).0;
      members = (last_view order).1 ++ new_member order ∷ [];
      opens = last_is order view;
      has = has_last member (last_view order).1;
      unaware = λ j e below there.
          let at = sym (front_get order (view ∷ []) j below) ∙ there in
          silent_unaware member e
          (all_at (λ (x : Event). message_of member x ≡ None) order silent j e at)
          (all_at (ViewLacks member) order (none_views order member (omega arith)) j e at);
    }

    keeps : AllKeep now (new_member order) (length order + 1)
    keeps j e from there =
        elim (where_is order (view ∷ []) j e there) [
          | Before below at ↦ absurd (omega (arith, from, below))
          | Behind k above at ↦
              all_at (Keeps member) (view ∷ []) (has_last member (last_view order).1, tt) k e at
        ]

    pub joined_kept : Kept (new_member order) (most + 1) now m
    joined_kept =
        let o = h.follows.facts.in_order in record {
          follows = record {
            home = refl;
            facts = joined_facts now fresh member (length order + 1) n at_rest
                (facts_grow order (view ∷ []) n h.follows.facts);
            stage = Early (record {
              before = omega (arith, o.certified_fits, o.taken_fits);
              newcomer = newcomer;
              positive = omega arith;
              idle = at_rest.none_live;
              nothing = (λ i. none_own now member n.at.certified n.at.taken none_ahead i
                  ++ filter_map sent_body (at_rest.none_ordered i ++ at_rest.none_waits i));
              silent = (λ i. none_ahead i ++ at_rest.none_waits i);
            });
            place = Entering (record {
              joining = refl;
              rest = at_rest;
              behind = omega (arith, o.taken_fits);
              in_step = in_step_joined order (view ∷ []) fresh member (length order + 1) n
                  at_rest none_now;
              keeps = keeps;
            });
          };
          decided = decided_still [] now member (λ before body there. cc) all_silent;
          none_behind = none_behind_kept now member (length order + 1) keeps;
          serial = omega (arith, h.serial);
          begin = omega arith;
        }

-- ---- a node that joins takes what it misses
joining_not : (order : List Event) (n : ModelNode) → is_joining n.at.phase ≡ true → Place order n
    → HasJoined order n
joining_not order n joining (Inside s) =
    absurd (true≢false (sym joining ∙ ap is_joining s.connected))
joining_not order n joining (Entering s) = s
joining_not order n joining (Outside g) = absurd (true≢false (sym joining ∙ ap is_joining g.left))

module _ (member most : ℕ) (order : List Event) (n : ModelNode) (h : Kept member most order n)
    (joining : is_joining n.at.phase ≡ true) where
  abbrev s : HasJoined order n
  s = joining_not order n joining h.follows.place

  early_by : Stage order n → IsEarly order n.at.member n.at.view n.at.certified n.at.serial n.live
      (pending order n) (messages_ahead order n)
  early_by (Early e) = e
  early_by (Since o) =
      absurd (omega (
        arith,
        o.entered,
        s.behind,
        s.rest.all_certified,
        number-at order n.at.certified (within_order order n h.follows.facts),
      ))

  early : IsEarly order n.at.member n.at.view n.at.certified n.at.serial n.live (pending order n)
      (messages_ahead order n)
  early = early_by h.follows.stage

  -- nothing of its member is ordered behind what it took
  none_taken : messages_behind n.at.member n.at.taken order ≡ []
  none_taken = none_behind_it order n s.rest s.in_step

  module _ (last : ℕ) (up : n.at.view ≤ last) (fits : last ≤ length order) where
    later : n.at.taken ≤ last
    later = omega (arith, up, s.behind)

    -- a donor's events up to this one
    events_pending : pending order (received_events last n) ≡ []
    events_pending =
        (λ i. none_own order n.at.member n.at.certified last
        (ap (λ k. messages_behind n.at.member k order) s.rest.all_certified ∙ none_taken) i
        ++ filter_map sent_body (s.rest.none_ordered i ++ s.rest.none_waits i))

    pub took_kept : Kept member (most + 1) order (received_events last n)
    took_kept = record {
      follows = record {
        home = h.follows.home;
        facts = received_facts order last n s.rest later fits
            (none_own order n.at.member n.at.taken last none_taken) h.follows.facts;
        stage = let e = early in Early (search (e, events_pending));
        place = Inside (record {
          connected = refl;
          in_step = in_step_received order n s.rest s.in_step last later;
          keeps = s.keeps;
        });
      };
      decided = h.decided;
      none_behind = h.none_behind;
      serial = omega (arith, h.serial);
      begin = omega (arith, h.begin);
    }

    -- a snapshot of the state at this number
    module _ (id : List ℕ) where
      abbrev installed : ModelNode
      installed = received_snapshot last id n

      snapshot_pending : pending order installed ≡ []
      snapshot_pending =
          (λ i. none_own-behind order n.at.member last i
          ++ filter_map sent_body (s.rest.none_ordered i ++ s.rest.none_waits i))

      snapshot_ahead : messages_ahead order installed ≡ []
      snapshot_ahead =
          (λ i. none_later (message_of n.at.member) order n.at.taken last later none_taken i
          ++ s.rest.none_waits i)

      snapshot_entered : Entered (state_at order last) n.at.member n.at.view n.at.begin
          n.at.serial last n.live [] []
      snapshot_entered =
          newcomer_entered order n.at.member n.at.view early.newcomer last fits
          (λ j e from below there.
          none_at n.at.member n.at.taken order j e none_taken (omega (arith, from, s.behind)) there)
          (λ j e from below there. s.keeps j e from there)
          last n.at.begin n.at.serial last n.live up (omega arith) early.positive early.idle

      pub installed_kept : Kept member (most + 1) order (received_snapshot last id n)
      installed_kept = record {
        follows = record {
          home = h.follows.home;
          facts = installed_facts order last id n s.rest fits h.follows.facts;
          stage = Since (rw (snapshot_pending, snapshot_ahead) snapshot_entered);
          place = Inside (record {
            connected = refl;
            in_step = in_step_installed order n s.rest s.in_step last id later;
            keeps = s.keeps;
          });
        };
        decided = h.decided;
        none_behind = h.none_behind;
        serial = omega (arith, h.serial);
        begin = omega (arith, h.begin);
      }
