-- A node's member in the views of an order that grows: it is in each of them from its own until it
-- leaves, and in no other one.
use Rattle.std.proofs.Common.{◌≡◌, ℕ, true, false, List, [], ◌∷◌, ◌++◌, refl, ap, sym, subst, ◌∙◌, arith, append_assoc, length-append}
use Rattle.std.specs.Prelude.{fold, map}
use Rattle.std.specs.List.{AllByRecursion}
use Rattle.std.proofs.lemmas.Grind.{fold-append}
use Rattle.order_event.specs.declared.event.Event.{Event}
use Rattle.order_event.specs.declared.event.Event.TheVariants as event
use Rattle.order_event.specs.declared.event.Message.{Message}
use Rattle.order_event.specs.declared.event.Message.TheVariants as message
use Rattle.order_event.specs.Spelling.{HasFewMembers}
use Rattle.group_order.specs.Order.{event_of, newer_view, last_view}
use Rattle.node_meaning.specs.Node.{ModelNode, is_left}
use Rattle.node_laws.specs.Views.{ViewHas, ViewLacks, EnteredIn, LeftIn, IsInViews}
use Rattle.node_laws.proofs.Moves.{with_ordered, Reaches}
use Rattle.node_laws.proofs.Counts.{reach_grows}
use Rattle.node_laws.proofs.InStep.{phase_reached, taken_reached}
use Rattle.node_laws.proofs.Joining.{view_reached}

-- ---- all of two lists
pub all_both : {X : Type 0} (P : X → Type 0) (xs ys : List X) → AllByRecursion P xs
    → AllByRecursion P ys → AllByRecursion P (xs ++ ys)
all_both P [] ys here there = there
all_both P (x ∷ xs) ys here there = (here.0, all_both P xs ys here.1 there)

-- ---- messages that are ordered are no views
no_view : (last : ℕ × List ℕ) (member : ℕ) (ms : List Message)
    → fold newer_view last (map (event_of member) ms) ≡ last
no_view last member [] = refl
no_view last member (message.Write body ∷ ms) = no_view last member ms
no_view last member (message.Report number ∷ ms) = no_view last member ms

pub last_beside : (order : List Event) (member : ℕ) (ms : List Message)
    → last_view (order ++ map (event_of member) ms) ≡ last_view order
last_beside order member ms =
    fold-append newer_view (0, []) order (map (event_of member) ms)
    ∙ no_view (last_view order) member ms

pub last_added : (order : List Event) (version : ℕ) (members : List ℕ)
    → last_view (order ++ event.View version members ∷ []) ≡ (version, members)
last_added order version members =
    fold-append newer_view (0, []) order (event.View version members ∷ [])

module _ (sender : ℕ) where
  pub sent_few : (ms : List Message) → AllByRecursion HasFewMembers (map (event_of sender) ms)
  sent_few [] = tt
  sent_few (message.Write body ∷ ms) = (tt, sent_few ms)
  sent_few (message.Report number ∷ ms) = (tt, sent_few ms)

  pub sent_has : (member : ℕ) (ms : List Message)
      → AllByRecursion (ViewHas member) (map (event_of sender) ms)
  sent_has member [] = tt
  sent_has member (message.Write body ∷ ms) = (tt, sent_has member ms)
  sent_has member (message.Report number ∷ ms) = (tt, sent_has member ms)

  pub sent_lacks : (member : ℕ) (ms : List Message)
      → AllByRecursion (ViewLacks member) (map (event_of sender) ms)
  sent_lacks member [] = tt
  sent_lacks member (message.Write body ∷ ms) = (tt, sent_lacks member ms)
  sent_lacks member (message.Report number ∷ ms) = (tt, sent_lacks member ms)

-- ---- one node over an order that grows
module _ (order : List Event) (n : ModelNode) (h : IsInViews order n) where
  -- by what has its member where it has not left, and lacks it where it has
  pub views_grow : (more : List Event)
      → (is_left n.at.phase ≡ false → AllByRecursion (ViewHas n.at.member) more)
      → (is_left n.at.phase ≡ true → AllByRecursion (ViewLacks n.at.member) more)
      → IsInViews (order ++ more) n
  views_grow more has lacks = record {
    stays = λ stays.
        let e = h.stays stays in record {
          early = e.early;
          since = e.since ++ more;
          parts = ap (λ events. events ++ more) e.parts ∙ append_assoc e.early e.since more;
          entered = e.entered;
          fits = omega (arith, e.fits, length-append order more);
          before = e.before;
          after = all_both (ViewHas n.at.member) e.since more e.after (has stays);
        };
    left = λ left.
        let l = h.left left in record {
          early = l.early;
          front = l.front;
          back = l.back ++ more;
          parts = ap (λ events. events ++ more) l.parts
              ∙ append_assoc l.early (l.front ++ l.back) more
              ∙ ap (λ events. l.early ++ events) (append_assoc l.front l.back more);
          entered = l.entered;
          fits = l.fits;
          never = l.never;
          before = l.before;
          after = all_both (ViewLacks n.at.member) l.back more l.after (lacks left);
          taken_fits = l.taken_fits;
        };
  }

  -- and moves of it
  pub views_reached : (given : Type 0) (k : ℕ) (m : ModelNode) → Reaches order given true n k m
      → IsInViews order m
  views_reached given k m row =
      let member = (reach_grows order given true n k m row).member in
      let phase = phase_reached order given true n k m row in
      let view = view_reached order given true n k m row in
      record {
        stays = λ stays.
            subst (λ (a : ℕ × ℕ). EnteredIn order a.0 a.1) (λ j. (sym member j, sym view j))
            (h.stays (ap is_left (sym phase) ∙ stays));
        left = λ left.
            let was = ap is_left (sym phase) ∙ left in
            let taken = taken_reached order given true n k m row was in
            subst (λ (a : ℕ × ℕ × ℕ). LeftIn order a.0 a.1 a.2)
            (λ j. (sym member j, sym view j, sym taken j)) (h.left was);
      }

-- the messages that a node sent are ordered
pub views_sent : (order : List Event) (n : ModelNode) (front back : List Message)
    → IsInViews order n
    → IsInViews (order ++ map (event_of n.at.member) front) (with_ordered n front back)
views_sent order n front back h =
    let grown = views_grow order n h (map (event_of n.at.member) front)
    (λ _. sent_has n.at.member n.at.member front) (λ _. sent_lacks n.at.member n.at.member front) in
    record { stays = grown.stays; left = grown.left }
