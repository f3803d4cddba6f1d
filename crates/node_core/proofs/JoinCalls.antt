-- A node that joins, and one that takes the state that it misses, stands as the model's does.
use Rattle.std.proofs.Common.{rules, ◌≡◌, ℕ, ◌+◌, ◌≤◌, Bool, List, [], ◌∷◌, ◌++◌, length, take, drop, None, refl, ap, sym, subst, ◌∙◌, arith}
use Rattle.std.specs.Prelude.{if◌then◌else◌}
use Rattle.std.specs.List.{AllByRecursion, filter_map, cons_option}
use Rattle.std.proofs.Common.{length-take-le}
use Rattle.std.proofs.Math.Seq.{take-add}
use Rattle.std.proofs.lemmas.List.{drop-append-le, length-take, length-drop}
use Rattle.gcache_ring.specs.Held.{Ring, held, with_events}
use Rattle.gcache_ring.proofs.HeldLemmas.{held-all, held-fits, held-all_again, with_events-is}
use Rattle.wsrep_base.specs.StateId.{nil_id}
use Rattle.order_event.specs.declared.event.Event.{Event}
use Rattle.node_meaning.specs.declared.progress.Phase.TheVariants as phase
use Rattle.node_meaning.specs.Node.{ModelNode}
use Rattle.node_meaning.specs.Facts.{Facts, own_body}
use Rattle.node_meaning.specs.Joining.{IsAtRest, joined_node, received_events}
use Rattle.node_meaning.proofs.Joining.{joined_facts, received_facts, NoneOwn, none_behind}
use Rattle.node_core.specs.declared.node.NodeParts.{NodeParts}
use Rattle.node_core.specs.Taking.{all_kept}
use Rattle.node_core.specs.Joining.{EventsFit, AreNext, TookEvents}
use Rattle.node_core.specs.Stands.{Stands, Does, DoneOver, plain_of, quietly}

-- the node once it joined, with this id
abbrev pub after_join : NodeParts → ℕ → ℕ → List ℕ → NodeParts
after_join node member view id = record node {
  at = record node.at { phase = phase.Joining; member = member; view = view; serial = 1; begin = 1 };
  id = id;
}

pub join_does : (old : NodeParts) (fresh : Bool) (member view : ℕ) (id : List ℕ) → IsAtRest (plain_of old)
    → id ≡ (if fresh then nil_id else old.id)
    → Does (quietly (joined_node fresh member view)) old (after_join old member view id) tt
join_does old fresh member view id rests is order st =
    let new = after_join old member view id in
    let same : plain_of new ≡ joined_node fresh member view (plain_of old) =
    ap (λ (own : List ℕ). plain_of (after_join old member view own)) is in
    record {
      same = ap (λ (n : ModelNode). (tt, n)) same;
      stands = record {
        inbox = st.inbox;
        certification = st.certification;
        tables = search rules;
        serves = record {
          ring = st.serves.ring;
          since = st.serves.since;
          id = λ connected. cc;
        };
        facts = subst (Facts order) (sym same) (joined_facts order fresh member view (plain_of old) rests st.facts);
      };
    }

-- ---- several events are taken at once
none_of : (member : ℕ) (events : List Event) → AllByRecursion (λ e. own_body member e ≡ None) events
    → filter_map (own_body member) events ≡ []
none_of member [] all = refl
none_of member (e ∷ es) all =
    ap (λ o. cons_option o (filter_map (own_body member) es)) all.0 ∙ none_of member es all.1

module _ (order events : List Event) (taken last : ℕ) (inside : taken ≤ length order)
    (next : AreNext order taken events) (to : last ≡ taken + length events) where
  last_fits : last ≤ length order
  last_fits =
      let few = sym (length-take (length events) (drop taken order)) ∙ ap length next in
      omega (arith, few, to, length-drop taken order, inside)

  taken_more : (from : ℕ) → from ≤ taken
      → drop from (take taken order) ++ events ≡ drop from (take last order)
  taken_more from below =
      let long : from ≤ length (take taken order) = omega (arith, length-take-le taken order inside, below) in
      sym (ap (drop from) (ap (λ k. take k order) to ∙ take-add taken (length events) order
      ∙ ap (λ (l : List Event). take taken order ++ l) next)
      ∙ drop-append-le from (take taken order) events long)

  events_are : drop taken (take last order) ≡ events
  events_are =
      sym (taken_more taken (omega arith)) ∙ ap (λ (l : List Event). l ++ events) (none_behind taken order)

-- the node once it took these events
abbrev pub after_events : NodeParts → List Event → ℕ → NodeParts
after_events node events last = record (all_kept node events) {
  at = record node.at { phase = phase.Connected; taken = last };
}

module _ (old : NodeParts) (events : List Event) (last : ℕ) (to : last ≡ old.at.taken + length events)
    (rests : IsAtRest (plain_of old)) (fits : EventsFit events (plain_of old)) where
  module _ (order : List Event) (next : AreNext order old.at.taken events) (st : Stands order old) where
    inside : old.at.taken ≤ length order
    inside = st.facts.in_order.taken_fits

    ring_after : with_events old.ring events
        ≡ record {
          size = old.ring.size;
          last = last;
          events = held old.ring.size (drop old.since (take last order));
        }
    ring_after =
        let size = old.ring.size in
        let had = drop old.since (take old.at.taken order) in
        let ring : Ring = record { size = size; last = old.at.taken; events = held size had } in
        ap (λ (r : Ring). with_events r events) st.serves.ring
        ∙ with_events-is events ring (held-all size (held size had) (held-fits size had))
        ∙ ap (λ (l : List Event). record { size = size; last = old.at.taken + length events; events = l })
        (held-all_again size had events
        ∙ ap (held size) (taken_more order events old.at.taken last inside next to old.since st.serves.since))
        ∙ ap (λ (k : ℕ). record { size = size; last = k; events = held size (drop old.since (take last order)) }) (sym to)

    none_own : NoneOwn order old.at.member old.at.taken last
    none_own =
        ap (filter_map (own_body old.at.member)) (events_are order events old.at.taken last inside next to)
        ∙ none_of old.at.member events fits.others

    events_done : DoneOver order (quietly (received_events last) order) old (after_events old events last) tt
    events_done = record {
      same = ap (λ (k : ℕ). (
        tt,
        record (plain_of old) {
          gcache = k;
          at = record old.at { phase = phase.Connected; taken = last };
        },
      )) (ap (λ (r : Ring). r.size) ring_after);
      stands = record {
        inbox = ap (λ (l : List Event). l ++ events) st.inbox
            ∙ taken_more order events old.at.taken last inside next to old.at.certified st.facts.in_order.certified_fits;
        certification = st.certification;
        tables = search rules;
        serves = record {
          ring = ring_after ∙ ap (λ (k : ℕ). record {
            size = k;
            last = last;
            events = held k (drop old.since (take last order));
          }) (sym (ap (λ (r : Ring). r.size) ring_after));
          since = omega (arith, st.serves.since, to);
          id = λ connected. fits.given;
        };
        facts = subst (λ (k : ℕ). Facts order (record (plain_of old) {
          gcache = k;
          at = record old.at { phase = phase.Connected; taken = last };
        })) (sym (ap (λ (r : Ring). r.size) ring_after))
            (received_facts order last (plain_of old) rests (omega (arith, to))
            (last_fits order events old.at.taken last inside next to) none_own st.facts);
      };
    }

  pub took_events : TookEvents events old (after_events old events last) last
  took_events = record { to = to; does = events_done }
