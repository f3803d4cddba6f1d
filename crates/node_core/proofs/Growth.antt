-- A node that stands for an order stands for every order that goes on from it.
use Rattle.std.proofs.Common.{◌≡◌, ℕ, zero, suc, ◌≤◌, List, ◌++◌, length, Some, sym, ap, subst, ◌∙◌, arith, drop}
use Rattle.std.proofs.lemmas.List.{take-append-le}
use Rattle.order_event.specs.declared.event.Event.{Event}
use Rattle.apply_unit.specs.Task.{task}
use Rattle.cert_meaning.specs.State.{FoldState}
use Rattle.cert_meaning.proofs.FoldLaws.{state_at-append}
use Rattle.certification.proofs.Certifying.{certifies_grow}
use Rattle.node_meaning.specs.declared.progress.Stage.{Stage}
use Rattle.node_meaning.specs.declared.progress.Stage.TheVariants as stage
use Rattle.node_meaning.specs.Node.{ApplyUnit, rows_at}
use Rattle.node_meaning.specs.Units.{ops_at, rows_before, unit_task, images_of, named_rows}
use Rattle.node_meaning.proofs.GrowFacts.{facts_grow, ops_at-append}
use Rattle.node_parts.specs.Units.{Work}
use Rattle.gcache_ring.specs.Held.{held}
use Rattle.node_core.specs.declared.node.NodeParts.{NodeParts}
use Rattle.node_core.specs.Tabled.{Tabled}
use Rattle.node_core.specs.Stands.{Stands, AreWorked, IsWorked, HasTask}

module _ (order more : List Event) where
  rows_at-append : (n : ℕ) → n ≤ length order → rows_at (order ++ more) n ≡ rows_at order n
  rows_at-append n fits = ap (λ (s : FoldState). s.rows) (state_at-append order more n fits)

  rows_before-append : (number : ℕ) → number ≤ length order → rows_before (order ++ more) number ≡ rows_before order number
  rows_before-append zero fits = rows_at-append 0 (omega arith)
  rows_before-append (suc n) fits = rows_at-append n (omega (arith, fits))

  -- the work of a unit stays
  pub unit_task-append : (number : ℕ) → number ≤ length order → unit_task (order ++ more) number ≡ unit_task order number
  unit_task-append number fits =
      ap (λ ops. task number ops (images_of ops (rows_before (order ++ more) number))) (ops_at-append order more number fits)
      ∙ ap (λ rows. task number (ops_at order number) (images_of (ops_at order number) rows)) (rows_before-append number fits)

  task-append : (number : ℕ) (work : Work) (s : Stage) → number ≤ length order → HasTask order number work s
      → HasTask (order ++ more) number work s
  task-append number work stage.Started fits h = h
  task-append number work stage.Finished fits h = h ∙ ap Some (sym (unit_task-append number fits))

  worked-append : (number : ℕ) (u : ApplyUnit) (work : Work) → number ≤ length order → IsWorked order number u work
      → IsWorked (order ++ more) number u work
  worked-append number u work fits h = record {
    rows = h.rows ∙ ap (λ ops. length (named_rows ops)) (sym (ops_at-append order more number fits));
    task = task-append number work u.stage fits h.task;
  }

  module _ (node : NodeParts) (st : Stands order node) where
    certified_fits : node.at.certified ≤ length order
    certified_fits = omega (arith, st.facts.in_order.certified_fits, st.facts.in_order.taken_fits)

    committed_fits : node.at.committed ≤ length order
    committed_fits = omega (arith, certified_fits, st.facts.in_order.committed_fits)

    units-append : AreWorked (order ++ more) node.units
    units-append = record {
      worked = λ number u there.
          let unit = st.facts.units number u there in
          let old = st.tables.units.worked number u there in
          (old.0, old.1, worked-append number u old.0 (omega (arith, unit.within, certified_fits)) old.2);
    }

  -- the node stands for the longer order
  pub stands_grow : (node : NodeParts) → Stands order node → Stands (order ++ more) node
  stands_grow node st = record {
    inbox = st.inbox ∙ ap (drop node.at.certified) (sym (take-append-le node.at.taken order more st.facts.in_order.taken_fits));
    certification = certifies_grow order node.at.committed node.at.certified node.certification st.certification more;
    tables = record {
      locks = st.tables.locks;
      rows = subst (λ rows. Tabled rows node.live node.rows) (sym (rows_at-append node.at.committed (committed_fits node st))) st.tables.rows;
      units = units-append node st;
      room = st.tables.room;
    };
    serves = record {
      ring = st.serves.ring
          ∙ ap (λ (events : List Event). record {
            size = node.ring.size;
            last = node.at.taken;
            events = held node.ring.size (drop node.since events);
          }) (sym (take-append-le node.at.taken order more st.facts.in_order.taken_fits));
      since = st.serves.since;
      id = st.serves.id;
    };
    facts = facts_grow order more _ st.facts;
  }
