-- The nodes so far are the first ones, at their start.
use Rattle.std.specs.Prelude.{◌≡◌, List, map}
use Rattle.std.specs.List.{AllByRecursion}
use Rattle.order_event.specs.declared.event.Event.{Event}
use Rattle.group_order.specs.Order.{up_to}
use Rattle.node_meaning.specs.Node.{start_node}
use Rattle.cluster_core.specs.Seated.{IsSeated, seen}
use Rattle.cluster_core.specs.Acts.{nodes_of}
use Rattle.cluster_core.proofs.cluster.seats_of.Given as goal

abbrev pub invariant-loop-before : goal.invariant-loop-before
invariant-loop-before g l =
    (nodes_of l.seats.items ≡ map (start_node l.fn.gcache l.fn.id) (up_to l.before))
    × ((order : List Event) → AllByRecursion (λ s. IsSeated order (seen s)) l.seats.items)
