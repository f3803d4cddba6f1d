-- The parts of a node's status are those of the fold at what it has certified.
use Rattle.std.proofs.Common.{◌≡◌, ℕ, List, ap, ◌∙◌}
use Rattle.finite_map.specs.FiniteMap.{len}
use Rattle.order_event.specs.declared.event.Event.{Event}
use Rattle.order_event.specs.declared.step.Answer.TheVariants as answer
use Rattle.cert_meaning.specs.Fold.{state_at}
use Rattle.node_meaning.specs.Node.{ModelNode}
use Rattle.node_meaning.specs.Status.{index_count, status_step}

pub status_is : (order : List Event) (n : ModelNode) (floor index count : ℕ)
    → floor ≡ (state_at order n.at.certified).floor
    → index ≡ index_count (state_at order n.at.certified) n.at.committed
    → count ≡ len (state_at order n.at.certified).open_trx
    → answer.Status n.at.taken n.at.certified n.at.committed floor index count
    ≡ (status_step order n).0
unfolding status_step
status_is order n floor index count least kept opened =
    let s = state_at order n.at.certified in
    ap (λ k. answer.Status n.at.taken n.at.certified n.at.committed k index count) least
    ∙ ap (λ k. answer.Status n.at.taken n.at.certified n.at.committed s.floor k count) kept
    ∙ ap (answer.Status n.at.taken n.at.certified n.at.committed s.floor (index_count s n.at.committed))
    opened
