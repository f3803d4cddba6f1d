-- what a node's status is: where it stands, and how much it keeps for certification
use Rattle.std.specs.Prelude.{ℕ, ◌&&◌, ◌==◌, nat_lt, min, Bool, List, [], ◌∷◌, length, flat_map, if◌then◌else◌}
use Rattle.std.specs.List.{filter, list_any}
use Rattle.finite_map.specs.FiniteMap.{len}
use Rattle.key_sets.specs.declared.kind.Kind.{Kind}
use Rattle.key_sets.specs.declared.parts.Parts.{Parts}
use Rattle.key_sets.specs.Keys.{pairs_of}
use Rattle.key_sets.specs.Kinds.{kind_number}
use Rattle.key_sets.specs.Parts.{same_parts}
use Rattle.order_event.specs.declared.event.Event.{Event}
use Rattle.order_event.specs.declared.step.Answer.{Answer}
use Rattle.order_event.specs.declared.step.Answer.TheVariants as answer
use Rattle.cert_meaning.specs.declared.items.CommitItem.{CommitItem}
use Rattle.cert_meaning.specs.State.{FoldState}
use Rattle.cert_meaning.specs.Fold.{state_at}
use Rattle.node_meaning.specs.Node.{ModelNode}

-- whether two kinds at parts are the same
abbrev pub same_pair : Parts × Kind → Parts × Kind → Bool
same_pair p q = same_parts p.0 q.0 && kind_number p.1 == kind_number q.1

-- each of them once
abbrev pub each_once : List (Parts × Kind) → List (Parts × Kind)
each_once [] = []
each_once (p ∷ ps) = if list_any (same_pair p) ps then each_once ps else p ∷ each_once ps

-- the kinds at parts of all commits above a number, with those at the tables of rows
abbrev pub pairs_above : ℕ → List CommitItem → List (Parts × Kind)
pairs_above number commits =
    flat_map (λ (commit : CommitItem). pairs_of commit.keys)
    (filter (λ (commit : CommitItem). nat_lt number commit.number) commits)

-- how many different ones the commits have that a write set may still be tested against, or that
-- are not committed
unfoldable pub index_count : FoldState → ℕ → ℕ
index_count s committed = length (each_once (pairs_above (min s.floor committed) s.commits))

abbrev pub status_by : FoldState → ModelNode → Answer
status_by s n =
    answer.Status n.at.taken n.at.certified n.at.committed s.floor (index_count s n.at.committed)
    (len s.open_trx)

-- it changes nothing
unfoldable pub status_step : List Event → ModelNode → Answer × ModelNode
status_step order n = (status_by (state_at order n.at.certified) n, n)
