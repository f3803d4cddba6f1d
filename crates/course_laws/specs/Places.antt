-- where a node is in its course, in its group, joining it or out of it, and what holds of it there
use Rattle.std.specs.Prelude.{◌≡◌, ◌≤◌, ◌<◌, ℕ, ◌+◌, List, slice_get, Some}
use Rattle.order_event.specs.declared.event.Event.{Event}
use Rattle.node_meaning.specs.declared.progress.Phase.TheVariants as phase
use Rattle.node_meaning.specs.Node.{ModelNode}
use Rattle.node_meaning.specs.Facts.{Facts}
use Rattle.node_meaning.specs.Joining.{IsAtRest}
use Rattle.node_laws.specs.InStep.{IsInStep, IsCleared}
use Rattle.course_laws.specs.Ordered.{Keeps, Stage}

-- all events keep the member, from the view on in which it entered
abbrev pub AllKeep : List Event → ℕ → ℕ → Type 0
AllKeep order member view =
    (j : ℕ) (e : Event) → view ≤ j + 1 → slice_get order j ≡ Some e → Keeps member e

-- a node in its group: its messages behind what it took are those that it had ordered, and all
-- events keep its member
pub record HasStayed (order : List Event) (n : ModelNode) : Type 0 where
  pub connected : n.at.phase ≡ phase.Connected
  pub in_step : IsInStep order n
  pub keeps : AllKeep order n.at.member n.at.view

-- a node that joins: it rests, and has not taken the view in which its member enters
pub record HasJoined (order : List Event) (n : ModelNode) : Type 0 where
  pub joining : n.at.phase ≡ phase.Joining
  pub rest : IsAtRest n
  pub behind : n.at.taken < n.at.view
  pub in_step : IsInStep order n
  pub keeps : AllKeep order n.at.member n.at.view

-- of the first so many events those do
abbrev pub FirstKeep : List Event → ℕ → ℕ → ℕ → Type 0
FirstKeep order member view count =
    (j : ℕ) (e : Event) → view ≤ j + 1 → j < count → slice_get order j ≡ Some e → Keeps member e

-- a node that left: nothing is queued, each live transaction has sent its commit, and all events
-- that it took keep its member
pub record HasLeft (order : List Event) (n : ModelNode) : Type 0 where
  pub left : n.at.phase ≡ phase.Left
  pub cleared : IsCleared n.ordered n.outbox n.live
  pub keeps : FirstKeep order n.at.member n.at.view n.at.taken

pub data Place (order : List Event) (n : ModelNode) : Type 0 where
  Inside : HasStayed order n → Place order n
  Entering : HasJoined order n → Place order n
  Outside : HasLeft order n → Place order n

-- what holds of the node of a member
pub record Follows (order : List Event) (member : ℕ) (n : ModelNode) : Type 0 where
  pub home : n.at.member ≡ member
  pub facts : Facts order n
  pub stage : Stage order n
  pub place : Place order n
