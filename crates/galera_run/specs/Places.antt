-- where a run over the lines of a schedule stands; of the watchers of its nodes nothing is said
use Rattle.std.specs.Prelude.{ℕ, List, Option}
use Rattle.cluster_core.specs.State.{ClusterState}

-- the cluster of a schedule, once its header came
pub record Opened : Type 0 where
  pub nodes : ℕ
  pub cluster : ClusterState

-- the number of the next line, counted from 1, the bytes of the lines before it, with their
-- newlines, and the step lines that were run
pub record Place : Type 0 where
  pub number : ℕ
  pub before : ℕ
  pub steps : ℕ
  pub state : Option Opened

-- a schedule as it is read: where its lines stand, and the bytes of the line that has begun
pub record Script : Type 0 where
  pub place : Place
  pub pending : List ℕ
