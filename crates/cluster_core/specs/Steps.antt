-- what a step of a cluster leaves where it could not be done, and where it may come to a fault
use Rattle.std.specs.Prelude.{◌≡◌, ◌≤◌, ◌<◌, ℕ, ◌-◌, List, length, slice_get, Option, Some, None, Result, MatchResult, IsTrue, Bool, true, false}
use Rattle.order_event.specs.declared.event.Event.{Event}
use Rattle.order_event.specs.declared.step.Act.{Act}
use Rattle.order_event.specs.declared.step.Act.TheVariants as act
use Rattle.order_event.specs.declared.step.Answer.{Answer}
use Rattle.order_event.specs.declared.step.Answer.TheVariants as answer
use Rattle.node_meaning.specs.Node.{ModelNode, is_connected, is_joining, is_left}
use Rattle.node_meaning.specs.Joining.{transfer_from}
use Rattle.node_meaning.specs.Cluster.{ModelCluster}
use Rattle.node_laws.specs.Drains.{StoppedAt}
use Rattle.node_core.specs.Memory.{CallWants, TakeWants, CertifyWants, StartWants, ReportWants}
use Rattle.cluster_core.specs.declared.fault.StepFault.{StepFault}
use Rattle.cluster_core.specs.declared.fault.StepFault.TheVariants as fault

-- the session of a step is 1 to 32
abbrev pub has_session : Act → Type 0
has_session (act.Client session call) = (1 ≤ session) × (session ≤ 32)
has_session other = Unit {0}

-- ---- where a step of a node may come to a fault
-- a join is not refused
abbrev pub Joins : ModelNode → Type 0
Joins n = (is_left n.at.phase ≡ true) × (n.at.taken ≡ n.at.committed)

-- to a fault of the group, where it asks the group: ordering a message that waits, taking, where
-- the node is connected, leaving, where it has not left, and joining, where that is not refused
abbrev pub Asks : ModelNode → Act → Type 0
Asks n act.Order = 0 < length n.outbox
Asks n act.Take = IsTrue (is_connected n.at.phase)
Asks n act.Leave = is_left n.at.phase ≡ false
Asks n (act.Join fresh) = Joins n
Asks n other = ⊥

-- to want of memory; finishing and committing never do
abbrev pub Wants : List Event → ModelNode → Act → Type 0
Wants order n (act.Client session call) = CallWants n session call
Wants order n act.Order = 0 < length n.outbox
Wants order n act.Take = TakeWants n × (n.at.taken < length order)
Wants order n act.Certify = CertifyWants n
Wants order n (act.Start number) = StartWants order n number
Wants order n act.Report = ReportWants n
Wants order n act.Leave = is_left n.at.phase ≡ false
Wants order n (act.Join fresh) = Joins n
Wants order n other = ⊥

abbrev pub MayFail : List Event → ModelNode → Act → StepFault → Type 0
MayFail order n a fault.Group = Asks n a
MayFail order n a fault.NoMemory = Wants order n a

-- a donor hands something over
abbrev pub hands_over : Answer → Bool
hands_over (answer.Ist from last) = true
hands_over (answer.Sst number) = true
hands_over other = false

-- a transfer may come to want of memory where that is so
pub record TransferWants (c : ModelCluster) (n : ModelNode) (donor : ℕ) : Type 0 where
  pub joining : is_joining n.at.phase ≡ true
  pub hands : IsTrue (hands_over (transfer_from c.order n (slice_get c.nodes (donor - 1))).0)

abbrev pub MayFailIn : ModelCluster → ModelNode → Act → StepFault → Type 0
MayFailIn c n (act.Transfer donor) fault.Group = ⊥
MayFailIn c n (act.Transfer donor) fault.NoMemory = TransferWants c n donor
MayFailIn c n other e = MayFail c.order n other e

abbrev pub MayFailAt : ModelCluster → Option ModelNode → Act → StepFault → Type 0
MayFailAt c None a e = ⊥
MayFailAt c (Some n) a e = MayFailIn c n a e

-- what a step that came to a fault leaves; the step that could not be done may come to that fault
-- there
abbrev pub FailedBy : Act → ℕ → ModelCluster → ModelCluster → StepFault → Type 0
FailedBy a node old new e =
    (next : Act) × StoppedAt a node old new next
    × MayFailAt new (slice_get new.nodes (node - 1)) next e

-- ---- causes
abbrev pub fault_cause : ℕ → ℕ → StepFault → Type 0
fault_cause before now fault.Group = before < now
fault_cause before now fault.NoMemory = now ≡ before

-- the group's count rose where it failed, and is the same elsewhere
abbrev pub HasGroupCause : {T : Type 0} → ℕ → ℕ → Result T StepFault → Type 0
HasGroupCause before now result = MatchResult result (λ _. now ≡ before) (fault_cause before now)
