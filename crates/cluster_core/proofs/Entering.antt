-- What the laws of a cluster say of a node that joins, and of one that waits for what it misses.
use Rattle.std.proofs.Common.{◌≡◌, ℕ, true, false, Some, None, refl, sym, ◌∙◌, arith, drop}
use Rattle.std.specs.Prelude.{slice_get}
use Rattle.order_event.specs.declared.event.Event.{Event}
use Rattle.node_meaning.specs.declared.progress.Phase.{Phase}
use Rattle.node_meaning.specs.declared.progress.Phase.TheVariants as phase
use Rattle.node_meaning.specs.Node.{ModelNode, is_left, is_joining}
use Rattle.node_meaning.specs.Facts.{own_body}
use Rattle.node_meaning.specs.Cluster.{ModelCluster}
use Rattle.node_laws.specs.Given.{given}
use Rattle.node_laws.specs.InStep.{message_of}
use Rattle.node_laws.proofs.Joining.{body_none, left_rests}
use Rattle.course_laws.proofs.RunSteps.{silent_from}
use Rattle.course_laws.proofs.RunLaws.{idle_of}
use Rattle.cluster_core.specs.Lawful.{IsLawful}
use Rattle.cluster_core.specs.Transfers.{CanJoin, Awaits, MayEnter}
use Rattle.cluster_core.proofs.OrderLaws.{all_each}

stays_joining : (now : Phase) → is_joining now ≡ true → is_left now ≡ false
stays_joining phase.Left joining = absurd cc
stays_joining phase.Joining joining = refl
stays_joining phase.Connected joining = absurd cc

module _ (c : ModelCluster) (lawful : IsLawful c) (i : ℕ) (n : ModelNode) (there : slice_get c.nodes i ≡ Some n) where
  joins : is_left n.at.phase ≡ true → n.at.taken ≡ n.at.committed → CanJoin c.order n
  joins left all =
      let s = lawful.sound.nodes i n there in
      record {
        rests = left_rests c.order n s.facts (s.cleared left) all (idle_of (given c) c lawful i n there left all);
        member = omega (arith, s.known);
      }

  waits : is_joining n.at.phase ≡ true → Awaits c.order n
  waits joining =
      let s = lawful.sound.nodes i n there in
      let rest = (s.waits joining).0 in
      let step = s.in_step (stays_joining n.at.phase joining) in
      record {
        rests = rest;
        others = all_each (λ (e : Event). message_of n.at.member e ≡ None) (λ e. own_body n.at.member e ≡ None) (body_none n.at.member)
            (drop n.at.taken c.order)
            (silent_from n.at.member (drop n.at.taken c.order) (sym step ∙ rest.none_ordered));
      }

  pub may_enter : MayEnter c.order n
  may_enter = record { joins = joins; waits = waits }
