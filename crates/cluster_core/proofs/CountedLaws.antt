-- How much a cluster has given out after a step of the code.
use Rattle.std.proofs.Common.{◌≡◌, ◌+◌, ◌≤◌, length, sym, ap, subst, ◌∙◌, arith, Result, Ok, Err}
use Rattle.std.specs.Prelude.{IfOk, IfErr, OnOk}
use Rattle.order_event.specs.declared.step.Answer.{Answer}
use Rattle.order_event.specs.declared.step.Step.{Step}
use Rattle.node_meaning.specs.Cluster.{ModelCluster, cluster_step, will_order}
use Rattle.node_laws.specs.Given.{given}
use Rattle.node_laws.proofs.ClusterLaws.{cluster_grows}
use Rattle.node_laws.proofs.GivenLaws.{step_given, stopped_stays}
use Rattle.cluster_core.specs.declared.fault.StepFault.{StepFault}
use Rattle.cluster_core.specs.Steps.{FailedBy}

module _ (old new : ModelCluster) (step : Step) where
  abbrev Done : {E : Type 0} → Result Answer E → Type 0
  Done r = IfOk r (λ answer. (answer, new) ≡ cluster_step old step)

  after : (x : Answer) → (x, new) ≡ cluster_step old step → (cluster_step old step).1 ≡ new
  after x is = sym (ap (λ (p : Answer × ModelCluster). p.1) is)

  pub given_after : (r : Result Answer StepFault) → Done r → IfErr r (FailedBy step.act step.node old new) → given new ≤ given old + 1
  given_after (Ok x) ok err = subst (λ c. given c ≤ given old + 1) (after x ok) (step_given old step)
  given_after (Err e) ok err = omega (arith, (stopped_stays step.act step.node old new err.0 err.1).given)

  pub nodes_after : (r : Result Answer StepFault) → Done r → IfErr r (FailedBy step.act step.node old new) → length new.nodes ≡ length old.nodes
  nodes_after (Ok x) ok err = ap (λ (c : ModelCluster). length c.nodes) (sym (after x ok)) ∙ (cluster_grows old step).count
  nodes_after (Err e) ok err = (stopped_stays step.act step.node old new err.0 err.1).nodes

  pub events_after : {E : Type 0} (r : Result Answer E) → Done r → OnOk r (length new.order ≡ length old.order + will_order old step)
  events_after (Ok x) ok = ap (λ (c : ModelCluster). length c.order) (sym (after x ok)) ∙ (cluster_grows old step).order
  events_after (Err e) ok = tt
