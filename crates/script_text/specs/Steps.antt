-- what holds of each step that a line says, and of each header
use Rattle.std.specs.Prelude.{ℕ, ◌≤◌, IsTrue}
use Rattle.wsrep_base.specs.declared.limits.TheConstants.{MOST_RING_BYTES}
use Rattle.order_event.specs.declared.step.Act.{Act}
use Rattle.order_event.specs.declared.step.Act.TheVariants.{Client}
use Rattle.order_event.specs.declared.step.Step.{Step}
use Rattle.order_event.specs.Fits.{step_fits}
use Rattle.script_text.specs.declared.line.Header.{Header}

-- a session that a node may have
abbrev pub HasSession : Act → Type 0
HasSession (Client session call) = (1 ≤ session) × (session ≤ 32)
HasSession other = Unit {0}

-- a step of one of so many nodes
pub record IsStepOf (nodes : ℕ) (step : Step) : Type 0 where
  pub some_node : 1 ≤ step.node
  pub among_nodes : step.node ≤ nodes
  pub has_session : HasSession step.act

-- a step of one of so many nodes, whose names have their form
abbrev pub IsRunnable : ℕ → Step → Type 0
IsRunnable nodes step = IsStepOf nodes step × IsTrue (step_fits step)

-- a header of a cluster within its limits
pub record IsHeader (header : Header) : Type 0 where
  pub some_node : 1 ≤ header.nodes
  pub few_nodes : header.nodes ≤ 9
  pub small_ring : header.gcache ≤ MOST_RING_BYTES
