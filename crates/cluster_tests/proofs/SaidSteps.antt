-- A step that a line says is one that a cluster can do.
use Rattle.std.proofs.Common.{◌≡◌, ℕ, List, Ok, IsTrue}
use Rattle.order_event.specs.declared.step.Act.{Act}
use Rattle.order_event.specs.declared.step.Act.TheVariants as act
use Rattle.order_event.specs.declared.step.Step.{Step}
use Rattle.order_event.specs.Fits.{step_fits}
use Rattle.script_text.specs.declared.line.Line.TheVariants as line
use Rattle.script_text.specs.Grammar.{line_of}
use Rattle.script_text.specs.Steps.{HasSession, IsStepOf}
use Rattle.script_text.proofs.FitLemmas.{line_fits, line_step}
use Rattle.cluster_core.specs.Steps.{has_session}

pub session_of_step : (a : Act) → HasSession a → has_session a
session_of_step (act.Client session call) h = h
session_of_step other h = tt

pub has_names : (nodes : ℕ) (text : List ℕ) (step : Step) → line_of nodes text ≡ Ok (line.Step step)
    → IsTrue (step_fits step)
has_names = line_fits

pub is_of : (nodes : ℕ) (text : List ℕ) (step : Step) → line_of nodes text ≡ Ok (line.Step step)
    → IsStepOf nodes step
is_of = line_step
