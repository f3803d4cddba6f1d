-- the run over an input as a run over the steps of its lines
use Rattle.std.specs.Prelude.{◌≡◌, ℕ, ◌+◌, ◌-◌, List, [], ◌∷◌, ◌++◌, length, map, take, Option, Some, None, Result, Ok, Err}
use Rattle.order_event.specs.declared.step.Answer.{Answer}
use Rattle.order_event.specs.declared.step.Step.{Step}
use Rattle.script_text.specs.declared.line.Header.{Header}
use Rattle.script_text.specs.declared.line.Line.{Line}
use Rattle.script_text.specs.declared.line.Line.TheVariants as said
use Rattle.script_text.specs.declared.line.ScriptCause.{ScriptCause}
use Rattle.script_text.specs.Grammar.{first_of, line_of}
use Rattle.report_text.specs.Texts.{line_text}
use Rattle.node_meaning.specs.Cluster.{ModelCluster, start_cluster, run}
use Rattle.galera_run.specs.Lines.{lines_of}
use Rattle.galera_run.specs.Reading.{Ending, finished, refused, end_text, run_of}

-- a step and the number of its line
pub record LineStep : Type 0 where
  pub number : ℕ
  pub step : Step

abbrev pub line_step : ℕ → Step → LineStep
line_step number step = record { number = number; step = step }

-- the step that a line says, where it says one
abbrev pub said_step : ℕ → Result Line ScriptCause → List LineStep
said_step number (Err c) = []
said_step number (Ok said.Blank) = []
said_step number (Ok (said.Step step)) = line_step number step ∷ []

-- the steps of lines behind the header, the first of which has this number
abbrev pub steps_behind : ℕ → ℕ → List (List ℕ) → List LineStep
steps_behind nodes number [] = []
steps_behind nodes number (line ∷ lines) =
    said_step number (line_of nodes line) ++ steps_behind nodes (number + 1) lines

-- a header, where there is one, and the steps behind it
pub record Schedule : Type 0 where
  pub header : Option Header
  pub steps : List LineStep

abbrev pub no_schedule : Schedule
no_schedule = record { header = None; steps = [] }

-- what a line before the header is: a fault ends the schedule, and what is passed over leaves it to
-- the later lines
abbrev pub schedule_at : ℕ → Result (Option Header) ScriptCause → List (List ℕ) → Schedule
    → Schedule
schedule_at number (Err c) lines later = no_schedule
schedule_at number (Ok None) lines later = later
schedule_at number (Ok (Some header)) lines later =
    record { header = Some header; steps = steps_behind header.nodes (number + 1) lines }

-- the schedule of lines, the first of which has this number
abbrev pub schedule_from : ℕ → List (List ℕ) → Schedule
schedule_from number [] = no_schedule
schedule_from number (line ∷ lines) =
    schedule_at number (first_of line) lines (schedule_from (number + 1) lines)

-- the run over steps from a cluster on
abbrev pub run_over : List LineStep → ModelCluster → List Answer × ModelCluster
run_over steps model = run (map (λ (s : LineStep). s.step) steps) model

-- each answer behind the number of its line
abbrev pub answers_text : List LineStep → List Answer → List ℕ
answers_text [] answers = []
answers_text (s ∷ steps) [] = []
answers_text (s ∷ steps) (answer ∷ answers) =
    line_text s.number answer ++ answers_text steps answers

-- the cluster that a header begins
abbrev pub cluster_of : Header → ModelCluster
cluster_of header = start_cluster header.nodes header.gcache header.id

-- what the run over the steps of a schedule prints
abbrev pub schedule_text : Option Header → List LineStep → List ℕ
schedule_text None steps = []
schedule_text (Some header) steps = answers_text steps (run_over steps (cluster_of header)).0

abbrev pub text_of_steps : Schedule → List ℕ
text_of_steps s = schedule_text s.header s.steps

-- all lines were run: so many steps, from the start of the header's cluster to this one
pub record IsRunTo (s : Schedule) (steps : ℕ) (cluster : ModelCluster) : Type 0 where
  pub header : Header
  pub is_header : s.header ≡ Some header
  pub count : steps ≡ length s.steps
  pub after : cluster ≡ (run_over s.steps (cluster_of header)).1

-- the text of a run over lines is that of the run over their steps; where it is refused at a line,
-- over those of the lines before it
abbrev pub EndsOver : List (List ℕ) → List ℕ → Ending → Type 0
EndsOver lines text (finished steps cluster) =
    (text ≡ text_of_steps (schedule_from 1 lines) ++ end_text (finished steps cluster))
    × IsRunTo (schedule_from 1 lines) steps cluster
EndsOver lines text (refused number c) =
    text ≡ text_of_steps (schedule_from 1 (take (number - 1) lines))

-- for each input
abbrev pub RunsOverSteps : Type 0
RunsOverSteps =
    (input : List ℕ) → EndsOver (lines_of input) (run_of input).text (run_of input).ending
