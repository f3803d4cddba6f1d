-- a run over the lines of an input: what it prints, and how it ends
use Rattle.std.specs.Prelude.{ℕ, ◌+◌, ◌&&◌, Bool, nat_le, nat_lt, List, [], ◌∷◌, ◌++◌, length, take, flat_map, Option, Some, None, Result, Ok, Err, if◌then◌else◌}
use Rattle.order_event.specs.declared.step.Answer.{Answer}
use Rattle.order_event.specs.declared.step.Step.{Step}
use Rattle.script_text.specs.declared.line.Header.{Header}
use Rattle.script_text.specs.declared.line.Line.{Line}
use Rattle.script_text.specs.declared.line.Line.TheVariants as said
use Rattle.script_text.specs.declared.line.ScriptCause.{ScriptCause}
use Rattle.script_text.specs.declared.line.ScriptCause.TheVariants as cause
use Rattle.script_text.specs.Grammar.{first_of, line_of}
use Rattle.report_text.specs.Texts.{line_text, node_text}
use Rattle.group_order.specs.Order.{up_to}
use Rattle.node_meaning.specs.Cluster.{ModelCluster, start_cluster, cluster_step, will_order}
use Rattle.cluster_core.specs.State.{end_at, end_rows}
use Rattle.galera_run.specs.declared.line.TheConstants.{MOST_BYTES, MOST_STEPS, MOST_EVENTS}
use Rattle.galera_run.specs.Places.{Opened, Place}
use Rattle.galera_run.specs.Lines.{lines_of, whole_lines}

-- before the first line
abbrev pub start : Place
start = record { number = 1; before = 0; steps = 0; state = None }

-- behind a line, with so many steps run and the cluster as it is then
abbrev pub behind : Place → List ℕ → ℕ → Option Opened → Place
behind p line steps state =
    record { number = p.number + 1; before = p.before + length line; steps = steps; state = state }

-- so many nodes over a group that never failed
abbrev pub opened : ℕ → ModelCluster → Opened
opened nodes model = record { nodes = nodes; cluster = record { model = model; faults = 0 } }

-- up to the header, a line is passed over, or is the header, which begins the cluster
abbrev pub opened_at : Place → List ℕ → Result (Option Header) ScriptCause
    → Result (Option Answer × Place) ScriptCause
opened_at p line (Err c) = Err c
opened_at p line (Ok None) = Ok (None, behind p line p.steps None)
opened_at p line (Ok (Some header)) =
    Ok (
      None,
      behind p line p.steps
          (Some (opened header.nodes (start_cluster header.nodes header.gcache header.id))),
    )

-- a step is answered, and the cluster stands as it left it
abbrev pub answered_at : Place → List ℕ → ℕ → Answer × ModelCluster → Option Answer × Place
answered_at p line nodes (answer, model) =
    (Some answer, behind p line (p.steps + 1) (Some (opened nodes model)))

-- one step line more is allowed, and so are the events that the step is going to order
abbrev pub is_within : ℕ → ModelCluster → Step → Bool
is_within steps model step =
    nat_lt steps MOST_STEPS && nat_le (length model.order + will_order model step) MOST_EVENTS

-- a line behind the header; a step that would pass a limit is refused, and nothing of it is done
abbrev pub stepped_at : Place → List ℕ → Opened → Result Line ScriptCause
    → Result (Option Answer × Place) ScriptCause
stepped_at p line o (Err c) = Err c
stepped_at p line o (Ok said.Blank) = Ok (None, behind p line p.steps (Some o))
stepped_at p line o (Ok (said.Step step)) =
    if is_within p.steps o.cluster.model step
    then Ok (answered_at p line o.nodes (cluster_step o.cluster.model step))
    else Err cause.Limit

abbrev pub read_at : Place → List ℕ → Option Opened → Result (Option Answer × Place) ScriptCause
read_at p line None = opened_at p line (first_of line)
read_at p line (Some o) = stepped_at p line o (line_of o.nodes line)

-- what a line at a place is answered, if it is a step, and where the run stands behind it; a line
-- that passes the last byte allowed is refused, whatever it says
abbrev pub line_at : Place → List ℕ → Result (Option Answer × Place) ScriptCause
line_at p line =
    if nat_le (p.before + length line) MOST_BYTES then read_at p line p.state else Err cause.Limit

-- what a line prints
abbrev pub answer_line : Place → Option Answer → List ℕ
answer_line p None = []
answer_line p (Some answer) = line_text p.number answer

-- where a run over some lines came to: behind them, or to the first line at fault
pub data Reached : Type 0 where
  place : Place → Reached
  fault : ℕ → ScriptCause → Reached

-- what was printed, and where that came to
pub record Told : Type 0 where
  pub text : List ℕ
  pub reached : Reached

abbrev pub front : List ℕ → Told → Told
front text told = record { text = text ++ told.text; reached = told.reached }

abbrev pub follows : Place → Result (Option Answer × Place) ScriptCause → (Place → Told) → Told
follows p (Err c) later = record { text = []; reached = fault p.number c }
follows p (Ok (answer, next)) later = front (answer_line p answer) (later next)

-- behind the last line
abbrev pub told_at : Place → Told
told_at p = record { text = []; reached = place p }

-- a run over lines from a place on
abbrev pub told_from : Place → List (List ℕ) → Told
told_from p [] = told_at p
told_from p (line ∷ lines) = follows p (line_at p line) (λ next. told_from next lines)

-- how a run over a whole input ends: with its steps run and a cluster, or refused at a line
pub data Ending : Type 0 where
  finished : ℕ → ModelCluster → Ending
  refused : ℕ → ScriptCause → Ending

-- an input without a header is refused behind its last line
abbrev pub end_of : Place → Option Opened → Ending
end_of p None = refused p.number cause.Grammar
end_of p (Some o) = finished p.steps o.cluster.model

abbrev pub ending_of : Reached → Ending
ending_of (place p) = end_of p p.state
ending_of (fault number c) = refused number c

-- what a node shows at the end: its place and its rows
abbrev pub node_end : ModelCluster → ℕ → List ℕ
node_end model node = node_text node (end_at model node) (end_rows model node)

-- what the first nodes show, in their order
abbrev pub nodes_end : ModelCluster → ℕ → List ℕ
nodes_end model nodes = flat_map (node_end model) (up_to nodes)

-- behind the answers each node's place and rows are printed, where all was read
abbrev pub end_text : Ending → List ℕ
end_text (finished steps model) = nodes_end model (length model.nodes)
end_text (refused number c) = []

-- what the run over an input prints, and how it ends
pub record Run : Type 0 where
  pub text : List ℕ
  pub ending : Ending

abbrev pub run_told : Told → Run
run_told told =
    record {
      text = told.text
          ++ end_text (ending_of told.reached);
      ending = ending_of told.reached;
    }

-- a run that ends with this cluster
abbrev pub run_ended : ℕ → ModelCluster → Run
run_ended steps model =
    record { text = end_text (finished steps model); ending = finished steps model }

unfoldable pub run_of : List ℕ → Run
run_of bytes = run_told (told_from start (lines_of bytes))

-- what the first lines of an input print, so many of them
unfoldable pub first_text : ℕ → List ℕ → List ℕ
first_text count bytes = (told_from start (take count (lines_of bytes))).text

-- the run over the lines whose newline is among the bytes
unfoldable pub told_so_far : List ℕ → Told
told_so_far bytes = told_from start (whole_lines bytes)

-- what they print
abbrev pub text_so_far : List ℕ → List ℕ
text_so_far bytes = (told_so_far bytes).text
