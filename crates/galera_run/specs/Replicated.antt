-- that the run whose text the program wrote is right
use Rattle.std.specs.Prelude.{◌≡◌, ◌⊎◌, ℕ, ◌+◌, List, [], ◌++◌, length, map, Option, Some, None, IfSome}
use Rattle.std.specs.Io.KnownBytes.{Appends}
use Rattle.outside_io.specs.Outside.{Rose}
use Rattle.script_text.specs.declared.line.Header.{Header}
use Rattle.script_text.specs.declared.line.ScriptCause.{ScriptCause}
use Rattle.script_text.specs.Load.{load_steps}
use Rattle.node_meaning.specs.Cluster.{ModelCluster}
use Rattle.galera_run.specs.declared.words.Asked.{Asked}
use Rattle.galera_run.specs.Lines.{lines_of}
use Rattle.galera_run.specs.Reading.{nodes_end, run_of, finished}
use Rattle.galera_run.specs.Schedules.{LineStep, schedule_from, run_over, answers_text, cluster_of, text_of_steps}
use Rattle.galera_run.specs.Writing.{AppendsFront}
use Rattle.galera_run.specs.Program.{refusal_text, read_text}
use Rattle.galera_run.specs.Load.{load_start, load_summary}
use Rattle.galera_run.specs.Headline.{Replicates}

-- the run over the steps of lines, from the cluster that the header begins
abbrev pub ReplicatesOver : Header → List LineStep → Type 0
ReplicatesOver header steps =
    Replicates (cluster_of header) (map (λ (s : LineStep). s.step) steps)

-- each node's place and rows
abbrev pub all_ends : ModelCluster → List ℕ
all_ends model = nodes_end model (length model.nodes)

-- ---- a run to the end
-- the steps of an input
abbrev pub steps_of : List ℕ → List LineStep
steps_of input = (schedule_from 1 (lines_of input)).steps

-- what was written is what the steps of the input were answered, and then each node's place and
-- rows; and the run over them is right
pub record TellsRight (input : List ℕ) (old new : Option (List ℕ)) : Type 0 where
  pub header : Header
  pub is_header : (schedule_from 1 (lines_of input)).header ≡ Some header
  pub written : Appends old new
      (answers_text (steps_of input) (run_over (steps_of input) (cluster_of header)).0
      ++ all_ends (run_over (steps_of input) (cluster_of header)).1)
  pub replicates : ReplicatesOver header (steps_of input)

-- ---- a run that ended early
-- each node's place and rows behind a schedule; nothing where no header came
abbrev pub ends_text : Option Header → List LineStep → List ℕ
ends_text None steps = []
ends_text (Some header) steps = all_ends (run_over steps (cluster_of header)).1

-- the run over the steps of lines is right; where no header came there is none
abbrev pub LinesReplicate : List (List ℕ) → Type 0
LinesReplicate lines =
    IfSome (schedule_from 1 lines).header
    (λ header. ReplicatesOver header (schedule_from 1 lines).steps)

-- what is written behind the answers of the first lines: nothing, each node's place and rows, that
-- the next line is refused, or that the source failed
pub data IsLast (lines : List (List ℕ)) (more : List ℕ) : Type 0 where
  Nothing : more ≡ [] → IsLast lines more
  Ends : more ≡ ends_text (schedule_from 1 lines).header (schedule_from 1 lines).steps
      → IsLast lines more
  Refused : (c : ScriptCause) → more ≡ refusal_text (length lines + 1) c → IsLast lines more
  Unread : more ≡ read_text → IsLast lines more

-- what was written begins what the steps of the first lines were answered, with what is written
-- behind that; and the run over them is right
pub record BeginsRight (input : List ℕ) (old new : Option (List ℕ)) : Type 0 where
  pub lines : List (List ℕ)
  pub rest : List (List ℕ)
  pub first : lines_of input ≡ lines ++ rest
  pub more : List ℕ
  pub last : IsLast lines more
  pub written : AppendsFront old new (text_of_steps (schedule_from 1 lines) ++ more)
  pub replicates : LinesReplicate lines

-- what a run over the bytes left writes: the whole of a right run where it came to its end, and a
-- front of one in any case
abbrev pub WritesRight : Type 0 → Option (List ℕ) → Option (List ℕ) → Option (List ℕ) → Type 0
WritesRight ended left old new =
    IfSome left (λ input. (ended → TellsRight input old new) × BeginsRight input old new)

-- the run whose summary `load` writes is right
abbrev pub LoadReplicates : ℕ → ℕ → Type 0
LoadReplicates seed count = Replicates load_start (load_steps seed count)

abbrev pub AskedReplicates : Option Asked → Type 0
AskedReplicates asked = IfSome asked (λ a. LoadReplicates a.seed a.count)

-- ---- completeness
-- all of its lines are within the grammar and the limits
pub record IsWithinGrammar (input : List ℕ) : Type 0 where
  pub steps : ℕ
  pub cluster : ModelCluster
  pub ends : (run_of input).ending ≡ finished steps cluster

-- the whole text was written, or memory was wanting
abbrev pub EndsWhole : ℕ → Option (List ℕ) → Option (List ℕ) → List ℕ → Type 0
EndsWhole status old new text = ((status ≡ 0) × Appends old new text) ⊎ (status ≡ 6)

-- so ends an input within the grammar and the limits where neither count of faults rose
abbrev pub StepsEndWhole : ℕ → Option (List ℕ) → Option (List ℕ) → Option (List ℕ) → ℕ → ℕ → ℕ → ℕ
    → Type 0
StepsEndWhole status left old new source_old source_new sink_old sink_new =
    (¬ Rose source_old source_new) → (¬ Rose sink_old sink_new)
    → IfSome left (λ input. IsWithinGrammar input → EndsWhole status old new (run_of input).text)

-- and the words of a workload, which reads nothing
abbrev pub LoadEndsWhole : ℕ → Option Asked → Option (List ℕ) → Option (List ℕ) → ℕ → ℕ → Type 0
LoadEndsWhole status asked old new sink_old sink_new =
    (¬ Rose sink_old sink_new)
    → IfSome asked (λ a. EndsWhole status old new (load_summary a.seed a.count))
