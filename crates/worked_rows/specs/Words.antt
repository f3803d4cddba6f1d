-- The words of worked schedules, and what it says that a run computes one.
use Rattle.std.specs.Prelude.{◌≡◌, List, [], ◌∷◌, ◌++◌, ℕ, Option, Some, None, codes, map, replicate}
use Rattle.cert_meaning.specs.Fold.{computing_folds}
use Rattle.row_model.specs.declared.calls.Call.{Call}
use Rattle.row_model.specs.declared.row.RowId.{RowId}
use Rattle.row_model.specs.Names.{is_name, padded}
use Rattle.order_event.specs.declared.step.Step.{Step}
use Rattle.order_event.specs.declared.step.Act.{Act}
use Rattle.order_event.specs.declared.step.Act.TheVariants as act
use Rattle.order_event.specs.declared.step.Answer.{Answer}
use Rattle.write_set.specs.Spelling.{spelling}
use Rattle.wsrep_base.specs.Reading.{bytes_at, number_at}
use Rattle.write_set.specs.Reading.{many_at, name_at, key_row_at, key_at, some_keys_at, keys_at, place_at, count_at, values_at, columns_at, some_columns_at, op_at, ops_at, header_at, finished, read}
use Rattle.node_meaning.specs.Client.{client}
use Rattle.node_meaning.specs.Leaving.{sessions_left, left_node}
use Rattle.node_meaning.specs.Status.{index_count, status_step}
use Rattle.node_meaning.specs.Steps.{take_step, certify_step, start_step, finish_step, advance_step, report_step, drained}
use Rattle.node_meaning.specs.Cluster.{start_cluster, cluster_step, run}

-- what a worked schedule unfolds
unfoldable pub computing_runs : Unit {0}
unfolding computing_folds is_name spelling bytes_at number_at many_at name_at key_row_at key_at
    some_keys_at keys_at place_at count_at values_at columns_at some_columns_at op_at ops_at
    header_at finished read client take_step certify_step start_step finish_step advance_step
    report_step status_step index_count sessions_left left_node drained start_cluster cluster_step
    run
computing_runs = tt

abbrev pub state_id : List ℕ
state_id = replicate 15 0 ++ 161 ∷ []

abbrev pub at : ℕ → Act → Step
at node a = record { node = node; act = a }

-- a session of a node calls
abbrev pub calls : ℕ → ℕ → Call → Step
calls node session call = at node (act.Client session call)

-- a change of the first column alone, and of the third
abbrev pub first : ℕ → List (Option ℕ)
first value = Some value ∷ replicate 7 None

abbrev pub third : ℕ → List (Option ℕ)
third value = None ∷ None ∷ Some value ∷ replicate 5 None

-- a run from the start, with rings of so many bytes and so many nodes, gives each step its answer
abbrev pub ComputesIn : ℕ → ℕ → List (Step × Answer) → Type 0
ComputesIn gcache nodes rows =
    (run (map (λ r. r.0) rows) (start_cluster nodes gcache state_id)).0 ≡ map (λ r. r.1) rows

abbrev pub Computes : ℕ → List (Step × Answer) → Type 0
Computes nodes rows = ComputesIn 65536 nodes rows

abbrev pub id_at : List ℕ → List ℕ → RowId
id_at table row = record { table = table; row = row }

abbrev pub n_a : List ℕ
n_a = padded (codes "a")

abbrev pub n_acct : List ℕ
n_acct = padded (codes "acct")

abbrev pub n_alice : List ℕ
n_alice = padded (codes "alice")

abbrev pub n_b : List ℕ
n_b = padded (codes "b")

abbrev pub n_bob : List ℕ
n_bob = padded (codes "bob")

abbrev pub n_c : List ℕ
n_c = padded (codes "c")

abbrev pub n_log : List ℕ
n_log = padded (codes "log")

abbrev pub n_max : List ℕ
n_max = padded (codes "max")

abbrev pub n_t1 : List ℕ
n_t1 = padded (codes "t1")

abbrev pub n_x : List ℕ
n_x = padded (codes "x")
