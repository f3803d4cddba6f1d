-- Every run of a cluster is right.
use Rattle.std.proofs.Common.{◌≡◌, ℕ, zero, suc, ◌+◌, ◌-◌, ◌≤◌, ◌<◌, ◌^◌, List, [], ◌∷◌, length, take, Some, ap, sym, subst, ◌∙◌, arith}
use Rattle.std.specs.Prelude.{slice_get}
use Rattle.std.specs.List.{AllByRecursion}
use Rattle.std.proofs.lemmas.List.{length-map, length-append}
use Rattle.std.proofs.Math.Seq.{take-length}
use Rattle.finite_map.specs.FiniteMap.{empty, get}
use Rattle.row_model.specs.Rows.{Rows}
use Rattle.row_model.specs.declared.calls.Call.TheVariants as call
use Rattle.order_event.specs.declared.event.Event.{Event}
use Rattle.order_event.specs.declared.step.Step.{Step}
use Rattle.group_order.specs.Order.{up_to}
use Rattle.undo_rows.specs.RowTable.{row_items}
use Rattle.cert_meaning.specs.State.{FoldState}
use Rattle.cert_meaning.proofs.FoldLaws.{state_at-append}
use Rattle.node_meaning.specs.Node.{ModelNode, start_node, rows_at, seen_rows}
use Rattle.node_meaning.specs.Client.{client}
use Rattle.node_meaning.specs.Cluster.{ModelCluster, start_cluster, run}
use Rattle.node_laws.specs.Fits.{ActFits}
use Rattle.node_laws.proofs.ClusterLaws.{SoundCluster, length-up_to}
use Rattle.course_laws.specs.Laws.{joins}
use Rattle.course_laws.proofs.Runs.{runs_kept}
use Rattle.answer_laws.proofs.RunAnswers.{runs_answer_right}
use Rattle.cluster_core.specs.State.{at_of, end_at, end_rows}
use Rattle.galera_run.specs.Headline.{committed_rows, HasGrown, Shows, ShowsCommitted, Replicates, RunsReplicate}
use Rattle.galera_run.proofs.CommittedRows.{rows_of_commits}
use Rattle.galera_run.proofs.Moments.{moment_grown, read_shows, run_of_fold, run_told_is}

abbrev Fit : Step → Type 0
Fit step = ActFits step.act

-- ---- the first steps
first_fit : (k : ℕ) (steps : List Step) → AllByRecursion Fit steps
    → AllByRecursion Fit (take k steps)
first_fit zero steps fits = tt
first_fit (suc k) [] fits = tt
first_fit (suc k) (step ∷ steps) fits = (fits.0, first_fit k steps fits.1)

first_few : (k : ℕ) (steps : List Step) → length (take k steps) ≤ length steps
first_few zero steps = omega arith
first_few (suc k) [] = omega arith
first_few (suc k) (step ∷ steps) = let few = first_few k steps in omega (arith, few)

first_joins : (k : ℕ) (steps : List Step) → joins (take k steps) ≤ joins steps
first_joins zero steps = omega arith
first_joins (suc k) [] = omega arith
first_joins (suc k) (step ∷ steps) = let few = first_joins k steps in omega (arith, few)

-- ---- a node at a moment
rows_later : (order now : List Event) (n : ℕ) → HasGrown now order → n ≤ length now
    → rows_at now n ≡ rows_at order n
rows_later order now n grown within =
    ap (λ (s : FoldState). s.rows) (sym (state_at-append now grown.0 n within))
    ∙ ap (λ o. rows_at o n) (sym grown.1)

module _ (order now : List Event) (n : ModelNode) (grown : HasGrown now order)
    (within : n.at.committed ≤ length now) where
  longer : length now ≤ length order
  longer =
      let long : length order ≡ length now + length grown.0 =
      ap length grown.1 ∙ length-append now grown.0 in omega (arith, long)

  rows_now : rows_at now n.at.committed ≡ committed_rows order n.at.committed
  rows_now =
      rows_later order now n.at.committed grown within
      ∙ rows_of_commits order n.at.committed (omega (arith, within, longer))

  pub shows_committed : ShowsCommitted order now n
  shows_committed = record {
    grown = grown;
    ordered = within;
    rows = rows_now;
    reads = λ session id none.
        subst (λ (rows : Rows). Shows (seen_rows rows (get n.live session)) id
        (client now n session (call.Read id)).0) rows_now
        (read_shows now n session id none);
  }

-- ---- a run
module _ (nodes gcache : ℕ) (id : List ℕ) (steps : List Step) (small : nodes + joins steps < 2 ^ 32)
    (few : length steps < 2 ^ 63) (fits : AllByRecursion Fit steps) where
  abbrev start : ModelCluster
  start = start_cluster nodes gcache id

  sound : (k : ℕ) → SoundCluster (1 + length (take k steps)) (run (take k steps) start).1
  sound k =
      let fewer = first_few k steps in
      let fewer_joins = first_joins k steps in
      (runs_kept nodes gcache id (take k steps) (omega (arith, small, fewer_joins))
      (omega (arith, few, fewer)) (first_fit k steps fits)).sound

  moment : (k i : ℕ) (n : ModelNode) → slice_get (run (take k steps) start).1.nodes i ≡ Some n
      → ShowsCommitted (run steps start).1.order (run (take k steps) start).1.order n
  moment k i n there =
      let in_order = ((sound k).nodes i n there).facts.in_order in
      shows_committed (run steps start).1.order (run (take k steps) start).1.order n
      (moment_grown k steps start)
      (omega (arith, in_order.committed_fits, in_order.certified_fits, in_order.taken_fits))

  last_moment : (i : ℕ) (n : ModelNode) → slice_get (run steps start).1.nodes i ≡ Some n
      → ShowsCommitted (run steps start).1.order (run steps start).1.order n
  last_moment i n there =
      let all = take-length steps in
      subst (λ z. ShowsCommitted (run steps start).1.order (run z start).1.order n) all
      (moment (length steps) i n
      (subst (λ z. slice_get (run z start).1.nodes i ≡ Some n) (sym all) there))

  end_is : (i : ℕ) (n : ModelNode) → slice_get (run steps start).1.nodes i ≡ Some n
      → end_at (run steps start).1 (suc i) ≡ n.at.committed
  end_is i n there =
      let index : suc i - 1 ≡ i = omega arith in
      ap (λ k. at_of (slice_get (run steps start).1.nodes k)) index ∙ ap at_of there

  ended : (i : ℕ) (n : ModelNode) → slice_get (run steps start).1.nodes i ≡ Some n
      → (end_at (run steps start).1 (suc i) ≡ n.at.committed)
      × (end_rows (run steps start).1 (suc i)
      ≡ row_items (committed_rows (run steps start).1.order n.at.committed))
  ended i n there = (
    end_is i n there,
    ap (λ p. row_items (rows_at (run steps start).1.order p)) (end_is i n there)
        ∙ ap row_items (last_moment i n there).rows,
  )

  count : length start.nodes ≡ nodes
  unfolding start_cluster
  count = length-map (up_to nodes) (start_node gcache id) ∙ length-up_to nodes

  replicates : Replicates start steps
  replicates = record {
    right = λ i inside.
        runs_answer_right nodes gcache id steps small few fits i (omega (arith, inside, count));
    told = λ i. run_told_is steps start i empty;
    verdicts = run_of_fold steps start;
    moments = moment;
    ends = ended;
  }

pub runs_replicate : RunsReplicate
runs_replicate nodes gcache id steps small few fits = replicates nodes gcache id steps small few fits
