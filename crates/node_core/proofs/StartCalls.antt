-- Starting a unit: which step it is by what was read, and the task that it gives.
use Rattle.std.proofs.Common.{◌≡◌, ℕ, ◌≤◌, ◌<◌, true, false, List, [], length, Option, Some, None, Result, Ok, Err, refl, sym, ap, ◌∙◌, arith}
use Rattle.std.specs.Prelude.{IfOk, IfErr, is_ok, is_some, unwrap_or}
use Rattle.finite_map.specs.FiniteMap.{get}
use Rattle.wsrep_base.specs.Trx.{greatest}
use Rattle.key_sets.specs.Keys.{Keys}
use Rattle.row_model.specs.declared.ops.Op.{Op}
use Rattle.order_event.specs.declared.event.Event.{Event}
use Rattle.order_event.specs.declared.step.Answer.{Answer}
use Rattle.order_event.specs.declared.step.Answer.TheVariants as answer
use Rattle.cert_meaning.specs.declared.items.CommitItem.{CommitItem}
use Rattle.certification.specs.Certifies.{Certifies, commit_with, changes_with, in_the_way}
use Rattle.certification.proofs.Ahead.{commit-is, changes-is}
use Rattle.apply_unit.specs.Results.{Image}
use Rattle.apply_unit.specs.Task.{ModelTask, task}
use Rattle.node_meaning.specs.Node.{ModelNode, ahead, passed_at, rows_at}
use Rattle.node_meaning.specs.Steps.{is_local, touching_before, start_after, start_unit, start_step}
use Rattle.node_meaning.specs.Units.{ops_at, images_of, unit_task}
use Rattle.node_meaning.proofs.PassedLaws.{passed-committed, from_passed, none_touching}
use Rattle.node_meaning.proofs.UnitLaws.{task-clear}
use Rattle.node_core.specs.declared.node.NodeParts.{NodeParts}
use Rattle.node_core.specs.Stands.{Stands, DoneOver, plain_of}
use Rattle.node_core.specs.declared.answers.Started.{Started}
use Rattle.node_core.specs.declared.answers.Started.TheVariants as refused
use Rattle.node_core.specs.Answers.{started_answer, GivesTask}
use Rattle.node_core.specs.Memory.{is_start, starts}
use Rattle.node_core.proofs.ClientCalls.{is_free}
use Rattle.node_core.specs.Starting.{CanStart, IsStartable, IsRefused, unit_started}

-- ---- the task
pub ops_given : (order : List Event) (node : NodeParts) (number : ℕ) (keys : Keys) (ops : List Op)
    → CanStart order node number keys
    → ops ≡ unwrap_or (changes_with number node.certification) [] → ops ≡ ops_at order number
ops_given order node number keys ops can changes =
    changes ∙ ap (λ (o : Option (List Op)). unwrap_or o [])
    (changes-is order node.at.committed node.at.certified node.certification
    can.stands.certification number can.above can.within (ap is_some can.is_commit))

pub task_given : (order : List Event) (node : NodeParts) (number : ℕ) (keys : Keys) (ops : List Op) (images : List Image) (made : ModelTask)
    → CanStart order node number keys → ops ≡ unwrap_or (changes_with number node.certification) [] → images ≡ images_of ops node.rows.committed
    → made ≡ task number ops images → made ≡ unit_task order number
task_given order node number keys ops images made can changes rows is =
    let facts = can.stands.facts.in_order in
    is ∙ ap (task number ops) rows
    ∙ ap (λ r. task number ops (images_of ops r)) can.stands.tables.rows.committed
    ∙ ap (λ (os : List Op). task number os (images_of os (rows_at order node.at.committed)))
    (ops_given order node number keys ops can changes)
    ∙ sym (task-clear order node.at.committed number
    (record { number = can.label; trx = can.trx; keys = keys })
    (omega (arith, can.within, facts.certified_fits, facts.taken_fits)) can.above can.is_commit
    can.clear)

-- whether the unit starts, by the answer
starts_not : (order : List Event) (node : NodeParts) (number : ℕ) (r : Started) → IsRefused order node number r → false ≡ starts order (plain_of node) number
starts_not order node number r stays = sym stays.idle ∙ ap (λ (p : Answer × ModelNode). is_start p.0) stays.done.same

-- memory may be wanted then
pub starts_now : (order : List Event) (node : NodeParts) (number : ℕ) (keys : Keys)
    → IsStartable order node number keys → starts order (plain_of node) number ≡ true
starts_now order node number keys may = ap (λ (p : Answer × ModelNode). is_start p.0) may.is

pub starts_by : {A : Type 0} (keys : A → Keys) (node : NodeParts) (number : ℕ) (r : Result A Started)
    → IfOk r (λ k. (order : List Event) → Stands order node → IsStartable order node number (keys k))
    → IfErr r (λ e. (order : List Event) → Stands order node → IsRefused order node number e)
    → (order : List Event) → Stands order node → is_ok r ≡ starts order (plain_of node) number
starts_by keys node number (Ok k) ok err order stands = sym (starts_now order node number (keys k) (ok order stands))
starts_by keys node number (Err e) ok err order stands = starts_not order node number e (err order stands)

-- what the start of the unit does is what the model does
pub starts_done : (order : List Event) (node : NodeParts) (number : ℕ) (keys : Keys) (after : NodeParts) (a : Answer) → IsStartable order node number keys
    → DoneOver order (unit_started number keys) node after a → DoneOver order (λ n. start_step order n number) node after a
starts_done order node number keys after a may done = record { same = done.same ∙ sym may.is; stands = done.stands }

-- what certification tells of the unit before the passed commit with a number
abbrev SeesWay : NodeParts → ℕ → Option ℕ → Type 0
SeesWay node number way =
    (order : List Event) (committed certified : ℕ) (commit : CommitItem) → Certifies order committed certified node.certification
    → committed < number → passed_at order committed certified number ≡ Some commit
    → way ≡ in_the_way order committed certified number commit.keys

module _ (order : List Event) (node : NodeParts) (number : ℕ) (stands : Stands order node) where
  abbrev n : ModelNode
  n = plain_of node

  -- the node stands as it did
  stays : (r : Started) → start_step order n number ≡ (started_answer number r, n)
      → is_start (started_answer number r) ≡ false → GivesTask order number r
      → IsRefused order node number r
  stays r same idle task =
      record { done = record { same = sym same; stands = stands }; idle = idle; task = task }

  pub start_committed : number ≤ node.at.committed → IsRefused order node number refused.NoUnit
  unfolding start_step
  start_committed done = stays refused.NoUnit
      (ap (start_unit order n number)
      (passed-committed order node.at.committed node.at.certified number done)) refl tt

  pub start_again : is_some (get node.units.units number) ≡ true
      → IsRefused order node number refused.NoUnit
  unfolding start_step
  start_again there = stays refused.NoUnit
      (by (passed_at order node.at.committed node.at.certified number)) refl tt
    where
      by : (o : Option CommitItem) → start_unit order n number o ≡ (answer.NoUnit number, n)
      by None = refl
      by (Some commit) = rw there refl

  module _ (above : node.at.committed < number) where
    step_is : (o : Option CommitItem) → commit_with number node.certification ≡ o
        → start_step order n number ≡ start_unit order n number o
    unfolding start_step
    step_is o is = ap (start_unit order n number)
        (sym (commit-is order node.at.committed node.at.certified node.certification
        stands.certification number above) ∙ is)

    pub start_nothing : commit_with number node.certification ≡ None
        → IsRefused order node number refused.NoUnit
    start_nothing none = stays refused.NoUnit (step_is None none) refl tt

    module _ (commit : CommitItem) (found : commit_with number node.certification ≡ Some commit)
        (fresh : is_some (get node.units.units number) ≡ false) where
      pub start_local : is_local node.live number ≡ true
          → IsRefused order node number refused.Local
      start_local here =
          stays refused.Local (rw (fresh, here) at (step_is (Some commit) found)) refl tt

      module _ (remote : is_local node.live number ≡ false) (way : Option ℕ)
          (seen : SeesWay node number way) where
        read_is : passed_at order node.at.committed node.at.certified number ≡ Some commit
        read_is = sym (commit-is order node.at.committed node.at.certified node.certification
            stands.certification number above) ∙ found

        way_is : greatest (touching_before (ahead order node.at.committed node.at.certified) number
            commit.keys) ≡ way
        way_is = sym (seen order node.at.committed node.at.certified commit stands.certification
            above read_is)

        after_is : start_step order n number ≡ start_after n number commit.keys way
        after_is = rw (fresh, remote) at (step_is (Some commit) found)
            ∙ ap (start_after n number commit.keys) way_is

        pub start_later : (earlier : ℕ) → way ≡ Some earlier
            → IsRefused order node number (refused.NotYet earlier)
        start_later earlier is = stays (refused.NotYet earlier)
            (after_is ∙ ap (start_after n number commit.keys) is) refl tt

        certified_inside : node.at.certified ≤ length order
        certified_inside = omega (arith, stands.facts.in_order.certified_fits, stands.facts.in_order.taken_fits)

        can_start : way ≡ None → CanStart order node number commit.keys
        can_start none =
            let passed = from_passed order node.at.committed node.at.certified number commit
            certified_inside read_is in
            record {
              stands = stands;
              above = above;
              within = passed.within;
              label = commit.number;
              trx = commit.trx;
              is_commit = passed.is_commit;
              fresh = is_free (get node.units.units number) fresh;
              remote = remote;
              clear = none_touching order node.at.committed node.at.certified number commit.keys certified_inside passed.within (way_is ∙ none);
            }

        pub startable : way ≡ None → IsStartable order node number commit.keys
        startable none = record { can = can_start none; is = after_is ∙ ap (start_after n number commit.keys) none }
