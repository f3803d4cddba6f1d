-- Which units of a node are started after each of its steps.
use Rattle.std.proofs.Common.{◌≡◌, ℕ, Bool, true, false, cond, List, Option, None, Some, refl, ap, ◌∙◌}
use Rattle.std.specs.Prelude.{is_some}
use Rattle.std.specs.Ordering.{nat_cmp, eq_by_cmp}
use Rattle.std.specs.Cmp.{nat_cmp_total}
use Rattle.finite_map.proofs.Edits.{numbers, tied}
use Rattle.finite_map.specs.FiniteMap.{get, insert, get-insert}
use Rattle.wsrep_base.specs.Trx.{greatest}
use Rattle.key_sets.specs.Keys.{Keys}
use Rattle.row_model.specs.declared.calls.Call.{Call}
use Rattle.order_event.specs.declared.event.Event.{Event}
use Rattle.order_event.specs.declared.step.Answer.{Answer}
use Rattle.order_event.specs.declared.step.Answer.TheVariants as answer
use Rattle.cert_meaning.specs.declared.items.CommitItem.{CommitItem}
use Rattle.row_locks.specs.Locks.{touching_sessions}
use Rattle.node_meaning.specs.declared.progress.Stage.{Stage}
use Rattle.node_meaning.specs.declared.progress.Stage.TheVariants.{Started, Finished}
use Rattle.node_meaning.specs.Node.{ModelNode, ApplyUnit, passed_at, ahead, locks_of}
use Rattle.node_meaning.specs.Steps.{is_started, is_started_stage, is_local, touching_before, start_after, start_unit, start_step, finish_stage, finish_unit, finish_step, is_finished, take_step, certify_step, advance_step, report_step}
use Rattle.node_meaning.specs.Status.{status_step}
use Rattle.node_meaning.specs.Leaving.{left_node}
use Rattle.node_meaning.specs.Client.{client}
use Rattle.node_meaning.specs.Facts.{Facts}
use Rattle.node_meaning.proofs.StartFacts.{kills_units}
use Rattle.node_laws.proofs.Works.{units_kept, advance_unseen}
use Rattle.node_laws.proofs.ClientMoves.{CanCall, client_moves}
use Rattle.node_laws.proofs.TakeMoves.{take_moves}
use Rattle.node_laws.proofs.CertifyMoves.{certify_moves}
use Rattle.node_laws.proofs.ReportMoves.{report_moves, status_moves}
use Rattle.node_laws.proofs.Leaving.{left_is}

-- ---- calls, taking, certifying, reports and leaving leave the units
module _ (order : List Event) (n : ModelNode) where
  pub client_units : (session : ℕ) (call : Call) → (client order n session call).1.units ≡ n.units
  client_units session call = units_kept order (CanCall n call) n 1 _ (client_moves order false n session call)

  pub take_units : (take_step order n).1.units ≡ n.units
  take_units = units_kept order (Unit {0}) n 0 _ (take_moves order _ false n)

  pub certify_units : (certify_step order n).1.units ≡ n.units
  certify_units = units_kept order (Unit {0}) n 0 _ (certify_moves order _ false n)

  pub report_units : (report_step n).1.units ≡ n.units
  report_units = units_kept order (Unit {0}) n 1 _ (report_moves order _ false n)

  pub status_units : (status_step order n).1.units ≡ n.units
  status_units = units_kept order (Unit {0}) n 1 _ (status_moves order _ false n)

pub left_units : (n : ModelNode) → (left_node n).units ≡ n.units
left_units n = ap (λ (m : ModelNode). m.units) (left_is n)

-- ---- starting: the one new unit is started
abbrev pub Starts : ℕ → Answer → ModelNode → ModelNode → Type 0
Starts number (answer.Started other victims) n m = (keys : Keys) × (m.units ≡ insert n.units number (record { stage = Started; keys = keys }))
Starts number other n m = m.units ≡ n.units

either_starts : (b : Bool) (number : ℕ) (n : ModelNode) (one other : Answer × ModelNode) → Starts number one.0 n one.1 → Starts number other.0 n other.1
    → Starts number (cond b one other).0 n (cond b one other).1
either_starts true number n one other here there = here
either_starts false number n one other here there = there

after_starts : (n : ModelNode) (number : ℕ) (keys : Keys) (o : Option ℕ)
    → Starts number (start_after n number keys o).0 n (start_after n number keys o).1
after_starts n number keys (Some earlier) = refl
after_starts n number keys None = (
  keys,
  kills_units number (touching_sessions (locks_of n.live n.units) keys)
      (record n { units = insert n.units number (record { stage = Started; keys = keys }) }),
)

unit_starts : (order : List Event) (n : ModelNode) (number : ℕ) (o : Option CommitItem)
    → Starts number (start_unit order n number o).0 n (start_unit order n number o).1
unit_starts order n number None = refl
unit_starts order n number (Some commit) =
    either_starts (is_some (get n.units number)) number n (answer.NoUnit number, n) _ refl
    (either_starts (is_local n.live number) number n (answer.Local number, n) _ refl
    (after_starts n number commit.keys (greatest (touching_before (ahead order n.at.committed n.at.certified) number commit.keys))))

pub start_starts : (order : List Event) (n : ModelNode) (number : ℕ) → Starts number (start_step order n number).0 n (start_step order n number).1
unfolding start_step
start_starts order n number = unit_starts order n number (passed_at order n.at.committed n.at.certified number)

-- ---- finishing: that unit is no longer started
stage_done : (n : ModelNode) (number : ℕ) (keys : Keys) (stage : Stage) (k : ℕ) → get n.units number ≡ Some (record { stage = stage; keys = keys })
    → is_started (get (finish_stage n number keys stage).1.units k) ≡ cond (eq_by_cmp nat_cmp k number) false (is_started (get n.units k))
stage_done n number keys Started k there =
    ap is_started (get-insert nat_cmp_total n.units number (record { stage = Finished; keys = keys }) k)
    ∙ split (eq_by_cmp nat_cmp k number)
  where
    split : (b : Bool) → is_started (cond b (Some (record { stage = Finished; keys = keys })) (get n.units k)) ≡ cond b false (is_started (get n.units k))
    split true = refl
    split false = refl
stage_done n number keys Finished k there = by_key (eq_by_cmp nat_cmp k number) refl
  where
    by_key : (b : Bool) → eq_by_cmp nat_cmp k number ≡ b → is_started (get n.units k) ≡ cond b false (is_started (get n.units k))
    by_key true is = ap is_started (ap (get n.units) (tied numbers k number is) ∙ there)
    by_key false is = refl

unit_done : (n : ModelNode) (number : ℕ) (o : Option ApplyUnit) (k : ℕ) → get n.units number ≡ o
    → is_started (get (finish_unit n number o).1.units k) ≡ cond (eq_by_cmp nat_cmp k number) false (is_started (get n.units k))
unit_done n number None k there = by_key (eq_by_cmp nat_cmp k number) refl
  where
    by_key : (b : Bool) → eq_by_cmp nat_cmp k number ≡ b → is_started (get n.units k) ≡ cond b false (is_started (get n.units k))
    by_key true is = ap is_started (ap (get n.units) (tied numbers k number is) ∙ there)
    by_key false is = refl
unit_done n number (Some unit) k there = stage_done n number unit.keys unit.stage k there

pub finish_done : (n : ModelNode) (number k : ℕ)
    → is_started (get (finish_step n number).1.units k) ≡ cond (eq_by_cmp nat_cmp k number) false (is_started (get n.units k))
unfolding finish_step
finish_done n number k = unit_done n number (get n.units number) k refl

-- a number that is not started leaves the node as it is
stage_idle : (n : ModelNode) (number : ℕ) (keys : Keys) (stage : Stage) → is_started_stage stage ≡ false
    → (answer.NoUnit number, n) ≡ finish_stage n number keys stage
stage_idle n number keys Started none = absurd cc
stage_idle n number keys Finished none = refl

unit_idle : (n : ModelNode) (number : ℕ) (o : Option ApplyUnit) → is_started o ≡ false → (answer.NoUnit number, n) ≡ finish_unit n number o
unit_idle n number None none = refl
unit_idle n number (Some unit) none = stage_idle n number unit.keys unit.stage none

pub finish_idle : (n : ModelNode) (number : ℕ) → is_started (get n.units number) ≡ false → (answer.NoUnit number, n) ≡ finish_step n number
unfolding finish_step
finish_idle n number none = unit_idle n number (get n.units number) none

-- ---- committing
finished_blind : (u : ApplyUnit) → is_finished (Some u) ≡ true → is_started (Some u) ≡ false
finished_blind u is = by_stage u.stage is
  where
    by_stage : (s : Stage) → is_finished (Some (record { stage = s; keys = u.keys })) ≡ true → is_started_stage s ≡ false
    by_stage Started is = absurd cc
    by_stage Finished is = refl

pub advance_started : (order : List Event) (n : ModelNode) → Facts order n → (k : ℕ) → is_started (get (advance_step order n).1.units k) ≡ is_started (get n.units k)
advance_started order n facts k = advance_unseen is_started finished_blind order n facts k
