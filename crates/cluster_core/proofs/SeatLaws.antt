-- A seat after a step of its node, and under an order that grows.
use Rattle.std.proofs.Common.{◌≡◌, ℕ, ◌<◌, Bool, true, false, cond, List, [], ◌++◌, Result, Ok, Err, None, Some, refl, sym, ap, subst, ◌∙◌, arith}
use Rattle.std.specs.Prelude.{◌==◌, IsTrue, OnErr}
use Rattle.std.proofs.lemmas.Bool.Decides.{nat_tests}
use Rattle.std.specs.Ordering.{nat_cmp, eq_by_cmp}
use Rattle.std.specs.Cmp.{nat_cmp_total}
use Rattle.finite_map.proofs.Edits.{numbers, tied}
use Rattle.finite_map.specs.FiniteMap.{FiniteMap, get, insert, get-insert, get-empty}
use Rattle.row_model.specs.declared.calls.Call.{Call}
use Rattle.row_model.specs.declared.calls.Reply.{Reply}
use Rattle.key_sets.specs.Keys.{Keys}
use Rattle.apply_unit.specs.Task.{ModelTask}
use Rattle.order_event.specs.declared.event.Event.{Event}
use Rattle.order_event.specs.declared.step.Act.TheVariants as act
use Rattle.order_event.specs.declared.step.Answer.{Answer}
use Rattle.order_event.specs.declared.step.Answer.TheVariants as answer
use Rattle.node_meaning.specs.declared.progress.Stage.TheVariants.{Started as StartedStage}
use Rattle.node_meaning.specs.Node.{ModelNode, ApplyUnit, start_node}
use Rattle.node_meaning.specs.Status.{status_step}
use Rattle.node_meaning.specs.Client.{client}
use Rattle.node_meaning.specs.Units.{unit_task}
use Rattle.node_meaning.specs.Steps.{start_step, finish_step, take_step, certify_step, advance_step, report_step, node_step}
use Rattle.node_core.specs.declared.node.NodeParts.{NodeParts}
use Rattle.node_core.specs.declared.answers.Started.{Started}
use Rattle.node_core.specs.declared.answers.Started.TheVariants as started
use Rattle.node_core.specs.Answers.{is_started, started_answer, GivesTask}
use Rattle.node_core.specs.Memory.{StartWants, is_start}
use Rattle.node_core.specs.Stands.{Stands, Unchanged, DoneOver, plain_of}
use Rattle.node_core.proofs.NodeLaws.{unchanged_stands, stands_grow, started_task, advance_started}
use Rattle.cluster_core.specs.Seated.{Seat, IsSeated, IsSomewhere, SeatDone, SeatUnchanged, KeepsTask, kept_at, work_of}
use Rattle.node_laws.proofs.StartedUnits.{client_units, take_units, certify_units, report_units, Starts, start_starts, finish_done, finish_idle}

-- ---- numbers
tie : (a b : ℕ) → (a == b) ≡ eq_by_cmp nat_cmp b a
tie a b = grind (arith, nat_tests)

pub on_err : {A E P : Type 0} (r : Result A E) → P → OnErr r P
on_err (Ok a) p = tt
on_err (Err e) p = p

-- ---- at the start
pub new_seated : (order : List Event) (gcache : ℕ) (id : List ℕ) (member : ℕ) (seat : Seat) → plain_of seat.node ≡ start_node gcache id member
    → seat.done ≡ [] → Stands order seat.node → IsSeated order seat
new_seated order gcache id member seat start none st = record {
  stands = st;
  work = λ k. ap (λ es. kept_at es k) none
      ∙ ap (λ o. work_of order k (is_started o)) (sym (get-empty nat_cmp k))
      ∙ ap (λ (n : ModelNode). work_of order k (is_started (get n.units k))) (sym start);
}

-- ---- a node that is unchanged
pub unchanged : (old new : Seat) → Unchanged old.node new.node
    → ((k : ℕ) → kept_at new.done k ≡ kept_at old.done k) → SeatUnchanged old new
unchanged old new u same = record {
  plain = u.plain;
  seated = λ order s. record {
    stands = unchanged_stands order old.node new.node u s.stands;
    work = λ k. same k ∙ s.work k ∙ ap (λ (n : ModelNode). work_of order k (is_started (get n.units k))) (sym u.plain);
  };
}

-- ---- steps that leave each unit started that was
pub seat_does : (order : List Event) (f : ModelNode → Answer × ModelNode) (old : Seat) (node : NodeParts) (a : Answer)
    → DoneOver order f old.node node a
    → ((k : ℕ) → is_started (get (f (plain_of old.node)).1.units k) ≡ is_started (get old.node.units.units k))
    → IsSeated order old → SeatDone order f old (record old { node = node }) a
seat_does order f old node a d law s = record {
  same = d.same;
  seated = record {
    stands = d.stands;
    work = λ k. s.work k ∙ ap (work_of order k) (sym (law k))
        ∙ ap (λ (r : Answer × ModelNode). work_of order k (is_started (get r.1.units k))) (sym d.same);
  };
}

at_number : (k : ℕ) (n m : ModelNode) → n.units ≡ m.units → is_started (get n.units k) ≡ is_started (get m.units k)
at_number k n m same = ap (λ (units : FiniteMap nat_cmp ApplyUnit). is_started (get units k)) same

pub client_does : (order : List Event) (session : ℕ) (call : Call) (old : Seat) (node : NodeParts) (reply : Reply)
    → DoneOver order (λ n. client order n session call) old.node node reply → IsSeated order old
    → SeatDone order (λ n. node_step order n (act.Client session call)) old (record old { node = node }) (answer.Client reply)
client_does order session call old node reply d s =
    seat_does order (λ n. node_step order n (act.Client session call)) old node (answer.Client reply)
    (record { same = ap (λ (r : Reply × ModelNode). (answer.Client r.0, r.1)) d.same; stands = d.stands })
    (λ k. at_number k (client order (plain_of old.node) session call).1 (plain_of old.node) (client_units order (plain_of old.node) session call)) s

pub take_does : (order : List Event) (old : Seat) (node : NodeParts) (a : Answer) → DoneOver order (take_step order) old.node node a → IsSeated order old
    → SeatDone order (take_step order) old (record old { node = node }) a
take_does order old node a d s =
    seat_does order (take_step order) old node a d
    (λ k. at_number k (take_step order (plain_of old.node)).1 (plain_of old.node) (take_units order (plain_of old.node))) s

pub certify_does : (order : List Event) (old : Seat) (node : NodeParts) (a : Answer) → DoneOver order (λ n. certify_step order n) old.node node a
    → IsSeated order old → SeatDone order (λ n. node_step order n act.Certify) old (record old { node = node }) a
certify_does order old node a d s =
    seat_does order (λ n. certify_step order n) old node a d
    (λ k. at_number k (certify_step order (plain_of old.node)).1 (plain_of old.node) (certify_units order (plain_of old.node))) s

pub advance_does : (order : List Event) (old : Seat) (node : NodeParts) (a : Answer) → DoneOver order (λ n. advance_step order n) old.node node a
    → IsSeated order old → SeatDone order (λ n. node_step order n act.Advance) old (record old { node = node }) a
advance_does order old node a d s =
    seat_does order (λ n. advance_step order n) old node a d (advance_started order old.node s.stands) s

pub report_does : (order : List Event) (old : Seat) (node : NodeParts) (a : Answer) → DoneOver order (λ n. report_step n) old.node node a
    → IsSeated order old → SeatDone order (λ n. node_step order n act.Report) old (record old { node = node }) a
report_does order old node a d s =
    seat_does order (λ n. report_step n) old node a d
    (λ k. at_number k (report_step (plain_of old.node)).1 (plain_of old.node) (report_units order (plain_of old.node))) s

pub status_does : (order : List Event) (seat : Seat) (a : Answer) → a ≡ (status_step order (plain_of seat.node)).0
    → IsSeated order seat → SeatDone order (λ n. node_step order n act.Status) seat seat a
unfolding status_step
status_does order seat a is s = record { same = ap (λ x. (x, plain_of seat.node)) is; seated = s }

-- ---- more room for work, which leaves all as it was
pub roomy : (old new : Seat) → new.node ≡ old.node → ((k : ℕ) → kept_at new.done k ≡ kept_at old.done k) → SeatUnchanged old new
roomy old new node same = record {
  plain = ap plain_of node;
  seated = λ order s. record {
    stands = subst (Stands order) (sym node) s.stands;
    work = λ k. same k ∙ s.work k ∙ ap (λ (n : NodeParts). work_of order k (is_started (get n.units.units k))) (sym node);
  };
}

pub then_unchanged : (old middle new : Seat) → SeatUnchanged old middle → SeatUnchanged middle new → SeatUnchanged old new
then_unchanged old middle new first second = record {
  plain = second.plain ∙ first.plain;
  seated = λ order s. second.seated order (first.seated order s);
}

pub then_done : (order : List Event) (f : ModelNode → Answer × ModelNode) (old middle new : Seat) (a : Answer) → SeatUnchanged old middle
    → SeatDone order f middle new a → SeatDone order f old new a
then_done order f old middle new a u d = record { same = d.same ∙ ap f u.plain; seated = d.seated }

-- ---- starting
module _ (order : List Event) (old new : Seat) (number : ℕ) (s : IsSeated order old) where
  work_left : new.done ≡ old.done → new.node.units.units ≡ old.node.units.units
      → (k : ℕ) → kept_at new.done k ≡ work_of order k (is_started (get new.node.units.units k))
  work_left kept units k =
      ap (λ entries. kept_at entries k) kept ∙ s.work k
      ∙ ap (λ (us : FiniteMap nat_cmp ApplyUnit). work_of order k (is_started (get us k))) (sym units)

  new_work : (t : ModelTask) (keys : Keys) → t ≡ unit_task order number → (k : ℕ) (b : Bool) → eq_by_cmp nat_cmp k number ≡ b
      → cond b (Some t) (kept_at old.done k) ≡ work_of order k (is_started (cond b (Some (record { stage = StartedStage; keys = keys })) (get old.node.units.units k)))
  new_work t keys is k true e = ap Some (is ∙ ap (unit_task order) (sym (tied numbers k number e)))
  new_work t keys is k false e = s.work k

  work_added : (t : ModelTask) (keys : Keys) → t ≡ unit_task order number
      → ((k : ℕ) → kept_at new.done k ≡ cond (number == k) (Some t) (kept_at old.done k))
      → new.node.units.units ≡ insert old.node.units.units number (record { stage = StartedStage; keys = keys })
      → (k : ℕ) → kept_at new.done k ≡ work_of order k (is_started (get new.node.units.units k))
  work_added t keys is kept units k =
      kept k ∙ ap (λ b. cond b (Some t) (kept_at old.done k)) (tie number k)
      ∙ new_work t keys is k (eq_by_cmp nat_cmp k number) refl
      ∙ ap (λ o. work_of order k (is_started o)) (sym (get-insert nat_cmp_total old.node.units.units number (record { stage = StartedStage; keys = keys }) k))
      ∙ ap (λ (us : FiniteMap nat_cmp ApplyUnit). work_of order k (is_started (get us k))) (sym units)

  work_after : (r : Started) → Starts number (started_answer number r) (plain_of old.node) (plain_of new.node) → GivesTask order number r
      → KeepsTask number r old.done new.done
      → (k : ℕ) → kept_at new.done k ≡ work_of order k (is_started (get new.node.units.units k))
  work_after (started.Unit t victims) starts is kept = work_added t starts.0 is kept starts.1
  work_after (started.NotYet earlier) starts is kept = work_left kept starts
  work_after started.Local starts is kept = work_left kept starts
  work_after started.NoUnit starts is kept = work_left kept starts

  pub start_does : (r : Started) → DoneOver order (λ n. start_step order n number) old.node new.node (started_answer number r)
      → GivesTask order number r → KeepsTask number r old.done new.done
      → SeatDone order (λ n. node_step order n (act.Start number)) old new (started_answer number r)
  start_does r d is kept = record {
    same = d.same;
    seated = record {
      stands = d.stands;
      work = work_after r
          (subst (λ (p : Answer × ModelNode). Starts number p.0 (plain_of old.node) p.1) (sym d.same) (start_starts order (plain_of old.node) number))
          is kept;
    };
  }

-- there is room for the work where the unit starts
pub room_there : (order : List Event) (old new : Seat) (node : NodeParts) (number spare : ℕ) (r : Started) → SeatUnchanged old new
    → DoneOver order (λ n. start_step order n number) new.node node (started_answer number r)
    → (StartWants order (plain_of old.node) number → 0 < spare) → IsTrue (is_start (started_answer number r)) → 0 < spare
room_there order old new node number spare r u d room is =
    room (ap (λ n. is_start (start_step order n number).0) (sym u.plain) ∙ ap (λ (p : Answer × ModelNode). is_start p.0) (sym d.same) ∙ is)

-- ---- finishing
-- what is kept for a number is the work of a started unit
kept_is : (order : List Event) (number : ℕ) (b : Bool) (t : ModelTask)
    → Some t ≡ work_of order number b → (b ≡ true) × (t ≡ unit_task order number)
kept_is order number b t is = grind arith

none_kept : (order : List Event) (number : ℕ) (b : Bool) → None ≡ work_of order number b
    → b ≡ false
none_kept order number b is = grind arith

module _ (old : Seat) (number : ℕ) (t : ModelTask) (kept : kept_at old.done number ≡ Some t) where
  kept_work : (order : List Event) → IsSeated order old
      → (is_started (get old.node.units.units number) ≡ true) × (t ≡ unit_task order number)
  kept_work order s = kept_is order number (is_started (get old.node.units.units number)) t (sym kept ∙ s.work number)

  kept_number : IsSomewhere old → t.number ≡ number
  kept_number at = ap (λ (w : ModelTask). w.number) (kept_work at.0 at.1).1

  pub kept_started : IsSomewhere old → is_started (get old.node.units.units t.number) ≡ true
  kept_started at = ap (λ k. is_started (get old.node.units.units k)) (kept_number at) ∙ (kept_work at.0 at.1).0

  pub finish_work : IsSomewhere old → (order : List Event) → Stands order old.node
      → IsTrue (is_started (get old.node.units.units t.number)) → t ≡ unit_task order t.number
  finish_work at order st is =
      (kept_work at.0 at.1).1 ∙ started_task at.0 order old.node at.1.stands st number (kept_work at.0 at.1).0
      ∙ ap (unit_task order) (sym (kept_number at))

  module _ (order : List Event) (new : Seat) (s : IsSeated order old)
      (gone : (k : ℕ) → kept_at new.done k ≡ cond (number == k) None (kept_at old.done k)) where
    work_gone : (k : ℕ) (b : Bool) → cond b None (kept_at old.done k) ≡ work_of order k (cond b false (is_started (get old.node.units.units k)))
    work_gone k true = refl
    work_gone k false = s.work k

    pub finish_does : (a : Answer) → DoneOver order (λ n. finish_step n t.number) old.node new.node a
        → SeatDone order (λ n. node_step order n (act.Finish number)) old new a
    finish_does a d =
        let same : (a, plain_of new.node) ≡ finish_step (plain_of old.node) number =
        d.same ∙ ap (finish_step (plain_of old.node)) (kept_number (order, s)) in
        record {
          same = same;
          seated = record {
            stands = d.stands;
            work = λ k. gone k ∙ ap (λ b. cond b None (kept_at old.done k)) (tie number k)
                ∙ work_gone k (eq_by_cmp nat_cmp k number)
                ∙ ap (work_of order k) (sym (finish_done (plain_of old.node) number k))
                ∙ ap (λ (p : Answer × ModelNode). work_of order k (is_started (get p.1.units k))) (sym same);
          };
        }

-- no work is kept for the number, and so no unit is started with it
pub finish_none : (order : List Event) (old new : Seat) (number : ℕ) → kept_at old.done number ≡ None
    → new.node ≡ old.node → new.done ≡ old.done → IsSeated order old
    → SeatDone order (λ n. node_step order n (act.Finish number)) old new (answer.NoUnit number)
finish_none order old new number none node entries s = record {
  same = ap (λ (n : NodeParts). (answer.NoUnit number, plain_of n)) node
      ∙ finish_idle (plain_of old.node) number (none_kept order number (is_started (get old.node.units.units number)) (sym none ∙ s.work number));
  seated = record {
    stands = subst (Stands order) (sym node) s.stands;
    work = λ k. ap (λ es. kept_at es k) entries ∙ s.work k ∙ ap (λ (n : NodeParts). work_of order k (is_started (get n.units.units k))) (sym node);
  };
}

-- ---- an order that grows
work_same : (order other : List Event) (seat : Seat) → IsSeated order seat → Stands other seat.node → (k : ℕ) (b : Bool)
    → is_started (get seat.node.units.units k) ≡ b → work_of order k b ≡ work_of other k b
work_same order other seat s st k true is = ap Some (started_task order other seat.node s.stands st k is)
work_same order other seat s st k false is = refl

pub seated_grow : (order more : List Event) (seat : Seat) → IsSeated order seat → IsSeated (order ++ more) seat
seated_grow order more seat s =
    let stands = stands_grow order more seat.node s.stands in
    record {
      stands = stands;
      work = λ k. s.work k ∙ work_same order (order ++ more) seat s stands k (is_started (get seat.node.units.units k)) refl;
    }
