-- The steps of a node by itself, and a drain, leave right answers waiting.
use Rattle.std.proofs.Common.{ℕ, zero, suc, ◌+◌, ◌-◌, ◌≤◌, ◌<◌, ◌^◌, true, List, length, sym, subst, arith}
use Rattle.std.specs.Ordering.{nat_cmp}
use Rattle.finite_map.specs.FiniteMap.{FiniteMap, len}
use Rattle.order_event.specs.declared.event.Event.{Event}
use Rattle.node_meaning.specs.Node.{ModelNode}
use Rattle.node_meaning.specs.Steps.{take_step, certify_step, start_step, finish_step, advance_step, times, commit_next, all_taken, all_certified, drained}
use Rattle.node_laws.proofs.Counts.{reach_grows}
use Rattle.node_laws.proofs.Moves.{Reaches}
use Rattle.node_laws.proofs.TakeMoves.{take_moves}
use Rattle.node_laws.proofs.CertifyMoves.{certify_moves}
use Rattle.node_laws.proofs.UnitMoves.{CanTakeBack, start_moves, finish_moves}
use Rattle.node_laws.proofs.AdvanceMoves.{advance_moves}
use Rattle.course_laws.specs.Courses.{Course}
use Rattle.answer_laws.specs.Answers.{Asker}
use Rattle.answer_laws.proofs.Telling.{Stays, Waits, Tells, still_waits, still_kept}
use Rattle.answer_laws.proofs.NodeSteps.{take_tells, certify_tells, finish_tells, advance_tells}
use Rattle.answer_laws.proofs.Kills.{start_waits}

-- a node whose answers that wait are right, with its numbers in range
pub record OnWay (former : List ℕ) (order : List Event) (member most : ℕ)
    (askers : FiniteMap nat_cmp Asker) (n : ModelNode) : Type 0 where
  pub stays : Stays order member n
  pub waits : Waits former order n askers
  pub serial : n.at.serial + len n.live ≤ most
  pub begin : n.at.begin ≤ most

module _ (most : ℕ) (few : most ≤ 2 ^ 63) (c : Course) (askers : FiniteMap nat_cmp Asker)
    (small : c.node.at.member < 2 ^ 32) (short : length c.order ≤ 2 ^ 63) where
  abbrev order : List Event
  order = c.order

  abbrev Way : ModelNode → Type 0
  Way n = OnWay c.former order c.node.at.member most askers n

  can : (n : ModelNode) → Way n → CanTakeBack n
  can n h =
      let o = h.stays.follows.facts.in_order in record {
        member = subst (λ k. k < 2 ^ 32) (sym h.stays.follows.home) small;
        committed = omega (arith, short, o.committed_fits, o.certified_fits, o.taken_fits);
        serial = omega (arith, few, h.serial);
        begin = omega (arith, few, h.begin);
      }

  by_row : (n m : ModelNode) → Way n → Reaches order (Unit {0}) true n 0 m
      → Waits c.former order m askers → Way m
  by_row n m h row waits =
      let grows = reach_grows order (Unit {0}) true n 0 m row in record {
        stays = (still_kept c.former order c.node.at.member (Unit {0}) tt n m row h.stays).stays;
        waits = waits;
        serial = omega (arith, h.serial, grows.serial);
        begin = omega (arith, h.begin, grows.begin);
      }

  by_tells : (n m : ModelNode) → Way n → Reaches order (Unit {0}) true n 0 m → Tells order n m
      → Way m
  by_tells n m h row tells =
      by_row n m h row
      (still_waits c.former order c.node.at.member (Unit {0}) tt n m row h.stays askers h.waits
      tells)

  pub take_way : (n : ModelNode) → Way n → Way (take_step order n).1
  take_way n h = by_tells n _ h (take_moves order (Unit {0}) true n) (take_tells order n)

  pub certify_way : (n : ModelNode) → Way n → Way (certify_step order n).1
  certify_way n h =
      by_tells n _ h (certify_moves order (Unit {0}) true n)
      (certify_tells order n h.stays.follows.facts h.stays.follows.stage h.stays.past)

  pub start_way : (number : ℕ) (n : ModelNode) → Way n → Way (start_step order n number).1
  start_way number n h =
      by_row n _ h (start_moves order (Unit {0}) n number (λ _ _. can n h))
      (start_waits c.former order c.node.at.member askers n h.stays h.waits (can n h) number)

  pub finish_way : (number : ℕ) (n : ModelNode) → Way n → Way (finish_step n number).1
  finish_way number n h =
      by_tells n _ h (finish_moves order (Unit {0}) n number) (finish_tells order n number)

  pub advance_way : (n : ModelNode) → Way n → Way (advance_step order n).1
  advance_way n h =
      by_tells n _ h (advance_moves order (Unit {0}) n)
      (advance_tells order n h.stays.follows.facts)

  -- ---- a drain
  times_way : (k : ℕ) (f : ModelNode → ModelNode) → ((m : ModelNode) → Way m → Way (f m))
      → (n : ModelNode) → Way n → Way (times k f n)
  times_way zero f each n h = h
  times_way (suc k) f each n h = times_way k f each (f n) (each n h)

  commit_next_way : (n : ModelNode) → Way n → Way (commit_next order n)
  commit_next_way n h =
      let number = n.at.committed + 1 in
      let first = (start_step order n number).1 in
      let second = (finish_step first number).1 in
      advance_way second (finish_way number first (start_way number n h))

  pub drained_way : (n : ModelNode) → Way n → Way (drained order n)
  unfolding drained
  drained_way n h =
      let first = all_taken order n in
      let second = all_certified order first in
      times_way (second.at.certified - second.at.committed) (commit_next order) commit_next_way
      second
      (times_way (first.at.taken - first.at.certified) (λ m. (certify_step order m).1) certify_way
      first
      (times_way (length order - n.at.taken) (λ m. (take_step order m).1) take_way n h))
