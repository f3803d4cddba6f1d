-- Committing the next number is at most one move; and all steps of a node, and a drain.
use Rattle.std.proofs.Common.{◌≡◌, ℕ, zero, suc, ◌+◌, ◌-◌, ◌≤◌, ◌<◌, ◌^◌, true, List, length, Option, None, Some, refl, sym, subst, arith}
use Rattle.std.specs.Prelude.{◌==◌}
use Rattle.finite_map.specs.FiniteMap.{len}
use Rattle.order_event.specs.declared.event.Event.{Event}
use Rattle.order_event.specs.declared.step.Act.{Act}
use Rattle.order_event.specs.declared.step.Act.TheVariants as act
use Rattle.order_event.specs.declared.step.Answer.TheVariants as answer
use Rattle.client_trx.specs.Live.{Live}
use Rattle.node_meaning.specs.Node.{ModelNode}
use Rattle.node_meaning.specs.Steps.{committer_of, told_committed, committed_next, is_ready, advance_step, take_step, certify_step, start_step, finish_step, node_step, times, commit_next, all_taken, all_certified, drained}
use Rattle.node_meaning.proofs.AdvanceFacts.{commits_at}
use Rattle.node_meaning.proofs.EntryLaws.{entry_found}
use Rattle.node_laws.proofs.Counts.{Grows, reach_grows}
use Rattle.node_laws.proofs.Moves.{MayCommit, with_committed, Advances, Commits, Reaches, Here, worked, at_most, joined, chosen}
use Rattle.node_laws.proofs.ClientMoves.{CanCall, client_moves}
use Rattle.node_laws.proofs.TakeMoves.{take_moves}
use Rattle.node_laws.proofs.CertifyMoves.{certify_moves}
use Rattle.node_laws.proofs.UnitMoves.{CanTakeBack, start_moves, finish_moves}
use Rattle.node_laws.proofs.ReportMoves.{report_moves, status_moves}

module _ (order : List Event) (given : Type 0) (n : ModelNode) where
  committer_moves : (o : Option (ℕ × Live)) → MayCommit order n → committer_of n.live (n.at.committed + 1) ≡ o
      → Reaches order given true n 0 (told_committed (with_committed n n.live n.waiting) (n.at.committed + 1) o)
  committer_moves None may is = worked 0 n _ (Advances may is)
  committer_moves (Some e) may is =
      worked 0 n _ (Commits e.0 e.1 may (entry_found n.live (commits_at (n.at.committed + 1)) e is).there is)

  pub advance_moves : Reaches order given true n 0 (advance_step order n).1
  unfolding advance_step
  advance_moves =
      let number = n.at.committed + 1 in
      chosen 0 n (n.at.committed == n.at.certified) (answer.Nothing, n) _ (λ _. Here) (λ more.
      chosen 0 n (is_ready order n number) (answer.At number, committed_next n number) (answer.NotReady number, n)
      (λ ready. committer_moves (committer_of n.live number) (record { more = more; ready = ready }) refl) (λ _. Here))

-- ---- a drain
-- the node's numbers are in range, also with a write set of each live transaction, and so are those of all events
pub record CanDrain (order : List Event) (n : ModelNode) : Type 0 where
  pub member : n.at.member < 2 ^ 32
  pub events : length order < 2 ^ 64
  pub serial : n.at.serial + len n.live ≤ 2 ^ 64
  pub begin : n.at.begin < 2 ^ 64

still_drains : (order : List Event) (n m : ModelNode) → Grows 0 n m → CanDrain order n → CanDrain order m
still_drains order n m grows can = record {
  member = subst (λ k. k < 2 ^ 32) (sym grows.member) can.member;
  events = can.events;
  serial = omega (arith, grows.serial, can.serial);
  begin = omega (arith, grows.begin, can.begin);
}

back_of : (order : List Event) (n : ModelNode) → n.at.committed ≤ length order → CanDrain order n → CanTakeBack n
back_of order n inside can = record {
  member = can.member;
  committed = omega (arith, inside, can.events);
  serial = can.serial;
  begin = can.begin;
}

module _ (order : List Event) (given : Type 0) where
  -- what is known of each node on the way
  abbrev Room : ModelNode → Type 0
  Room n = given → CanDrain order n

  later_room : (n m : ModelNode) → Reaches order given true n 0 m → Room n → Room m
  later_room n m row room g = still_drains order n m (reach_grows order given true n 0 m row) (room g)

  times_moves : (k : ℕ) (f : ModelNode → ModelNode) → ((m : ModelNode) → Room m → Reaches order given true m 0 (f m)) → (n : ModelNode)
      → Room n → Reaches order given true n 0 (times k f n)
  times_moves zero f each n room = Here
  times_moves (suc k) f each n room =
      let first = each n room in
      joined n (f n) 0 _ first (times_moves k f each (f n) (later_room n (f n) first room))

  commit_next_moves : (n : ModelNode) → Room n → Reaches order given true n 0 (commit_next order n)
  commit_next_moves n room =
      let number = n.at.committed + 1 in
      let first = (start_step order n number).1 in
      let second = (finish_step first number).1 in
      joined n first 0 _ (start_moves order given n number (λ g inside. back_of order n inside (room g)))
      (joined first second 0 _ (finish_moves order given first number) (advance_moves order given second))

  pub drained_moves : (n : ModelNode) → Room n → Reaches order given true n 0 (drained order n)
  unfolding drained
  drained_moves n room =
      let first = all_taken order n in
      let second = all_certified order first in
      let takes = times_moves (length order - n.at.taken) (λ m. (take_step order m).1) (λ m r. take_moves order given true m) n room in
      let there = later_room n first takes room in
      let certifies =
      times_moves (first.at.taken - first.at.certified) (λ m. (certify_step order m).1) (λ m r. certify_moves order given true m) first there in
      joined n first 0 _ takes
      (joined first second 0 _ certifies
      (times_moves (second.at.certified - second.at.committed) (commit_next order) commit_next_moves second
      (later_room first second certifies there)))

-- ---- every step
-- what is known of a step
abbrev pub CanStep : ModelNode → Act → Type 0
CanStep n (act.Client session c) = CanCall n c
CanStep n act.Order = Unit {0}
CanStep n act.Take = Unit {0}
CanStep n act.Certify = Unit {0}
CanStep n (act.Start number) = CanTakeBack n
CanStep n (act.Finish number) = Unit {0}
CanStep n act.Advance = Unit {0}
CanStep n act.Drain = Unit {0}
CanStep n act.Report = Unit {0}
CanStep n act.Status = Unit {0}
CanStep n act.Leave = Unit {0}
CanStep n (act.Join fresh) = Unit {0}
CanStep n (act.Transfer donor) = Unit {0}

pub step_moves : (order : List Event) (n : ModelNode) (a : Act) → Reaches order (CanStep n a) true n 1 (node_step order n a).1
step_moves order n (act.Client session c) = client_moves order true n session c
step_moves order n act.Take = at_most 1 n _ (take_moves order _ true n)
step_moves order n act.Certify = at_most 1 n _ (certify_moves order _ true n)
step_moves order n (act.Start number) = at_most 1 n _ (start_moves order _ n number (λ g inside. g))
step_moves order n (act.Finish number) = at_most 1 n _ (finish_moves order _ n number)
step_moves order n act.Advance = at_most 1 n _ (advance_moves order _ n)
step_moves order n act.Order = Here
step_moves order n act.Drain = Here
step_moves order n act.Report = report_moves order _ true n
step_moves order n act.Status = status_moves order _ true n
step_moves order n act.Leave = Here
step_moves order n (act.Join fresh) = Here
step_moves order n (act.Transfer donor) = Here
