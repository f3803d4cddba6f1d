-- The parts of a drain leave serials for all rollbacks that its kills may send.
use Rattle.std.proofs.Common.{◌≡◌, ℕ, zero, suc, ◌+◌, ◌≤◌, List, ap, arith}
use Rattle.finite_map.specs.FiniteMap.{len}
use Rattle.order_event.specs.declared.event.Event.{Event}
use Rattle.node_meaning.specs.Node.{ModelNode}
use Rattle.node_meaning.specs.Steps.{start_step, finish_step, times, commit_next}
use Rattle.node_core.specs.Stands.{plain_of}
use Rattle.node_laws.proofs.StepCounts.{take_grows, certify_grows, start_grows, finish_grows, advance_grows}
use Rattle.cluster_core.specs.Seated.{Seat, IsSeated}
use Rattle.cluster_core.specs.Drain.{Sent, Takes, Certifies, Commits, HasSerials, take_next, certify_next}

-- the next serial together with the live transactions
abbrev pub last_serial : ModelNode → ℕ
last_serial n = n.at.serial + len n.live

times_last : (k : ℕ) (f : ModelNode → ModelNode) → ((m : ModelNode) → last_serial (f m) ≤ last_serial m) → (n : ModelNode)
    → last_serial (times k f n) ≤ last_serial n
times_last zero f each n = omega arith
times_last (suc k) f each n = let rest = times_last k f each (f n) in let first = each n in omega (arith, rest, first)

module _ (order : List Event) where
  take_last : (n : ModelNode) → last_serial (take_next order n) ≤ last_serial n
  take_last n = let grows = (take_grows order n).serial in omega (arith, grows)

  certify_last : (n : ModelNode) → last_serial (certify_next order n) ≤ last_serial n
  certify_last n = let grows = (certify_grows order n).serial in omega (arith, grows)

  commit_last : (n : ModelNode) → last_serial (commit_next order n) ≤ last_serial n
  commit_last n =
      let number = n.at.committed + 1 in
      let first = (start_step order n number).1 in
      let second = (finish_step first number).1 in
      let starts = (start_grows order n number).serial in
      let finishes = (finish_grows order first number).serial in
      let advances = (advance_grows order second).serial in
      omega (arith, starts, finishes, advances)

-- ---- the parts
module _ (old new : Seat) where
  kept : (m : ModelNode) → plain_of new.node ≡ m → last_serial m ≤ last_serial (plain_of old.node) → HasSerials old → HasSerials new
  kept m is most has = let same = ap last_serial is in omega (arith, same, most, has)

  pub sent_serials : (count : ℕ) (before now : List Event) → Sent count before now old new → HasSerials old → HasSerials new
  sent_serials count before now sent has =
      let same = ap (λ (p : List Event × ModelNode). last_serial p.1) sent.all in omega (arith, same, has)

  pub taken_serials : (count : ℕ) (order : List Event) → Takes count order old new → HasSerials old → HasSerials new
  taken_serials count order part =
      kept (times count (take_next order) (plain_of old.node)) part.plain (times_last count (take_next order) (take_last order) (plain_of old.node))

  pub certified_serials : (count : ℕ) (order : List Event) → IsSeated order old → Certifies count old new → HasSerials old → HasSerials new
  certified_serials count order s part =
      kept (times count (certify_next order) (plain_of old.node)) (part order s).plain
      (times_last count (certify_next order) (certify_last order) (plain_of old.node))

  pub committed_serials : (count : ℕ) (order : List Event) → IsSeated order old → Commits count old new → HasSerials old → HasSerials new
  committed_serials count order s part =
      kept (times count (commit_next order) (plain_of old.node)) (part order s).plain
      (times_last count (commit_next order) (commit_last order) (plain_of old.node))
