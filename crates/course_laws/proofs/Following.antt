-- Rows of moves keep what holds of a node over the order so far, wherever it is; and a client call
-- is such a row.
use Rattle.std.proofs.Common.{◌≡◌, ℕ, ◌≤◌, true, List, inl, inr, Option, Some, None, sym, ◌∙◌, arith, ltb-false, true≢false, ap}
use Rattle.std.specs.Prelude.{nat_lt}
use Rattle.std.proofs.lemmas.Bool.{cases_Bool}
use Rattle.finite_map.specs.FiniteMap.{get}
use Rattle.row_model.specs.declared.calls.Call.{Call}
use Rattle.row_model.specs.declared.calls.Reply.{Reply}
use Rattle.order_event.specs.declared.event.Event.{Event}
use Rattle.client_trx.specs.Live.{Live}
use Rattle.node_meaning.specs.declared.progress.Phase.TheVariants as phase
use Rattle.node_meaning.specs.Node.{ModelNode, is_left, is_joining, is_connected}
use Rattle.node_meaning.specs.Client.{asked, told_first, client}
use Rattle.node_meaning.specs.Steps.{report_step}
use Rattle.node_meaning.proofs.EntryLaws.{less_from}
use Rattle.node_laws.proofs.Moves.{Kind, Pays, Works, Joint, Quiet, Move, Tells, Leaves, Takes, Advances, Commits, May, Reaches, Here, Quietly, Working, Paying, one, to_same, kept, cost}
use Rattle.node_laws.proofs.ClientMoves.{CanCall, client_moves}
use Rattle.node_laws.proofs.ReportMoves.{report_moves}
use Rattle.node_laws.proofs.Counts.{move_grows}
use Rattle.node_laws.proofs.FactsMoved.{facts_moved}
use Rattle.node_laws.proofs.InStep.{in_step_moved, phase_moved}
use Rattle.node_laws.proofs.Cleared.{cleared_reached}
use Rattle.node_laws.proofs.Joining.{waiting_reached}
pub use Rattle.course_laws.specs.Places.{AllKeep, HasStayed, HasJoined, FirstKeep, HasLeft, Place, Inside, Entering, Outside, Follows}
use Rattle.course_laws.proofs.StageMoved.{stage_moved}

pub synced_moved : (order : List Event) (given : Type 0) (n : ModelNode) (k : Kind) (m : ModelNode)
    → Move order given n k m → n.at.view ≤ n.at.committed → m.at.view ≤ m.at.committed
synced_moved order given n k m (Advances may none) h = omega (arith, h)
synced_moved order given n k m (Commits s t may there is) h = omega (arith, h)
synced_moved order given n k m _ h = h

-- ---- a move keeps the place of a node
-- it is a row
alone : (order : List Event) (given : Type 0) (n : ModelNode) (k : Kind) (m : ModelNode)
    → May true k → Move order given n k m → Reaches order given true n (cost k) m
alone order given n Pays m may move = Paying Here move
alone order given n Works m may move = Working may Here move
alone order given n Joint m may move = absurd may
alone order given n Quiet m may move = Quietly Here move

module _ (order : List Event) (given : Type 0) (n : ModelNode) where
  -- all events keep its member, or those that it took, of which a node that left takes no more
  all_keep_moved : (k : Kind) (m : ModelNode) → Move order given n k m
      → AllKeep order n.at.member n.at.view → AllKeep order m.at.member m.at.view
  all_keep_moved k m (Leaves stay) keeps = keeps
  all_keep_moved k m _ keeps = keeps

  first_keep_moved : (k : Kind) (m : ModelNode) → May true k → Move order given n k m
      → HasLeft order n → FirstKeep order m.at.member m.at.view m.at.taken
  first_keep_moved k m may (Takes e ordered there leaves) h =
      absurd (true≢false (sym leaves.connected ∙ ap is_connected h.left))
  first_keep_moved k m may (Leaves stay) h = absurd may
  first_keep_moved k m may _ h = h.keeps

  place_moved : (k : Kind) (m : ModelNode) → May true k → Move order given n k m → Place order n
      → Place order m
  place_moved k m may move (Inside h) = Inside (record {
    connected = phase_moved order given true n k m may move ∙ h.connected;
    in_step = in_step_moved order given true n k m may move h.in_step;
    keeps = all_keep_moved k m move h.keeps;
  })
  place_moved k m may move (Entering h) =
      let joining = phase_moved order given true n k m may move ∙ h.joining in
      let waits = waiting_reached order given true n (cost k) m (alone order given n k m may move)
      (λ _. (h.rest, h.behind)) (ap is_joining joining) in
      Entering (record {
        joining = joining;
        rest = waits.0;
        behind = waits.1;
        in_step = in_step_moved order given true n k m may move h.in_step;
        keeps = all_keep_moved k m move h.keeps;
      })
  place_moved k m may move (Outside h) =
      let left = phase_moved order given true n k m may move ∙ h.left in Outside (record {
        left = left;
        cleared = cleared_reached order given true n (cost k) m
            (alone order given n k m may move) (λ _. h.cleared) (ap is_left left);
        keeps = first_keep_moved k m may move h;
      })

-- what a node took keeps its member
pub first_keeps : (order : List Event) (n : ModelNode) → Place order n
    → FirstKeep order n.at.member n.at.view n.at.taken
first_keeps order n (Inside h) j e from below there = h.keeps j e from there
first_keeps order n (Entering h) j e from below there = h.keeps j e from there
first_keeps order n (Outside h) j e from below there = h.keeps j e from below there

pub stayed : (order : List Event) (n : ModelNode) → n.at.phase ≡ phase.Connected → Place order n
    → HasStayed order n
stayed order n is (Inside h) = h
stayed order n is (Entering h) = let joining = h.joining in cc
stayed order n is (Outside h) = let left = h.left in cc

module _ (order : List Event) (member : ℕ) (given : Type 0) (g : given) where
  pub follow_moved : (n : ModelNode) (k : Kind) (m : ModelNode)
      → (k ≡ Pays → n.at.view ≤ n.at.committed) → May true k → Move order given n k m
      → Follows order member n → Follows order member m
  follow_moved n k m synced may move h = record {
    home = (move_grows order given n k m move).member ∙ h.home;
    facts = facts_moved order given g n k m move h.facts;
    stage = stage_moved order n given g k m synced
        (λ e up more there. first_keeps order n h.place n.at.certified e (omega (arith, up))
        (less_from n.at.certified n.at.taken h.facts.in_order.certified_fits more) there)
        may move h.facts h.stage;
    place = place_moved order given n k m may move h.place;
  }

  pub quiet_not : Quiet ≡ Pays → ⊥
  quiet_not is = cc

  pub works_not : Works ≡ Pays → ⊥
  works_not is = cc

  -- a row in which none pays
  pub still_follows : (n : ModelNode) (m : ModelNode) → Reaches order given true n 0 m
      → Follows order member n → Follows order member m
  still_follows n m Here h = h
  still_follows n m (Quietly {m = mid} row move) h =
      follow_moved mid Quiet m (λ is. absurd (quiet_not is)) tt move (still_follows n mid row h)
  still_follows n m (Working {m = mid} may row move) h =
      follow_moved mid Works m (λ is. absurd (works_not is)) may move (still_follows n mid row h)

  -- any row, of a node that has committed the view of its member
  pub paid_follows : (n : ModelNode) (k : ℕ) (m : ModelNode) → n.at.view ≤ n.at.committed
      → Reaches order given true n k m → Follows order member n → Follows order member m
  paid_follows n k m synced row h =
      (kept (λ x. Follows order member x × (x.at.view ≤ x.at.committed)) (λ x kind y may move was. (
        follow_moved x kind y (λ _. was.1) may move was.0,
        synced_moved order given x kind y move was.1,
      )) n k m row (h, synced)).0

  -- a row in which none pays before that, and one at most since
  pub either_follows : (n m : ModelNode)
      → (nat_lt n.at.committed n.at.view ≡ true → Reaches order given true n 0 m)
      → Reaches order given true n 1 m → Follows order member n → Follows order member m
  either_follows n m still row h = elim (cases_Bool (nat_lt n.at.committed n.at.view)) [
    | inl early ↦ still_follows n m (still early) h
    | inr late ↦ paid_follows n 1 m (ltb-false n.at.committed n.at.view late) row h
  ]

-- ---- a client call before that is answered, and nothing else
module _ (order : List Event) (given : Type 0) (n : ModelNode) (s : ℕ) (c : Call)
    (early : nat_lt n.at.committed n.at.view ≡ true) where
  asked_same : (o : Option Live) → (asked order n s o c).1 ≡ n
  asked_same o = grind arith

  told_still : (o : Option Reply) (otherwise : Reply × ModelNode) → otherwise.1 ≡ n
      → Reaches order given true n 0 (told_first n s o otherwise).1
  told_still (Some waiting) otherwise same = one 0 n _ (Tells s)
  told_still None otherwise same = to_same 0 n n otherwise.1 same Here

  pub client_still : Reaches order given true n 0 (client order n s c).1
  unfolding client
  client_still = told_still (get n.waiting s) (asked order n s (get n.live s) c)
      (asked_same (get n.live s))

pub client_follows : (order : List Event) (member : ℕ) (n : ModelNode)
    (s : ℕ) (c : Call) → CanCall n c → Follows order member n
    → Follows order member (client order n s c).1
client_follows order member n s c can =
    either_follows order member (CanCall n c) can n (client order n s c).1
    (client_still order (CanCall n c) n s c) (client_moves order true n s c)

-- so is a report, which is one move else
early_report : (n : ModelNode) → nat_lt n.at.committed n.at.view ≡ true → (report_step n).1 ≡ n
unfolding report_step
early_report n early = grind arith

pub report_follows : (order : List Event) (member : ℕ) (n : ModelNode)
    → Follows order member n → Follows order member (report_step n).1
report_follows order member n =
    either_follows order member (Unit {0}) tt n (report_step n).1
    (λ early. to_same 0 n n (report_step n).1 (early_report n early) Here)
    (report_moves order (Unit {0}) true n)
