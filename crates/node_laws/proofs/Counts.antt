-- A step gives out at most one number: the next serial together with the live transactions, the next begin number, and the
-- messages that are not ordered together with the live transactions, each rise by at most one.
use Rattle.std.proofs.Common.{◌≡◌, ℕ, suc, ◌+◌, ◌≤◌, Bool, List, [], ◌∷◌, length, refl, ap, subst, ◌∙◌, arith, length-append}
use Rattle.std.specs.Prelude.{is_some}
use Rattle.finite_map.specs.FiniteMap.{len}
use Rattle.finite_map.proofs.Edits.{numbers, len-over, len-new, len-left}
use Rattle.order_event.specs.declared.event.Event.{Event}
use Rattle.order_event.specs.declared.event.Message.TheVariants as message
use Rattle.write_set.specs.Spelling.{spelling}
use Rattle.client_trx.specs.Live.{with_status, passed_status, commit_of, fragment_of, fragment_sent}
use Rattle.client_trx.specs.declared.status.Status.TheVariants as status
use Rattle.node_meaning.specs.Node.{ModelNode}
use Rattle.node_meaning.specs.Client.{extended}
use Rattle.node_meaning.proofs.ClientFacts.{first}
use Rattle.node_laws.proofs.Moves.{Kind, Pays, Works, Quiet, cost, Move, Begins, Extends, Streams, Sends, Ends, TakesBack, Unlocks, Reports, Orders, Passes, Fails, Commits, Reaches, Here, Quietly, Working, Paying}

pub record Grows (k : ℕ) (n m : ModelNode) : Type 0 where
  pub member : m.at.member ≡ n.at.member
  pub begin : m.at.begin ≤ n.at.begin + k
  pub serial : m.at.serial + len m.live ≤ n.at.serial + len n.live + k
  pub size : length m.outbox + len m.live ≤ length n.outbox + len n.live + k

pub move_grows : (order : List Event) (given : Type 0) (n : ModelNode) (c : Kind) (m : ModelNode)
    → Move order given n c m → Grows (cost c) n m
move_grows order given n c m (Begins s unit may) =
    let l = len-new numbers n.live s (first n.at.member n.at.begin unit) may.none in
    record { member = refl; begin = omega arith; serial = omega (arith, l); size = omega (arith, l) }
move_grows order given n c m (Extends s t st here fits free) =
    let l = len-over numbers n.live s (extended t st) (ap is_some here.there) in
    record { member = refl; begin = omega arith; serial = omega (arith, l); size = omega (arith, l) }
move_grows order given n c m (Streams s t here change range) =
    let l = len-over numbers n.live s (fragment_sent t) (ap is_some here.there) in
    let sent = message.Write (spelling (fragment_of t n.at.serial n.at.committed)) in
    let q = length-append n.outbox (sent ∷ []) in
    record { member = refl; begin = omega arith; serial = omega (arith, l); size = omega (arith, l, q) }
move_grows order given n c m (Sends s t here range) =
    let l = len-over numbers n.live s (with_status t status.CommitSent) (ap is_some here.there) in
    let sent = message.Write (spelling (commit_of t n.at.serial n.at.committed)) in
    let q = length-append n.outbox (sent ∷ []) in
    record { member = refl; begin = omega arith; serial = omega (arith, l); size = omega (arith, l, q) }
move_grows order given n c m (Ends s t o there) =
    let l = len-left numbers n.live s t there in
    record { member = refl; begin = omega arith; serial = omega (arith, l); size = omega (arith, l) }
move_grows order given n c m (TakesBack s t w o there due range) =
    let l = len-left numbers n.live s t there in
    let q = length-append n.outbox (message.Write (spelling w) ∷ []) in
    record { member = refl; begin = omega arith; serial = omega (arith, l); size = omega (arith, l, q) }
move_grows order given n c m (Unlocks s t to there unlocked) =
    let l = len-over numbers n.live s (with_status t to) (ap is_some there) in
    record { member = refl; begin = omega arith; serial = omega (arith, l); size = omega (arith, l) }
move_grows order given n c m (Reports stays) =
    let q = length-append n.outbox (message.Report n.at.committed ∷ []) in
    record { member = refl; begin = omega arith; serial = omega arith; size = omega (arith, q) }
move_grows order given n c m (Orders front back is) =
    let q = ap length is ∙ length-append front back in
    record { member = refl; begin = omega arith; serial = omega arith; size = omega (arith, q) }
move_grows order given n c m (Fails s t body w v judged came) =
    let l = len-left numbers n.live s t judged.there in
    record { member = refl; begin = omega arith; serial = omega (arith, l); size = omega (arith, l) }
move_grows order given n c m (Passes s t body w judged pass) =
    let passed = with_status t (passed_status (n.at.certified + 1) t.status) in
    let l = len-over numbers n.live s passed (ap is_some judged.there) in
    record { member = refl; begin = omega arith; serial = omega (arith, l); size = omega (arith, l) }
move_grows order given n c m (Commits s t may there is) =
    let l = len-left numbers n.live s t there in
    record { member = refl; begin = omega arith; serial = omega (arith, l); size = omega (arith, l) }
move_grows order given n c m _ = record { member = refl; begin = omega arith; serial = omega arith; size = omega arith }

-- ---- rows of moves
pub both_grow : (j k : ℕ) (n m o : ModelNode) → Grows j n m → Grows k m o → Grows (j + k) n o
both_grow j k n m o a b = record {
  member = b.member ∙ a.member;
  begin = omega (arith, a.begin, b.begin);
  serial = omega (arith, a.serial, b.serial);
  size = omega (arith, a.size, b.size);
}

pub reach_grows : (order : List Event) (given : Type 0) (works : Bool) (n : ModelNode) (k : ℕ) (m : ModelNode)
    → Reaches order given works n k m → Grows k n m
reach_grows order given works n k m Here =
    record { member = refl; begin = omega arith; serial = omega arith; size = omega arith }
reach_grows order given works n k m (Quietly {m = mid} row move) =
    let first = reach_grows order given works n k mid row in
    let last = move_grows order given mid Quiet m move in
    subst (λ j. Grows j n m) (omega arith) (both_grow k 0 n mid m first last)
reach_grows order given works n k m (Working {m = mid} may row move) =
    let first = reach_grows order given works n k mid row in
    let last = move_grows order given mid Works m move in
    subst (λ j. Grows j n m) (omega arith) (both_grow k 0 n mid m first last)
reach_grows order given works n (suc k) m (Paying {m = mid} row move) =
    let first = reach_grows order given works n k mid row in
    let last = move_grows order given mid Pays m move in
    subst (λ j. Grows j n m) (omega arith) (both_grow k 1 n mid m first last)
