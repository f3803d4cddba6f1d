-- A node leaves: the transactions that end do so by moves, and then its queue is lost. What holds
-- over the order so far holds of the front of what was pending and of what was ahead.
use Rattle.std.proofs.Common.{◌≡◌, ℕ, ◌≤◌, true, List, [], ◌∷◌, ◌++◌, drop, take, refl, ap, sym, ◌∙◌, arith, append-nil}
use Rattle.std.specs.Prelude.{max}
use Rattle.std.specs.List.{filter_map}
use Rattle.std.specs.Ordering.{nat_cmp}
use Rattle.std.proofs.lemmas.List.Elements.{filter_map-append}
use Rattle.finite_map.specs.FiniteMap.{FiniteMap}
use Rattle.order_event.specs.declared.event.Event.{Event}
use Rattle.order_event.specs.declared.event.Message.{Message}
use Rattle.write_set.specs.declared.write_set.WriteSet.{WriteSet}
use Rattle.write_set.specs.Reading.{decoded}
use Rattle.cert_meaning.specs.State.{FoldState}
use Rattle.cert_meaning.specs.Fold.{state_at}
use Rattle.cert_meaning.specs.Verdict.{is_rollback}
use Rattle.client_trx.specs.Live.{Live}
use Rattle.node_meaning.specs.Node.{ModelNode}
use Rattle.node_meaning.specs.Leaving.{departed, sessions_left, left_node}
use Rattle.node_meaning.specs.Facts.{own_body, sent_body}
use Rattle.node_laws.proofs.LeftSets.{all_front, serials_front, front_none}
use Rattle.node_laws.proofs.Leaving.{left_moves, facts_left}
use Rattle.node_laws.specs.InStep.{messages_behind}
use Rattle.node_laws.proofs.Cleared.{left_cleared}
use Rattle.course_laws.specs.Ordered.{pending_sets, seen_in, seen_ahead, Rises, AllEnd, IsPlaced, Entered, Stage, Early, Since}
use Rattle.course_laws.proofs.Following.{Follows, Outside, first_keeps, still_follows}

-- ---- fronts of lists
rises_less : (low : ℕ) (ks : List ℕ) (high : ℕ) → Rises low ks high → low ≤ high
rises_less low [] high rises = rises
rises_less low (k ∷ ks) high rises = omega (arith, rises.0, rises_less k ks high rises.1)

rises_front : (low : ℕ) (xs ys : List ℕ) (high : ℕ) → Rises low (xs ++ ys) high
    → Rises low xs high
rises_front low [] ys high rises = rises_less low ys high rises
rises_front low (k ∷ xs) ys high rises = (rises.0, rises_front k xs ys high rises.1)

ends_front : (a b : List WriteSet) → AllEnd (a ++ b) → AllEnd a
ends_front [] b ends = tt
ends_front (w ∷ a) b ends = (
  all_front (λ (v : WriteSet). v.begin ≡ w.begin → is_rollback v ≡ true) a b ends.0,
  ends_front a b ends.1,
)

-- what holds of what is pending and of what was seen ahead holds of a front of each
entered_front : (s : FoldState) (m v b serial p : ℕ) (live : FiniteMap nat_cmp Live)
    (a more : List WriteSet) (seen later : List ℕ)
    → Entered s m v b serial p live (a ++ more) (seen ++ later)
    → Entered s m v b serial p live a seen
entered_front s m v b serial p live a more seen later h = record {
  entered = h.entered;
  standing = h.standing;
  is_member = h.is_member;
  floor = h.floor;
  serials = serials_front h.standing.serial a more serial h.serials;
  rises = rises_front h.standing.report seen later (max p v) h.rises;
  placed = all_front (IsPlaced s) a more h.placed;
  ends = ends_front a more h.ends;
  each = h.each;
  unbegun = h.unbegun;
}

-- ---- the node has left
module _ (order : List Event) (n : ModelNode) where
  abbrev taken_bodies : List (List ℕ)
  taken_bodies =
      filter_map (own_body n.at.member) (drop n.at.certified (take n.at.taken order))

  abbrev queued : List (List ℕ)
  queued = filter_map sent_body (n.ordered ++ n.outbox)

  abbrev behind : List Message
  behind = messages_behind n.at.member n.at.certified order

  sets_parts : pending_sets order n
      ≡ pending_sets order (departed n) ++ filter_map decoded queued
  sets_parts =
      filter_map-append decoded taken_bodies queued
      ∙ ap (λ bodies. filter_map decoded bodies ++ filter_map decoded queued)
      (sym (append-nil taken_bodies))

  seen_parts : seen_ahead order n
      ≡ seen_ahead order (departed n) ++ filter_map seen_in n.outbox
  seen_parts =
      filter_map-append seen_in behind n.outbox
      ∙ ap (λ ms. filter_map seen_in ms ++ filter_map seen_in n.outbox) (sym (append-nil behind))

  departed_stage : Stage order n → Stage order (departed n)
  departed_stage (Early h) =
      let nothing = append-nil taken_bodies ∙ front_none taken_bodies queued h.nothing in
      let silent = append-nil behind ∙ front_none behind n.outbox h.silent in
      Early (search (h, nothing, silent))
  departed_stage (Since h) =
      Since (entered_front (state_at order n.at.certified) n.at.member n.at.view n.at.begin
      n.at.serial n.at.committed n.live (pending_sets order (departed n))
      (filter_map decoded queued) (seen_ahead order (departed n)) (filter_map seen_in n.outbox)
      (rw (sets_parts, seen_parts) at h))

-- a node leaves its group
pub left_follows : (order : List Event) (member : ℕ) (n : ModelNode) → Follows order member n
    → Follows order member (left_node n)
unfolding left_node
left_follows order member n h =
    let ended = still_follows order member (Unit {0}) tt n (sessions_left n)
    (left_moves n order (Unit {0}) true) h in record {
      home = ended.home;
      facts = facts_left n order h.facts;
      stage = departed_stage order (sessions_left n) ended.stage;
      place = Outside (record {
        left = refl;
        cleared = left_cleared n;
        keeps = first_keeps order (sessions_left n) ended.place;
      });
    }
