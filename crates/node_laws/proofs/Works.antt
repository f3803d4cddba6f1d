-- The units stay but for moves that change them; and a commit takes away none that is not finished.
use Rattle.std.proofs.Common.{◌≡◌, ℕ, ◌+◌, Bool, true, false, cond, ◌||◌, List, Option, None, Some, refl, ap, sym, ◌∙◌, true≢false}
use Rattle.std.specs.Prelude.{◌==◌, not, is_some}
use Rattle.std.specs.Ordering.{nat_cmp, eq_by_cmp}
use Rattle.std.specs.Cmp.{nat_cmp_total}
use Rattle.finite_map.specs.FiniteMap.{FiniteMap, get, remove, get-remove}
use Rattle.finite_map.proofs.Edits.{numbers, tied}
use Rattle.order_event.specs.declared.event.Event.{Event}
use Rattle.order_event.specs.declared.step.Answer.{Answer}
use Rattle.order_event.specs.declared.step.Answer.TheVariants as answer
use Rattle.cert_meaning.specs.declared.items.CommitItem.{CommitItem}
use Rattle.client_trx.specs.Live.{Live}
use Rattle.node_meaning.specs.Node.{ModelNode, ApplyUnit, passed_at}
use Rattle.node_meaning.specs.Steps.{is_local, is_finished, told_committed, committer_of, committed_next, is_ready, advance_step}
use Rattle.node_meaning.specs.Facts.{Facts}
use Rattle.node_meaning.proofs.EntryLaws.{less_from}
use Rattle.node_meaning.proofs.AdvanceFacts.{units-none}
use Rattle.node_laws.proofs.Moves.{Kind, Move, Starts, Finishes, Advances, Commits, May, Reaches, kept, with_committed}

units_moved : (order : List Event) (given : Type 0) (n : ModelNode) (kind : Kind) (m : ModelNode) → May false kind → Move order given n kind m → m.units ≡ n.units
units_moved order given n kind m may (Starts number commit can) = cc
units_moved order given n kind m may (Finishes number u there is) = cc
units_moved order given n kind m may (Advances can none) = cc
units_moved order given n kind m may (Commits s t can there is) = cc
units_moved order given n kind m may _ = refl

-- moves of which none changes the units
pub units_kept : (order : List Event) (given : Type 0) (n : ModelNode) (k : ℕ) (m : ModelNode) → Reaches order given false n k m → m.units ≡ n.units
units_kept order given n k m row =
    kept (λ o. o.units ≡ n.units) (λ o kind q may move h. units_moved order given o kind q may move ∙ h) n k m row refl

-- ---- a commit; `look` sees no finished unit
module _ {A : Type 0} (look : Option ApplyUnit → A) (blind : (u : ApplyUnit) → is_finished (Some u) ≡ true → look (Some u) ≡ look None)
    (order : List Event) (n : ModelNode) (f : Facts order n) (k : ℕ) where
  abbrev next : ℕ
  next = n.at.committed + 1

  finished_unseen : (o : Option ApplyUnit) → is_finished o ≡ true → look o ≡ look None
  finished_unseen None is = refl
  finished_unseen (Some u) is = blind u is

  local_unseen : (o : Option ApplyUnit) → get n.units next ≡ o → is_local n.live next ≡ true → look o ≡ look None
  local_unseen None there local = refl
  local_unseen (Some u) there local = absurd (true≢false (sym local ∙ f.remote next u there))

  module _ (more : n.at.committed == n.at.certified ≡ false) where
    ready_unseen : (o : Option CommitItem) (done local : Bool) → passed_at order n.at.committed n.at.certified next ≡ o
        → is_finished (get n.units next) ≡ done → is_local n.live next ≡ local
        → not (is_some o) || done || local ≡ true → look (get n.units next) ≡ look None
    ready_unseen None done local is done_is local_is ready =
        ap look (units-none order n f (less_from n.at.committed n.at.certified f.in_order.committed_fits more) is)
    ready_unseen (Some c) true local is done_is local_is ready = finished_unseen (get n.units next) done_is
    ready_unseen (Some c) false true is done_is local_is ready = local_unseen (get n.units next) refl local_is
    ready_unseen (Some c) false false is done_is local_is ready = cc

    taken_unseen : look (get n.units next) ≡ look None → (b : Bool) → eq_by_cmp nat_cmp k next ≡ b
        → look (cond b None (get n.units k)) ≡ look (get n.units k)
    taken_unseen unseen true same = sym (ap (λ q. look (get n.units q)) (tied numbers k next same) ∙ unseen)
    taken_unseen unseen false same = refl

    told_units : (o : Option (ℕ × Live)) → (told_committed (with_committed n n.live n.waiting) next o).units ≡ remove n.units next
    told_units None = refl
    told_units (Some e) = refl

    by_ready : (b : Bool) → is_ready order n next ≡ b
        → look (get (cond {A = Answer × ModelNode} b (answer.At next, committed_next n next) (answer.NotReady next, n)).1.units k) ≡ look (get n.units k)
    by_ready true ready =
        ap (λ (units : FiniteMap nat_cmp ApplyUnit). look (get units k)) (told_units (committer_of n.live next))
        ∙ ap look (get-remove nat_cmp_total n.units next k)
        ∙ taken_unseen
        (ready_unseen (passed_at order n.at.committed n.at.certified next) (is_finished (get n.units next)) (is_local n.live next) refl refl refl ready)
        (eq_by_cmp nat_cmp k next) refl
    by_ready false ready = refl

  by_more : (b : Bool) → n.at.committed == n.at.certified ≡ b
      → look (get (cond {A = Answer × ModelNode} b (answer.Nothing, n) (cond (is_ready order n next) (answer.At next, committed_next n next) (answer.NotReady next, n))).1.units k)
      ≡ look (get n.units k)
  by_more true is = refl
  by_more false is = by_ready is (is_ready order n next) refl

  pub advance_unseen : look (get (advance_step order n).1.units k) ≡ look (get n.units k)
  unfolding advance_step
  advance_unseen = by_more (n.at.committed == n.at.certified) refl
