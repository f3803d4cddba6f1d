-- Rows of moves keep what was sent and what answers claim; and a step of a node itself leaves right
-- answers waiting, where each new one claims what holds.
use Rattle.std.proofs.Common.{◌≡◌, ℕ, ◌≤◌, true, List, inl, inr, ◌⊎◌, Some, refl, ap, sym, ◌∙◌, arith}
use Rattle.std.specs.Ordering.{nat_cmp}
use Rattle.finite_map.specs.FiniteMap.{FiniteMap, get, insert, remove}
use Rattle.finite_map.proofs.Edits.{numbers, each_put, each_left}
use Rattle.row_model.specs.declared.calls.Reply.{Reply}
use Rattle.order_event.specs.declared.event.Event.{Event}
use Rattle.client_trx.specs.Live.{Live}
use Rattle.node_meaning.specs.Node.{ModelNode}
use Rattle.node_laws.proofs.Counts.{move_grows}
use Rattle.node_laws.proofs.Moves.{Kind, Pays, Works, Quiet, Move, Advances, Commits, May, Reaches, Here, Quietly, Working, kept}
use Rattle.course_laws.proofs.Following.{Follows, follow_moved, synced_moved, quiet_not, works_not}
use Rattle.answer_laws.specs.Answers.{Asker, asker_of}
use Rattle.answer_laws.proofs.Pasts.{Pasts}
use Rattle.answer_laws.proofs.PastsMoved.{past_moved}
use Rattle.answer_laws.proofs.Claims.{Claim, shut_moved, claim_kept}
use Rattle.answer_laws.proofs.Former.{Claimed, Own, Old, before_up}

-- what holds of the node of a member
pub record Stays (order : List Event) (member : ℕ) (n : ModelNode) : Type 0 where
  pub follows : Follows order member n
  pub past : Pasts order n

committed_grows : (order : List Event) (given : Type 0) (n : ModelNode) (k : Kind) (m : ModelNode)
    → Move order given n k m → n.at.committed ≤ m.at.committed
committed_grows order given n k m (Advances may none) = omega arith
committed_grows order given n k m (Commits s t may there is) = omega arith
committed_grows order given n k m _ = omega arith

-- what was claimed is claimed
abbrev pub Still : List ℕ → List Event → ModelNode → List ℕ → List Event → ModelNode → Type 0
Still former order n now longer m =
    (a : Asker) (r : Reply) → Claimed former order n a r → Claimed now longer m a r

module _ (former : List ℕ) (order : List Event) (member : ℕ) (given : Type 0) (g : given) where
  -- a node that a row reaches keeps what was claimed when it began
  pub record Kept (n m : ModelNode) : Type 0 where
    pub stays : Stays order member m
    pub claimed : Still former order n former order m

  claimed_moved : (n : ModelNode) (k : Kind) (m : ModelNode) → May true k
      → Move order given n k m → Follows order member n → Still former order n former order m
  claimed_moved n k m may move f a r (Own h) =
      Own (claim_kept order n m (move_grows order given n k m move).member
      (committed_grows order given n k m move) a
      (λ test kind shut. shut_moved test a.trx kind order n f.facts shut given g k m may move) r h)
  claimed_moved n k m may move f a r (Old h) =
      Old (before_up former order a r n.at.committed m.at.committed
      (committed_grows order given n k m move) h)

  kept_moved : (start n : ModelNode) (k : Kind) (m : ModelNode)
      → (k ≡ Pays → n.at.view ≤ n.at.committed) → May true k → Move order given n k m
      → Kept start n → Kept start m
  kept_moved start n k m synced may move h = record {
    stays = record {
      follows = follow_moved order member given g n k m synced may move h.stays.follows;
      past = past_moved order n h.stays.follows.facts h.stays.follows.stage h.stays.past given g k
          m may move;
    };
    claimed = λ a r c. claimed_moved n k m may move h.stays.follows a r (h.claimed a r c);
  }

  self : (n : ModelNode) → Stays order member n → Kept n n
  self n h = record { stays = h; claimed = λ a r c. c }

  -- a row in which none pays
  pub still_kept : (n m : ModelNode) → Reaches order given true n 0 m → Stays order member n
      → Kept n m
  still_kept n m Here h = self n h
  still_kept n m (Quietly {m = mid} row move) h =
      kept_moved n mid Quiet m (λ is. absurd (quiet_not order member given g is)) tt move
      (still_kept n mid row h)
  still_kept n m (Working {m = mid} may row move) h =
      kept_moved n mid Works m (λ is. absurd (works_not order member given g is)) may move
      (still_kept n mid row h)

  -- any row, of a node that has committed the view of its member
  pub paid_kept : (n : ModelNode) (k : ℕ) (m : ModelNode) → Reaches order given true n k m
      → n.at.view ≤ n.at.committed → Stays order member n → Kept n m
  paid_kept n k m row synced h =
      (kept (λ x. Kept n x × (x.at.view ≤ x.at.committed)) (λ x kind y may move was. (
        kept_moved n x kind y (λ _. was.1) may move was.0,
        synced_moved order given x kind y move was.1,
      )) n k m row (self n h, synced)).0

-- ---- who asks, and what waits
pub record Waits (former : List ℕ) (order : List Event) (n : ModelNode)
    (askers : FiniteMap nat_cmp Asker) : Type 0 where
  pub asked : (s : ℕ) (t : Live) → get n.live s ≡ Some t → get askers s ≡ Some (asker_of t)
  pub claims : (s : ℕ) (r : Reply) → get n.waiting s ≡ Some r
      → (a : Asker) × (get askers s ≡ Some a) × Claimed former order n a r

-- an answer that waited, or a new one that claims what holds
abbrev pub Told : List Event → ModelNode → ModelNode → ℕ → Reply → Type 0
Told order n m s r =
    (get n.waiting s ≡ Some r)
    ⊎ ((t : Live) × (get n.live s ≡ Some t) × Claim order m (asker_of t) r)

-- a step that changes no keys and changes of a transaction, and each new answer claims what holds
pub record Tells (order : List Event) (n m : ModelNode) : Type 0 where
  pub live : (s : ℕ) (u : Live) → get m.live s ≡ Some u
      → (t : Live) × (get n.live s ≡ Some t) × (asker_of t ≡ asker_of u)
  pub told : (s : ℕ) (r : Reply) → get m.waiting s ≡ Some r → Told order n m s r

module _ (order : List Event) (n m : ModelNode) where
  pub same_tells : m.live ≡ n.live → m.waiting ≡ n.waiting → Tells order n m
  same_tells live waiting = record {
    live = λ s u there.
        (u, sym (ap (λ (x : FiniteMap nat_cmp Live). get x s) live) ∙ there, refl);
    told = λ s r there.
        inl (sym (ap (λ (x : FiniteMap nat_cmp Reply). get x s) waiting) ∙ there);
  }

  abbrev Was : ℕ → Live → Type 0
  Was s u = (t : Live) × (get n.live s ≡ Some t) × (asker_of t ≡ asker_of u)

  pub put_tells : (s : ℕ) (t u : Live) → get n.live s ≡ Some t → asker_of t ≡ asker_of u
      → m.live ≡ insert n.live s u → m.waiting ≡ n.waiting → Tells order n m
  put_tells s t u there same live waiting = record {
    live = λ q v at.
        each_put numbers n.live s Was (λ p x is. (x, is, refl)) u (t, there, same) q v
        (sym (ap (λ (x : FiniteMap nat_cmp Live). get x q) live) ∙ at);
    told = λ q r at.
        inl (sym (ap (λ (x : FiniteMap nat_cmp Reply). get x q) waiting) ∙ at);
  }

  pub end_tells : (s : ℕ) (t : Live) (r : Reply) → get n.live s ≡ Some t
      → m.live ≡ remove n.live s → m.waiting ≡ insert n.waiting s r
      → Claim order m (asker_of t) r → Tells order n m
  end_tells s t r there live waiting claim = record {
    live = λ q v at.
        each_left numbers n.live s Was (λ p x is. (x, is, refl)) q v
        (sym (ap (λ (x : FiniteMap nat_cmp Live). get x q) live) ∙ at);
    told = λ q x at.
        each_put numbers n.waiting s (Told order n m) (λ p y is. inl is) r (inr (t, there, claim))
        q x (sym (ap (λ (y : FiniteMap nat_cmp Reply). get y q) waiting) ∙ at);
  }

-- the answers that wait after it are right
module _ (former : List ℕ) (order : List Event) (member : ℕ) (given : Type 0) (g : given)
    (n m : ModelNode) (row : Reaches order given true n 0 m) (stays : Stays order member n)
    (askers : FiniteMap nat_cmp Asker) (w : Waits former order n askers)
    (tells : Tells order n m) where
  pub still_waits : Waits former order m askers
  still_waits = record {
    asked = λ s u there.
        let was = tells.live s u there in w.asked s was.0 was.1 ∙ ap Some was.2;
    claims = λ s r there. elim (tells.told s r there) [
      | inl before ↦
          let c = w.claims s r before in
          (c.0, c.1, (still_kept former order member given g n m row stays).claimed c.0 r c.2)
      | inr new ↦ (asker_of new.0, w.asked s new.0 new.1, Own new.2)
    ];
  }
