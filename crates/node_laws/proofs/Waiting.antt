-- A session for which an answer waits has no live transaction.
use Rattle.std.proofs.Common.{◌≡◌, ℕ, Bool, true, false, cond, List, Option, None, Some, refl, ap, ◌∙◌}
use Rattle.std.specs.Ordering.{nat_cmp, eq_by_cmp}
use Rattle.std.specs.Cmp.{nat_cmp_total}
use Rattle.finite_map.specs.FiniteMap.{FiniteMap, get, insert, remove, get-insert, get-remove}
use Rattle.finite_map.proofs.Edits.{numbers, tied, get-taken, Inserted, AtKey, Elsewhere, inserted, left}
use Rattle.row_model.specs.declared.calls.Reply.{Reply}
use Rattle.order_event.specs.declared.event.Event.{Event}
use Rattle.client_trx.specs.Live.{Live}
use Rattle.node_meaning.specs.Node.{ModelNode}
use Rattle.node_meaning.proofs.EntryLaws.{some_not_none}
use Rattle.node_laws.proofs.Moves.{Kind, Move, Tells, Begins, Extends, Streams, Sends, Ends, TakesBack, Unlocks, Passes, Fails, Commits, with_reply, Reaches, kept}

abbrev pub AreIdle : FiniteMap nat_cmp Reply → FiniteMap nat_cmp Live → Type 0
AreIdle waiting live = (q : ℕ) (r : Reply) → get waiting q ≡ Some r → get live q ≡ None

module _ (waiting : FiniteMap nat_cmp Reply) (live : FiniteMap nat_cmp Live) (s : ℕ) (idle : AreIdle waiting live) where
  idle_told : AreIdle (remove waiting s) live
  idle_told q r is = idle q r (left numbers waiting s q r is).there

  none_by : (q : ℕ) (o : Option Live) (b : Bool) → eq_by_cmp nat_cmp q s ≡ b → get live q ≡ None
      → (b ≡ true → o ≡ None) → cond b o (get live q) ≡ None
  none_by q o true tie is none = none refl
  none_by q o false differs is none = is

  -- a transaction is put for a session for which none waits
  idle_put : (u : Live) → get waiting s ≡ None → AreIdle waiting (insert live s u)
  idle_put u none q r is =
      get-insert nat_cmp_total live s u q
      ∙ none_by q (Some u) (eq_by_cmp nat_cmp q s) refl (idle q r is) (λ tie.
      absurd (some_not_none r (get waiting q) is (ap (get waiting) (tied numbers q s tie) ∙ none)))

  none_waits : (t : Live) → get live s ≡ Some t → (o : Option Reply) → get waiting s ≡ o → o ≡ None
  none_waits t there None is = refl
  none_waits t there (Some r) is = absurd (some_not_none t (get live s) there (idle s r is))

  -- in place of another one
  idle_over : (t u : Live) → get live s ≡ Some t → AreIdle waiting (insert live s u)
  idle_over t u there = idle_put u (none_waits t there (get waiting s) refl)

  gone : (q : ℕ) → get live q ≡ None → get (remove live s) q ≡ None
  gone q is = get-remove nat_cmp_total live s q ∙ none_by q None (eq_by_cmp nat_cmp q s) refl is (λ tie. refl)

  gone_itself : (q : ℕ) → q ≡ s → get (remove live s) q ≡ None
  gone_itself q here = ap (get (remove live s)) here ∙ get-taken numbers live s

  left_by : (r : Reply) (q : ℕ) (x : Reply) → Inserted numbers waiting s r q x → get (remove live s) q ≡ None
  left_by r q x (AtKey here same) = gone_itself q here
  left_by r q x (Elsewhere differs is) = gone q (idle q x is)

  -- a transaction ends
  idle_left : (o : Option Reply) → AreIdle (with_reply waiting s o) (remove live s)
  idle_left None q r is = gone q (idle q r is)
  idle_left (Some r) q x is = left_by r q x (inserted numbers waiting s r q x is)

pub idle_moved : (order : List Event) (given : Type 0) (n : ModelNode) (kind : Kind) (m : ModelNode)
    → Move order given n kind m → AreIdle n.waiting n.live → AreIdle m.waiting m.live
idle_moved order given n kind m (Tells s) h = idle_told n.waiting n.live s h
idle_moved order given n kind m (Begins s unit may) h = idle_put n.waiting n.live s h _ may.told
idle_moved order given n kind m (Extends s t st here fits free) h = idle_over n.waiting n.live s h t _ here.there
idle_moved order given n kind m (Streams s t here change range) h = idle_over n.waiting n.live s h t _ here.there
idle_moved order given n kind m (Sends s t here range) h = idle_over n.waiting n.live s h t _ here.there
idle_moved order given n kind m (Ends s t o there) h = idle_left n.waiting n.live s h o
idle_moved order given n kind m (TakesBack s t w o there due range) h = idle_left n.waiting n.live s h o
idle_moved order given n kind m (Unlocks s t to there unlocked) h = idle_over n.waiting n.live s h t _ there
idle_moved order given n kind m (Passes s t body w judged pass) h = idle_over n.waiting n.live s h t _ judged.there
idle_moved order given n kind m (Fails s t body w v judged came) h = idle_left n.waiting n.live s h (Some _)
idle_moved order given n kind m (Commits s t may there is) h = idle_left n.waiting n.live s h (Some _)
idle_moved order given n kind m _ h = h

pub idle_reached : (order : List Event) (given : Type 0) (works : Bool) (n : ModelNode) (k : ℕ) (m : ModelNode)
    → Reaches order given works n k m → AreIdle n.waiting n.live → AreIdle m.waiting m.live
idle_reached order given works =
    kept (λ n. AreIdle n.waiting n.live) (λ n kind m may move. idle_moved order given n kind m move)
