-- All write sets of a node's member in the order so far are decided, whether it took them or not:
-- all is taken and certified ahead, in thought alone.
use Rattle.std.proofs.Common.{◌≡◌, ℕ, zero, suc, ◌+◌, ◌-◌, ◌≤◌, true, false, List, length, Option, Some, None, refl, ap, subst, ◌∙◌, arith}
use Rattle.std.specs.Prelude.{◌==◌, slice_get}
use Rattle.std.proofs.lemmas.Bool.{cond_both}
use Rattle.std.proofs.lemmas.Option.{slice_get_within}
use Rattle.wsrep_base.specs.declared.verdict.Verdict.{Verdict}
use Rattle.order_event.specs.declared.event.Event.{Event}
use Rattle.order_event.specs.declared.event.Event.TheVariants as event
use Rattle.order_event.specs.declared.step.Answer.{Answer}
use Rattle.write_set.specs.declared.write_set.WriteSet.{WriteSet}
use Rattle.write_set.specs.Reading.{decoded}
use Rattle.cert_meaning.specs.Verdict as rules
use Rattle.cert_meaning.specs.Fold.{state_at}
use Rattle.cert_meaning.proofs.FoldLaws.{some_there}
use Rattle.client_trx.specs.Live.{Live, is_sent, judged_by}
use Rattle.client_trx.specs.declared.status.Outcome.{Outcome}
use Rattle.client_trx.specs.declared.status.Outcome.TheVariants.{Lives, Ends}
use Rattle.node_meaning.specs.declared.progress.Progress.{Progress}
use Rattle.node_meaning.specs.declared.progress.Phase.TheVariants as phase
use Rattle.node_meaning.specs.Node.{ModelNode}
use Rattle.node_meaning.specs.Steps.{told, session_of, told_verdict, told_own, told_event, certify_step, take_step}
use Rattle.node_laws.proofs.Moves.{with_certified, with_taken}
use Rattle.node_laws.proofs.SetLists.{unequal}
use Rattle.node_laws.proofs.TakeMoves.{take_moves}
use Rattle.node_laws.proofs.CertifyMoves.{certify_moves}
use Rattle.course_laws.specs.Ordered.{Stage, Early, Since}
use Rattle.course_laws.specs.Laws.{IsByConflict}
use Rattle.course_laws.proofs.Certifying.{own_decided}
use Rattle.course_laws.proofs.PendingSets.{own_next}
use Rattle.course_laws.proofs.StageMoved.{no_write}
use Rattle.course_laws.proofs.Taking.{taken}
use Rattle.course_laws.proofs.Following.{Follows, stayed, still_follows}

-- ---- a node that is told a verdict stays in its place
at_told : (n : ModelNode) (s : ℕ) (o : Outcome) (t : Live) → (told n s (o, t)).at ≡ n.at
at_told n s Lives t = refl
at_told n s (Ends reply) t = refl

at_verdict : (n : ModelNode) (number : ℕ) (v : Verdict) (o : Option (ℕ × Live))
    → (told_verdict n number v o).at ≡ n.at
at_verdict n number v None = refl
at_verdict n number v (Some e) =
    cond_both (is_sent e.1.status) _ n (λ (m : ModelNode). m.at ≡ n.at)
    (λ _. at_told n e.0 (judged_by number v e.1).0 (judged_by number v e.1).1) (λ _. refl)

at_own : (n : ModelNode) (number : ℕ) (v : Verdict) (o : Option WriteSet)
    → (told_own n number v o).at ≡ n.at
at_own n number v None = refl
at_own n number v (Some w) = at_verdict n number v (session_of n.live w.begin)

at_event : (n : ModelNode) (number : ℕ) (v : Verdict) (e : Event)
    → (told_event n number v e).at ≡ n.at
at_event n number v (event.Write sender body) =
    cond_both (sender == n.at.member) _ n (λ (m : ModelNode). m.at ≡ n.at)
    (λ _. at_own n number v (decoded body)) (λ _. refl)
at_event n number v _ = refl

-- where one is certified
certified_at : (order : List Event) (n : ModelNode) (e : Event)
    → n.at.certified == n.at.taken ≡ false → slice_get order n.at.certified ≡ Some e
    → (certify_step order n).1.at ≡ (with_certified n).at
unfolding certify_step
certified_at order n e more there =
    rw (more, there) (at_event (with_certified n) (n.at.certified + 1) _ e)

-- the write set of the member that stands there
abbrev pub DecidedAt : List Event → ℕ → ℕ → List ℕ → Type 0
DecidedAt order member before body =
    (w : WriteSet) × (decoded body ≡ Some w)
    × IsByConflict (rules.verdict (state_at order before) member w)

module _ (order : List Event) (member : ℕ) where
  -- ---- where all is taken, it is certified up to there
  decided_here : (n : ModelNode) (body : List ℕ) → n.at.certified == n.at.taken ≡ false
      → slice_get order n.at.certified ≡ Some (event.Write n.at.member body)
      → Follows order member n → Stage order n
      → DecidedAt order n.at.member n.at.certified body
  decided_here n body more there h (Early early) =
      absurd (no_write order n h.facts early body there)
  decided_here n body more there h (Since o) =
      let own = own_next order n h.facts body more there in (
        own.set,
        own.read,
        own_decided order n h.facts o more body there own.set own.read,
      )

  decided_from : (k : ℕ) (n : ModelNode) (before : ℕ) (body : List ℕ)
      → n.at.certified + k ≡ before → n.at.taken ≡ length order
      → slice_get order before ≡ Some (event.Write member body) → Follows order member n
      → DecidedAt order member before body
  decided_from zero n before body place all there h =
      let inside = slice_get_within order before (event.Write member body) there in
      let here : before ≡ n.at.certified = omega (arith, place) in
      rw (← h.home, here) (decided_here n body
      (unequal n.at.certified n.at.taken (λ same. omega (arith, same, all, inside, here)))
      (rw (here, ← h.home) at there) h h.stage)
  decided_from (suc k) n before body place all there h =
      let inside = slice_get_within order before (event.Write member body) there in
      let e = some_there order n.at.certified (omega (arith, inside, place)) in
      let at : (certify_step order n).1.at ≡ (with_certified n).at =
      certified_at order n e.0
      (unequal n.at.certified n.at.taken (λ same. omega (arith, same, all, inside, place))) e.1 in
      let certified = ap (λ (x : Progress). x.certified) at in
      decided_from k (certify_step order n).1 before body (omega (arith, certified, place))
      (ap (λ (x : Progress). x.taken) at ∙ all) there
      (still_follows order member (Unit {0}) tt n (certify_step order n).1
      (certify_moves order (Unit {0}) true n) h)

  -- all is taken
  decided_behind : (k : ℕ) (n : ModelNode) → n.at.taken + k ≡ length order
      → n.at.phase ≡ phase.Connected → Follows order member n → (before : ℕ) (body : List ℕ)
      → n.at.certified ≤ before → slice_get order before ≡ Some (event.Write member body)
      → DecidedAt order member before body
  decided_behind zero n place connected h before body above there =
      decided_from (before - n.at.certified) n before body (omega (arith, above))
      (omega (arith, place)) there h
  decided_behind (suc k) n place connected h before body above there =
      let s = stayed order n connected h.place in
      let e = some_there order n.at.taken (omega (arith, place)) in
      let t = taken order n s.in_step s.connected e.0 e.1 in
      let one = still_follows order member (Unit {0}) tt n (take_step order n).1
      (take_moves order (Unit {0}) true n) h in
      decided_behind k (with_taken n t.ordered) (omega (arith, place)) connected
      (subst (λ (x : Answer × ModelNode). Follows order member x.1) t.is one) before body above
      there

  -- each write set of the member behind what its node, which is connected, certified
  pub decided_ahead : (n : ModelNode) → n.at.phase ≡ phase.Connected → Follows order member n
      → (before : ℕ) (body : List ℕ) → n.at.certified ≤ before
      → slice_get order before ≡ Some (event.Write member body)
      → DecidedAt order member before body
  decided_ahead n connected h =
      decided_behind (length order - n.at.taken) n (omega (arith, h.facts.in_order.taken_fits))
      connected h
