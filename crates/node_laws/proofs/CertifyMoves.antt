-- Certifying the next event is at most one move.
use Rattle.std.proofs.Common.{◌≡◌, ℕ, ◌+◌, Bool, false, List, [], Option, None, Some, refl, ap, sym, subst, ◌∙◌, eqb→eq, eq-eqb, true≢false}
use Rattle.std.specs.Prelude.{◌==◌, T, slice_get}
use Rattle.std.proofs.lemmas.Option.{same_Some}
use Rattle.wsrep_base.specs.declared.verdict.Verdict.{Verdict}
use Rattle.wsrep_base.specs.declared.verdict.Verdict.TheVariants as verdict
use Rattle.row_model.specs.declared.calls.Reply.TheVariants as reply
use Rattle.order_event.specs.declared.event.Event.{Event}
use Rattle.order_event.specs.declared.event.Event.TheVariants as event
use Rattle.order_event.specs.declared.step.Answer.TheVariants as answer
use Rattle.write_set.specs.declared.write_set.WriteSet.{WriteSet}
use Rattle.write_set.specs.Reading.{decoded}
use Rattle.cert_meaning.specs.Fold.{judged, judged_write, state_at}
use Rattle.client_trx.specs.Live.{Live, is_sent, judged_by}
use Rattle.node_meaning.specs.Node.{ModelNode, set_live, end_with}
use Rattle.node_meaning.specs.Steps.{verdict_of, told, session_of, told_verdict, told_own, certify_event, certify_step}
use Rattle.node_meaning.proofs.CertifyFacts.{verdict_again}
use Rattle.node_meaning.specs.Facts.{IsUndecided}
use Rattle.node_meaning.proofs.EntryLaws.{entry_found, some_not_none}
use Rattle.node_laws.proofs.Moves.{IsJudged, verdict_next, CameFirst, AsCommit, AsFragment, with_certified, Certifies, Passes, Fails, Reaches, Here, one, chosen, picked, to_same}
use Rattle.node_laws.proofs.UnitMoves.{put_again}

module _ (order : List Event) (given : Type 0) (works : Bool) (n : ModelNode)
    (more : n.at.certified == n.at.taken ≡ false) where
  abbrev Undecided : Type 0
  Undecided = (s : ℕ) (t : Live) (body : List ℕ) (w : WriteSet) → IsJudged order n s t body w
      → IsUndecided (verdict_next order n w)

  none_told : (e : Event) → slice_get order n.at.certified ≡ Some e → Undecided
      → Reaches order given works n 0 (with_certified n)
  none_told e there undecided = one 0 n _ (Certifies e (record {
    more = more;
    next = there;
    undecided = undecided;
  }))

  abbrev body_of : Option Event → List ℕ
  body_of None = []
  body_of (Some (event.Write sender body)) = body
  body_of (Some (event.View version members)) = []
  body_of (Some (event.Report sender number)) = []

  abbrev is_own : Option Event → Bool
  is_own None = false
  is_own (Some (event.Write sender body)) = sender == n.at.member
  is_own (Some (event.View version members)) = false
  is_own (Some (event.Report sender number)) = false

  -- an event that is no write set of the member is nobody's here
  none_own : (e : Event) → slice_get order n.at.certified ≡ Some e → is_own (Some e) ≡ false
      → Undecided
  none_own e there alien s t body w h =
      absurd (true≢false (sym (eq-eqb n.at.member n.at.member refl) ∙ ap is_own (sym h.next ∙ there)
      ∙ alien))

  module _ (body : List ℕ) (there : slice_get order n.at.certified
      ≡ Some (event.Write n.at.member body)) where
    same_set : (w : WriteSet) → decoded body ≡ Some w
        → (s : ℕ) (t : Live) (other : List ℕ) (v : WriteSet) → IsJudged order n s t other v → v ≡ w
    same_set w is s t other v h = same_Some v w (sym h.is
        ∙ ap decoded (ap body_of (sym h.next ∙ there)) ∙ is)

    module _ (w : WriteSet) (s : ℕ) (t : Live) (now : IsJudged order n s t body w) where
      same_told : (v : Verdict) → IsUndecided v → verdict_next order n w ≡ v
          → Reaches order given works n 0 (set_live (with_certified n) s t)
      same_told v undecided is =
          to_same 0 n (with_certified n) _ (put_again (with_certified n) s t now.there)
          (none_told _ there (λ o u other x h.
          subst IsUndecided (sym (ap (verdict_next order n) (same_set w now.is o u other x h) ∙ is))
          undecided))

      end_told : (v : ℕ) (x : Verdict) → CameFirst v x → verdict_next order n w ≡ x
          → Reaches order given works n 0 (end_with (with_certified n) s (reply.DeadlockCert v))
      end_told v x first is =
          one 0 n _ (Fails s t body w v now (subst (CameFirst v) (sym is) first))

      verdict_moves : (v : Verdict) → verdict_next order n w ≡ v
          → Reaches order given works n 0 (told (with_certified n) s
          (judged_by (n.at.certified + 1) v t))
      verdict_moves verdict.Pass is = one 0 n _ (Passes s t body w now is)
      verdict_moves verdict.Malformed is = same_told verdict.Malformed tt is
      verdict_moves verdict.Stranger is = same_told verdict.Stranger tt is
      verdict_moves verdict.Repeat is = same_told verdict.Repeat tt is
      verdict_moves verdict.Future is = same_told verdict.Future tt is
      verdict_moves verdict.Stale is = same_told verdict.Stale tt is
      verdict_moves verdict.Broken is = same_told verdict.Broken tt is
      verdict_moves (verdict.Conflict v) is = end_told v (verdict.Conflict v) AsCommit is
      verdict_moves (verdict.Held v) is = end_told v (verdict.Held v) AsFragment is

    -- the session that is found is the one of the write set
    found_same : (w : WriteSet) → decoded body ≡ Some w
        → (s : ℕ) (t : Live) (other : List ℕ) (v : WriteSet) → IsJudged order n s t other v
        → session_of n.live w.begin ≡ Some (s, t)
    found_same w is s t other v h = ap (λ (x : WriteSet). session_of n.live x.begin)
        (sym (same_set w is s t other v h)) ∙ h.found

    found_moves : (w : WriteSet) → decoded body ≡ Some w → (o : Option (ℕ × Live))
        → session_of n.live w.begin ≡ o
        → Reaches order given works n 0 (told_verdict (with_certified n) (n.at.certified + 1)
        (verdict_next order n w) o)
    found_moves w is None found =
        none_told _ there (λ s t other v h. absurd
        (some_not_none (s, t) _ (found_same w is s t other v h) found))
    found_moves w is (Some e) found =
        let entry = entry_found n.live (λ e. e.1.trx.begin == w.begin) e found in
        picked 0 n (is_sent e.1.status) (told (with_certified n) e.0
        (judged_by (n.at.certified + 1) (verdict_next order n w) e.1)) (with_certified n)
        (λ waits.
        verdict_moves w e.0 e.1 (record {
          more = more;
          next = there;
          is = is;
          found = found;
          there = entry.there;
          begin = eqb→eq e.1.trx.begin w.begin (subst T (sym entry.passes) tt);
          waits = waits;
        }) (verdict_next order n w) refl)
        (λ idle. none_told _ there (λ s t other v h.
        let same : (s, t) ≡ e = same_Some (s, t) e (sym (found_same w is s t other v h) ∙ found) in
        absurd (true≢false (sym h.waits ∙ ap (λ (x : ℕ × Live). is_sent x.1.status) same ∙ idle))))

    verdict_is : (w : WriteSet) → decoded body ≡ Some w
        → verdict_of (judged (state_at order n.at.certified) (event.Write n.at.member body))
        ≡ verdict_next order n w
    unfolding judged
    verdict_is w is =
        ap (λ o. verdict_of (judged_write (state_at order n.at.certified) n.at.member o)) is
        ∙ verdict_again w (verdict_next order n w)

    own_moves : (o : Option WriteSet) → decoded body ≡ o
        → Reaches order given works n 0 (told_own (with_certified n) (n.at.certified + 1)
        (verdict_of (judged (state_at order n.at.certified) (event.Write n.at.member body))) o)
    own_moves None is = none_told _ there (λ s t other v h.
        absurd (some_not_none v (decoded other) h.is (ap decoded (ap body_of (sym h.next ∙ there))
        ∙ is)))
    own_moves (Some w) is =
        subst (λ v. Reaches order given works n 0
        (told_own (with_certified n) (n.at.certified + 1) v (Some w))) (sym (verdict_is w is))
        (found_moves w is (session_of n.live w.begin) refl)

  abbrev told_by : ℕ → List ℕ → ModelNode
  told_by sender body =
      told_own (with_certified n) (n.at.certified + 1)
      (verdict_of (judged (state_at order n.at.certified) (event.Write sender body)))
      (decoded body)

  event_moves : (e : Event) → slice_get order n.at.certified ≡ Some e
      → Reaches order given works n 0 (certify_event order n (Some e)).1
  event_moves (event.Write sender body) there =
      picked 0 n (sender == n.at.member) (told_by sender body) (with_certified n)
      (λ own.
      let same : sender ≡ n.at.member = eqb→eq sender n.at.member (subst T (sym own) tt) in
      subst (λ m. Reaches order given works n 0 (told_by m body)) (sym same)
      (own_moves body (there ∙ ap (λ m. Some (event.Write m body)) same) (decoded body) refl))
      (λ alien. none_told _ there (none_own _ there alien))
  event_moves (event.View version members) there = none_told _ there (none_own _ there refl)
  event_moves (event.Report sender number) there = none_told _ there (none_own _ there refl)

  next_moves : (o : Option Event) → slice_get order n.at.certified ≡ o
      → Reaches order given works n 0 (certify_event order n o).1
  next_moves None there = Here
  next_moves (Some e) there = event_moves e there

pub certify_moves : (order : List Event) (given : Type 0) (works : Bool) (n : ModelNode)
    → Reaches order given works n 0 (certify_step order n).1
unfolding certify_step
certify_moves order given works n =
    chosen 0 n (n.at.certified == n.at.taken) (answer.Nothing, n)
    (certify_event order n (slice_get order n.at.certified))
    (λ _. Here) (λ more. next_moves order given works n more (slice_get order n.at.certified) refl)
