-- One certified event: the node after it stands.
use Rattle.std.proofs.Common.{rules, ◌≡◌, ℕ, ◌+◌, ◌≤◌, ◌<◌, ◌^◌, Bool, true, false, cond, List, take, drop, Option, None, Some, refl, ap, sym, subst, ◌∙◌, arith}
use Rattle.std.specs.Prelude.{◌==◌, slice_get}
use Rattle.std.proofs.lemmas.Bool.{eq-eqb, ne_eqb}
use Rattle.std.proofs.lemmas.Option.{none-some}
use Rattle.wsrep_base.specs.declared.verdict.Verdict.{Verdict}
use Rattle.wsrep_base.specs.declared.verdict.Judged.{Judged}
use Rattle.order_event.specs.declared.event.Event.{Event}
use Rattle.order_event.specs.declared.event.Event.TheVariants as event
use Rattle.order_event.specs.declared.step.Answer.{Answer}
use Rattle.order_event.specs.declared.step.Answer.TheVariants as answer
use Rattle.write_set.specs.declared.write_set.WriteSet.{WriteSet}
use Rattle.write_set.specs.Reading.{decoded}
use Rattle.cert_meaning.proofs.FoldLaws.{some_there}
use Rattle.client_trx.specs.declared.status.Outcome.{Outcome}
use Rattle.client_trx.specs.declared.status.Outcome.TheVariants.{Lives, Ends}
use Rattle.client_trx.specs.Live.{Live, is_sent, judged_by}
use Rattle.certification.specs.Certifies.{ModelCertification, Certifies, CanCertify, IsNext}
use Rattle.node_meaning.specs.declared.progress.Progress.{Progress}
use Rattle.node_meaning.specs.Node.{ModelNode, is_connected}
use Rattle.node_meaning.specs.Steps.{told, told_own, told_verdict, told_event, session_of, verdict_of, certify_event, certify_step}
use Rattle.node_core.specs.declared.node.NodeParts.{NodeParts}
use Rattle.node_core.specs.Certifying.{is_write_of, told_begun, told_if}
use Rattle.certification.specs.Indexed.{begin_in, begin_of}
use Rattle.node_laws.proofs.StepFacts.{certify_keeps}
use Rattle.node_core.specs.Stands.{Stands, Moves, DoneOver, plain_of}
use Rattle.node_core.proofs.Standing.{first_of, dropped_one, serves_by, facts_by}

-- ---- a verdict leaves the progress
verdict_at : (n : ModelNode) (number : ℕ) (v : Verdict) (o : Option (ℕ × Live))
    → (told_verdict n number v o).at ≡ n.at
verdict_at n number v None = refl
verdict_at n number v (Some e) = by (is_sent e.1.status) (judged_by number v e.1)
  where
    by : (b : Bool) (o : Outcome × Live) → (cond b (told n e.0 o) n).at ≡ n.at
    by true (Lives, t) = refl
    by true (Ends reply, t) = refl
    by false o = refl

if_at : (own : Bool) (begin : Option ℕ) (number : ℕ) (v : Verdict) (n : ModelNode)
    → (told_if own begin number v n).at ≡ n.at
if_at true None number v n = refl
if_at true (Some begin) number v n = verdict_at n number v (session_of n.live begin)
if_at false begin number v n = refl

own_is : (n : ModelNode) (number : ℕ) (v : Verdict) (set : Option WriteSet)
    → told_own n number v set ≡ told_begun n number v (begin_of set)
own_is n number v None = refl
own_is n number v (Some w) = refl

event_is : (n : ModelNode) (number : ℕ) (v : Verdict) (e : Event)
    → told_event n number v e ≡ told_if (is_write_of e n.at.member) (begin_in e) number v n
event_is n number v (event.Write member body) =
    ap (λ m. cond (member == n.at.member) m n) (own_is n number v (decoded body))
event_is n number v (event.View version members) = refl
event_is n number v (event.Report member reported) = refl

-- ---- the step
module _ (order : List Event) (old : NodeParts) (stands : Stands order old) where
  -- all that was taken is certified
  pub certify_nothing : old.at.certified ≡ old.at.taken
      → DoneOver order (λ n. certify_step order n) old old answer.Nothing
  unfolding certify_step
  certify_nothing all = record {
    same = rw (eq-eqb old.at.certified old.at.taken all) refl;
    stands = stands;
  }

  module _ (differs : old.at.certified ≡ old.at.taken → ⊥) where
    more : old.at.certified < old.at.taken
    more = let fits = stands.facts.in_order.certified_fits in omega (arith, differs, fits)

    first_is : slice_get old.inbox 0 ≡ slice_get order old.at.certified
    first_is = ap (λ (es : List Event). slice_get es 0) stands.inbox
        ∙ first_of order old.at.certified old.at.taken more

    -- then there is an event
    pub some_first : None ≡ slice_get old.inbox 0 → ⊥
    some_first none =
        let e = some_there order old.at.certified
        (omega (arith, more, stands.facts.in_order.taken_fits)) in
        none-some e.0 (none ∙ first_is ∙ e.1)

    -- and one more number
    pub can_certify : old.at.taken < 2 ^ 64 → CanCertify old.certification
    can_certify small = record {
      order = order;
      committed = old.at.committed;
      certified = old.at.certified;
      certifies = stands.certification;
      fits = omega (arith, more, small);
    }

    step_is : (e : Event) → slice_get order old.at.certified ≡ Some e
        → certify_step order (plain_of old) ≡ certify_event order (plain_of old) (Some e)
    unfolding certify_step
    step_is e there = rw (ne_eqb old.at.certified old.at.taken differs, there) refl

    module _ (e : Event) (here : Some e ≡ slice_get old.inbox 0) (became : Judged)
        (inbox : List Event) (certification : ModelCertification) (new : NodeParts)
        (dropped : inbox ≡ drop 1 old.inbox)
        (certified : Certifies order old.at.committed old.at.certified old.certification
        → old.at.committed ≤ old.at.certified → slice_get order old.at.certified ≡ Some e
        → IsNext order old.at.committed old.at.certified e became certification)
        (moves : Moves (told_if (is_write_of e old.at.member) (begin_in e) (old.at.certified + 1)
        (verdict_of became)) (record old {
          at = record old.at { certified = old.at.certified + 1 };
          inbox = inbox;
          certification = certification;
        }) new) where
      there : slice_get order old.at.certified ≡ Some e
      there = sym (here ∙ first_is)

      next : IsNext order old.at.committed old.at.certified e became certification
      next = certified stands.certification stands.facts.in_order.committed_fits there

      abbrev number : ℕ
      number = old.at.certified + 1

      abbrev counted : ModelNode
      counted = record (plain_of old) { at = record old.at { certified = number } }

      abbrev answered : Judged → Answer × ModelNode
      answered j = (answer.Judged number j, told_event counted number (verdict_of j) e)

      same : (answer.Judged number became, plain_of new) ≡ certify_step order (plain_of old)
      same =
          ap (λ m. (answer.Judged number became, m))
          (moves.plain ∙ sym (event_is counted number (verdict_of became) e))
          ∙ ap answered next.judged ∙ sym (step_is e there)

      new_at : new.at ≡ record old.at { certified = number }
      new_at = ap (λ (m : ModelNode). m.at) moves.plain
          ∙ if_at (is_write_of e old.at.member) (begin_in e) number (verdict_of became) counted

      pub certify_does : DoneOver order (λ n. certify_step order n) old new
          (answer.Judged number became)
      certify_does = record {
        same = same;
        stands = record {
          inbox = moves.inbox ∙ dropped ∙ ap (drop 1) stands.inbox
              ∙ dropped_one order old.at.certified old.at.taken
              ∙ sym (ap (λ (p : Progress). drop p.certified (take p.taken order)) new_at);
          certification = subst (λ (p : Progress). Certifies order p.committed p.certified
              new.certification) (sym new_at)
              (subst (Certifies order old.at.committed number) (sym moves.certification)
              next.certifies);
          tables = moves.tables order (search rules);
          serves = serves_by order old new
              (record { ring = moves.ring.ring; since = moves.ring.since; id = moves.ring.id })
              (ap (λ (p : Progress). p.taken) new_at)
              (λ is. ap (λ (p : Progress). is_connected p.phase) (sym new_at) ∙ is) stands.serves;
          facts = facts_by order (λ n. certify_step order n) old new (answer.Judged number became)
              stands same (certify_keeps order (plain_of old));
        };
      }
