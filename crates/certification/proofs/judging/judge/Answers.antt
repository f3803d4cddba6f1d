-- Each turn certifies and commits the first event that is left.
use Rattle.std.proofs.Common.{◌≡◌, ◌+◌, ℕ, List, [], ◌∷◌, ◌++◌, Some, drop, get_or, length, refl, sym, ap, ◌∙◌, arith, add-one, append-nil, append_assoc}
use Rattle.std.specs.Prelude.{slice_get}
use Rattle.std.proofs.Math.Seq.{drop-cons}
use Rattle.std.proofs.lemmas.List.{drop_all}
use Rattle.std.proofs.lemmas.Option.{slice_get_read}
use Rattle.wsrep_base.specs.declared.verdict.Judged.{Judged}
use Rattle.order_event.specs.declared.event.Event.{Event}
use Rattle.cert_meaning.specs.State.{no_events}
use Rattle.cert_meaning.specs.Fold.{judged, judged_all, state_at}
use Rattle.cert_meaning.proofs.FoldLaws.{state_at-next}
use Rattle.certification.proofs.judging.judge.Goals as goal

-- one more is judged
one_more : (events : List Event) (n : ℕ) (e : Event) (list more : List Judged) (j : Judged) → slice_get events n ≡ Some e
    → drop n events ≡ e ∷ drop (n + 1) events → j ≡ judged (state_at events n) e → more ≡ list ++ j ∷ []
    → list ++ judged_all (state_at events n) (drop n events) ≡ judged_all no_events events
    → more ++ judged_all (state_at events (n + 1)) (drop (n + 1) events) ≡ judged_all no_events events
unfolding judged_all
one_more events n e list more j there left is grown same =
    let rest = drop (n + 1) events in
    ap (λ (js : List Judged). js ++ judged_all (state_at events (n + 1)) rest) grown
    ∙ append_assoc list (j ∷ []) (judged_all (state_at events (n + 1)) rest)
    ∙ ap (λ tail. list ++ tail)
    ((λ i. is i ∷ judged_all (state_at-next events n e there i) rest) ∙ ap (judged_all (state_at events n)) (sym left))
    ∙ same

pub loop-event-init : goal.loop-event-init
unfolding state_at
loop-event-init c = record {
  number = refl;
  certifies = c.in_ok-part.ensures c.args.events.now;
  same = ap (λ (list : List Judged). list ++ judged_all no_events c.args.events.now) c.new-list.ensures;
}

pub loop-event-preserved : goal.loop-event-preserved
loop-event-preserved c =
    let events = c.args.events.now in
    let i = c.loop-event.event-index in
    let n = c.loop-event.number in
    let e = c.event-item.result in
    let at : n ≡ i = c.loop-event.invariant.number in
    let there : slice_get events n ≡ Some e =
    slice_get_read events (length events) n e refl (let below = c.loop-event-test.true in omega (arith, below, at))
    (c.event-item.is ∙ ap (λ k. get_or events k e) (sym at)) in
    let left : drop n events ≡ e ∷ drop (n + 1) events =
    drop-cons events n e (let below = c.loop-event-test.true in omega (arith, below, at))
    ∙ ap (λ k. get_or events n e ∷ drop k events) (sym (add-one n))
    ∙ ap (λ (event : Event). event ∷ drop (n + 1) events) (sym (c.event-item.is ∙ ap (λ k. get_or events k e) (sym at))) in
    let next = c.in_ok-certify.ensures.ok events n n c.loop-event.invariant.certifies (omega arith) there in
    record {
      number = ap (λ k. k + 1) at;
      certifies = c.commit.ensures.certifies events n (n + 1) next.certifies refl;
      same = one_more events n e c.loop-event.list c.push.new.self c.in_ok-certify.field-0.judged there left next.judged
          c.in_ok-push.ensures.ok c.loop-event.invariant.same;
    }

pub returns : goal.returns
unfolding judged_all
returns c =
    let events = c.args.events.now in
    let n = c.loop-event.number in
    let at : n ≡ c.loop-event.event-index = c.loop-event.invariant.number in
    sym (append-nil c.loop-event.list)
    ∙ ap (λ (left : List Event). c.loop-event.list ++ judged_all (state_at events n) left)
    (sym (drop_all n events (let end = c.loop-event-test.false in omega (arith, end, at))))
    ∙ c.loop-event.invariant.same
