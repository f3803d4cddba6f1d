-- Each turn judges the first event that is left.
use Rattle.std.proofs.Common.{◌≡◌, ◌+◌, List, [], ◌∷◌, ◌++◌, drop, get_or, sym, ap, ◌∙◌, add-one, append-nil, append_assoc}
use Rattle.std.proofs.Math.Seq.{drop-cons}
use Rattle.std.proofs.lemmas.List.{drop_all}
use Rattle.wsrep_base.specs.declared.verdict.Judged.{Judged}
use Rattle.order_event.specs.declared.event.Event.{Event}
use Rattle.cert_meaning.specs.State.{FoldState, no_events}
use Rattle.cert_meaning.specs.Fold.{judged_all}
use Rattle.cert_meaning.proofs.FoldLaws.{number-after}
use Rattle.cert_meaning.proofs.judging.verdicts.Goals as goal

pub loop-event-init : goal.loop-event-init
unfolding no_events
loop-event-init c = record {
  same = ap (λ (list : List Judged). list ++ judged_all c.in_ok-state.state c.args.events.now) c.new-list.ensures
      ∙ ap (λ (s : FoldState). judged_all s c.args.events.now) c.in_ok-state.ensures.state;
  number = ap (λ (s : FoldState). s.number) c.in_ok-state.ensures.state;
}

pub loop-event-preserved : goal.loop-event-preserved
unfolding judged_all
loop-event-preserved c =
    let events = c.args.events.now in
    let i = c.loop-event.event-index in
    let rest = drop (i + 1) events in
    let left : drop i events ≡ c.event-item.result ∷ rest =
    drop-cons events i c.event-item.result c.loop-event-test.true
    ∙ ap (λ n. get_or events i c.event-item.result ∷ drop n events) (sym (add-one i))
    ∙ ap (λ (event : Event). event ∷ drop (i + 1) events) (sym c.event-item.is) in
    record {
      same = ap (λ (list : List Judged). list ++ judged_all c.step.new.self rest) c.in_ok-push.ensures.ok
          ∙ append_assoc c.loop-event.list (c.in_ok-step.field-0 ∷ []) (judged_all c.step.new.self rest)
          ∙ ap (λ tail. c.loop-event.list ++ tail)
          ((λ j. c.in_ok-step.ensures.judged j ∷ judged_all (c.in_ok-step.ensures.state j) rest)
          ∙ ap (judged_all c.loop-event.state) (sym left))
          ∙ c.loop-event.invariant.same;
      number = ap (λ (s : FoldState). s.number) c.in_ok-step.ensures.state
          ∙ number-after c.loop-event.state c.event-item.result ∙ ap (λ n. n + 1) c.loop-event.invariant.number;
    }

pub returns : goal.returns
unfolding judged_all
returns c =
    sym (append-nil c.loop-event.list)
    ∙ ap (λ (left : List Event). c.loop-event.list ++ judged_all c.loop-event.state left)
    (sym (drop_all c.loop-event.event-index c.args.events.now c.loop-event-test.false))
    ∙ c.loop-event.invariant.same
