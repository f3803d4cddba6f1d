-- The rows of the fold are the changes of the commits that passed, in their order, on no rows.
use Rattle.std.proofs.Common.{◌≡◌, ℕ, zero, suc, ◌+◌, ◌≤◌, List, [], ◌++◌, length, Option, None, Some, refl, ap, sym, subst, ◌∙◌, arith, add-one, append-nil}
use Rattle.std.specs.Prelude.{slice_get, flat_map, unwrap_or}
use Rattle.std.proofs.lemmas.List.Concat.{flat_map-append}
use Rattle.std.proofs.lemmas.List.Sums.{fold-append}
use Rattle.finite_map.specs.FiniteMap.{empty}
use Rattle.row_model.specs.declared.ops.Op.{Op}
use Rattle.row_model.specs.Rows.{Rows, op_on, ops_on}
use Rattle.order_event.specs.declared.event.Event.{Event}
use Rattle.order_event.specs.declared.event.Event.TheVariants.{Write, View, Report}
use Rattle.write_set.specs.declared.write_set.WriteSet.{WriteSet}
use Rattle.write_set.specs.Reading.{decoded}
use Rattle.cert_meaning.specs.declared.items.CommitItem.{CommitItem}
use Rattle.cert_meaning.specs.State.{FoldState, no_events}
use Rattle.cert_meaning.specs.Fold.{Effect, Same, Closes, Adds, Commits, effect_of, judged_write, state_at, ops_by, ops_written, committed_ops, commit_made, commit_written, commit_of}
use Rattle.cert_meaning.proofs.FoldLaws.{some_there, number-at}
use Rattle.cert_meaning.proofs.CommitLaws.{as_list, commits-next, commit-number}
use Rattle.node_meaning.specs.Node.{rows_at}
use Rattle.node_meaning.specs.Units.{ops_at}
use Rattle.node_meaning.specs.Units as units
use Rattle.node_meaning.proofs.UnitLaws.{ops_at-next, rows-event}
use Rattle.galera_run.specs.Headline.{committed_rows}

-- ---- an event that makes no commit changes nothing
none_by : (s : FoldState) (w : WriteSet) (effect : Effect) → commit_made s w effect ≡ None
    → ops_by s w effect ≡ None
none_by s w Same is = refl
none_by s w Closes is = refl
none_by s w Adds is = refl
none_by s w Commits is = absurd cc

none_written : (s : FoldState) (member : ℕ) (o : Option WriteSet)
    → commit_written s member o ≡ None → ops_written s member o ≡ None
none_written s member None is = refl
none_written s member (Some w) is =
    none_by s w (effect_of (judged_write s member (Some w))) is

none_of : (s : FoldState) (e : Event) → commit_of s e ≡ None → committed_ops s e ≡ None
unfolding commit_of committed_ops
none_of s (Write member body) is = none_written s member (decoded body) is
none_of s (View version members) is = refl
none_of s (Report member number) is = refl

-- ---- one event more
ops_on-both : (first second : List Op) (rows : Rows)
    → ops_on (first ++ second) rows ≡ ops_on second (ops_on first rows)
unfolding ops_on
ops_on-both first second rows = fold-append op_on rows first second

module _ (order : List Event) where
  abbrev changes : CommitItem → List Op
  changes c = ops_at order c.number

  module _ (n : ℕ) (fits : suc n ≤ length order) (e : Event)
      (there : slice_get order n ≡ Some e) where
    event_changes : ops_at order (n + 1) ≡ unwrap_or (committed_ops (state_at order n) e) []
    event_changes = ops_at-next order n ∙ ap (units.ops_by (state_at order n)) there

    made_changes : (made : Option CommitItem) → commit_of (state_at order n) e ≡ made
        → flat_map changes (as_list made) ≡ ops_at order (n + 1)
    made_changes None is =
        sym (event_changes ∙ ap (λ o. unwrap_or o []) (none_of (state_at order n) e is))
    made_changes (Some c) is =
        append-nil (ops_at order c.number)
        ∙ ap (ops_at order) (commit-number (state_at order n) e c is
        ∙ ap (λ k. k + 1) (number-at order n (omega (arith, fits))))

    next : rows_at order n ≡ committed_rows order n
        → rows_at order (n + 1) ≡ committed_rows order (n + 1)
    next before =
        let s = state_at order n in
        let more = as_list (commit_of s e) in
        rows-event order n fits
        ∙ ap (ops_on (ops_at order (n + 1))) before
        ∙ ap (λ ops. ops_on ops (committed_rows order n))
        (sym (made_changes (commit_of s e) refl))
        ∙ sym (ops_on-both (flat_map changes s.commits) (flat_map changes more) empty)
        ∙ ap (λ ops. ops_on ops empty) (sym (flat_map-append changes s.commits more))
        ∙ ap (λ cs. ops_on (flat_map changes cs) empty) (sym (commits-next order n e there))

  pub rows_of_commits : (n : ℕ) → n ≤ length order → rows_at order n ≡ committed_rows order n
  unfolding state_at no_events ops_on
  rows_of_commits zero fits = refl
  rows_of_commits (suc n) fits =
      let there = some_there order n fits in
      subst (λ k. rows_at order k ≡ committed_rows order k) (add-one n)
      (next n fits there.0 there.1 (rows_of_commits n (omega (arith, fits))))
