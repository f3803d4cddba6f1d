-- The rows change at commits alone.
use Rattle.std.proofs.Common.{◌≡◌, ◌≢◌, ℕ, List, [], Option, None, Some, refl, ap, sym, ◌∙◌}
use Rattle.std.specs.Prelude.{unwrap_or}
use Rattle.wsrep_base.specs.declared.verdict.Verdict.{Verdict}
use Rattle.wsrep_base.specs.declared.verdict.Verdict.TheVariants as verdict
use Rattle.wsrep_base.specs.declared.verdict.Judged.{Judged}
use Rattle.wsrep_base.specs.declared.verdict.Judged.TheVariants as became
use Rattle.row_model.specs.Rows.{ops_on}
use Rattle.order_event.specs.declared.event.Event.{Event}
use Rattle.order_event.specs.declared.event.Event.TheVariants.{Write, View, Report}
use Rattle.write_set.specs.declared.write_set.WriteSet.{WriteSet}
use Rattle.write_set.specs.Reading.{decoded}
use Rattle.cert_meaning.specs.State.{FoldState}
use Rattle.cert_meaning.specs.Fold.{effect_of, state_at, judged, judged_write, ops_by, ops_written, committed_ops, ops_of}
use Rattle.cert_meaning.specs.Changes.{CommitsChangeRows, NothingElseDoes}
use Rattle.cert_meaning.proofs.FoldLaws.{rows-next}

-- what became of bytes that spell this write set
judged-of : (s : FoldState) (member : ℕ) (body : List ℕ) (w : WriteSet) → decoded body ≡ Some w
    → judged s (Write member body) ≡ judged_write s member (Some w)
unfolding judged
judged-of s member body w is = ap (judged_write s member) is

ops-of : (s : FoldState) (member : ℕ) (body : List ℕ) (w : WriteSet) → decoded body ≡ Some w
    → ops_of s (Write member body) ≡ unwrap_or (ops_by s w (effect_of (judged_write s member (Some w)))) []
unfolding committed_ops
ops-of s member body w is = ap (λ o. unwrap_or (ops_written s member o) []) is

pub commits_change : CommitsChangeRows
commits_change order n member body w there is commit =
    let s = state_at order n in
    rows-next order n (Write member body) there
    ∙ ap (λ ops. ops_on ops s.rows) (ops-of s member body w is ∙ ap (λ j. unwrap_or (ops_by s w (effect_of j)) [])
    (sym (judged-of s member body w is) ∙ commit))

-- what did not commit committed no changes
none_failed : (s : FoldState) (w : WriteSet) (v : Verdict) → unwrap_or (ops_by s w (effect_of (became.Fail v))) [] ≡ []
none_failed s w verdict.Pass = refl
none_failed s w verdict.Malformed = refl
none_failed s w verdict.Stranger = refl
none_failed s w verdict.Repeat = refl
none_failed s w verdict.Future = refl
none_failed s w verdict.Stale = refl
none_failed s w verdict.Broken = refl
none_failed s w (verdict.Conflict v) = refl
none_failed s w (verdict.Held v) = refl

none_by : (s : FoldState) (w : WriteSet) (j : Judged) → j ≢ became.Commit → unwrap_or (ops_by s w (effect_of j)) [] ≡ []
none_by s w became.View idle = refl
none_by s w became.Report idle = refl
none_by s w became.Commit idle = absurd (idle refl)
none_by s w became.Fragment idle = refl
none_by s w became.Rollback idle = refl
none_by s w (became.Fail v) idle = none_failed s w v

none_spelled : (s : FoldState) (member : ℕ) (o : Option WriteSet) → judged_write s member o ≢ became.Commit
    → unwrap_or (ops_written s member o) [] ≡ []
none_spelled s member None idle = refl
none_spelled s member (Some w) idle = none_by s w (judged_write s member (Some w)) idle

none_of : (s : FoldState) (e : Event) → judged s e ≢ became.Commit → ops_of s e ≡ []
unfolding judged committed_ops
none_of s (Write member body) idle = none_spelled s member (decoded body) idle
none_of s (View version members) idle = refl
none_of s (Report member number) idle = refl

pub nothing_else : NothingElseDoes
unfolding ops_on
nothing_else order n e there idle =
    rows-next order n e there ∙ ap (λ ops. ops_on ops (state_at order n).rows) (none_of (state_at order n) e idle)
