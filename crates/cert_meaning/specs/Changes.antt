-- when the rows change, and by what: nothing of a fragment shows before its transaction's commit
use Rattle.std.specs.Prelude.{◌≡◌, ◌≢◌, ◌+◌, ℕ, List, slice_get, Some}
use Rattle.wsrep_base.specs.declared.verdict.Judged.TheVariants as became
use Rattle.row_model.specs.Rows.{ops_on}
use Rattle.order_event.specs.declared.event.Event.{Event}
use Rattle.order_event.specs.declared.event.Event.TheVariants.{Write}
use Rattle.write_set.specs.declared.write_set.WriteSet.{WriteSet}
use Rattle.write_set.specs.Reading.{decoded}
use Rattle.cert_meaning.specs.State.{fragments_of, whole_ops}
use Rattle.cert_meaning.specs.Verdict.{trx_of}
use Rattle.cert_meaning.specs.Fold.{state_at, judged}

-- a commit that passes changes the rows by the changes of its transaction's fragments, and then by
-- its own
abbrev pub CommitsChangeRows : Type 0
CommitsChangeRows =
    (order : List Event) (n member : ℕ) (body : List ℕ) (w : WriteSet)
    → slice_get order n ≡ Some (Write member body) → decoded body ≡ Some w
    → judged (state_at order n) (Write member body) ≡ became.Commit
    → (state_at order (n + 1)).rows
    ≡ ops_on (whole_ops (fragments_of (state_at order n) (trx_of w)) w.ops) (state_at order n).rows

-- no other event changes them: no fragment, no rollback, no write set that fails
abbrev pub NothingElseDoes : Type 0
NothingElseDoes =
    (order : List Event) (n : ℕ) (e : Event) → slice_get order n ≡ Some e
    → judged (state_at order n) e ≢ became.Commit
    → (state_at order (n + 1)).rows ≡ (state_at order n).rows
