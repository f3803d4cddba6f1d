-- The new commit has the greatest number.
use Rattle.std.proofs.Common.{◌≡◌, ◌+◌, List, [], ◌∷◌, ◌++◌, sym, ap, subst, ◌∙◌, arith}
use Rattle.cert_meaning.specs.State.{CommitItem, RiseWithin}
use Rattle.cert_meaning.proofs.CommitLaws.{rise-append}
use Rattle.cert_meaning.proofs.state.FoldState.commit.Goals as goal

pub invariant_of-self-2 : goal.invariant_of-self-2
invariant_of-self-2 c =
    let n = c.self.inside.number in
    let old = c.self.inside.commits.items in
    let commit : CommitItem = record { number = n + 1; trx = c.trx_of-trx.result; keys = c.in-Some.keys } in
    let items : c.push.new.self.items ≡ old ++ commit ∷ [] =
    c.in-Ok.ensures.items ∙ ap (λ (commits : List CommitItem). commits ++ commit ∷ []) c.in_ok-reserve.ensures.items in
    subst (RiseWithin 0 (n + 1)) (sym items) (rise-append 0 n old commit (omega arith) (omega arith) c.self.invariant)
