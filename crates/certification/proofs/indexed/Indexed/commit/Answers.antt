-- The new commit has the greatest number, and the index holds those before it.
use Rattle.std.proofs.Common.{◌≡◌, ◌+◌, List, [], ◌∷◌, ◌++◌, sym, ap, subst, ◌∙◌, arith}
use Rattle.std.proofs.lemmas.Grind.{common_steps}
use Rattle.cert_meaning.specs.declared.items.CommitItem.{CommitItem}
use Rattle.cert_index.proofs.HoldLemmas.{finds_touch}
use Rattle.certification.specs.Indexed.{IsIndexed}
use Rattle.certification.proofs.StepLaws.{can_enter, indexed-commit}
use Rattle.certification.proofs.indexed.Indexed.commit.Goals as goal

pub enter-requires : goal.enter-requires
enter-requires c =
    record {
      up_to = can_enter c.self.inside.number (c.self.inside.number + 1) c.self.inside.commits.items c.self.inside.index
          (omega arith) c.self.invariant;
    }

pub invariant_of-self-2 : goal.invariant_of-self-2
invariant_of-self-2 c =
    let n = c.self.inside.number in
    let old = c.self.inside.commits.items in
    let commit : CommitItem = record { number = n + 1; trx = c.trx_of-trx.result; keys = c.in-Some.keys } in
    let items : c.push_back_reserved.new.self.items ≡ old ++ commit ∷ [] =
    c.push_back_reserved.ensures.items ∙ ap (λ (commits : List CommitItem). commits ++ commit ∷ []) c.in_ok-reserve.ensures.items in
    subst (λ commits. IsIndexed (n + 1) commits c.enter.new.self) (sym items)
    (subst (IsIndexed (n + 1) (old ++ commit ∷ [])) (sym c.in_ok-enter.ensures.ok)
    (indexed-commit n old c.self.inside.index commit (omega arith) c.self.invariant))

pub returns-clause-dependency : goal.returns-clause-dependency
returns-clause-dependency c =
    let found = finds_touch c.self.inside.index 0 c.self.inside.commits.items c.in-Some.keys c.self.invariant.holds in
    grind (arith, common_steps, found)
