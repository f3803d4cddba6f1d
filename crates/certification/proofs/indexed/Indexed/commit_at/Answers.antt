use Rattle.std.proofs.Common.{◌<◌, Some, length, rules, sym, ap, ◌∙◌, arith}
use Rattle.std.proofs.lemmas.Grind.{common_steps}
use Rattle.std.proofs.lemmas.List.Sorted.{answers_always}
use Rattle.cert_meaning.specs.declared.items.CommitItem.{CommitItem}
use Rattle.cert_meaning.specs.State.{FoldState, commit_numbered}
use Rattle.certification.proofs.CommitsFound.{searched-found, searched-nowhere}
use Rattle.certification.proofs.indexed.Indexed.commit_at.Goals as goal

-- the closure gives a commit's number
pub returns-in-Ok : goal.returns-in-Ok
returns-in-Ok c =
    let equal = c.in-Ok.ensures.position (λ (commit : CommitItem). commit.number) (answers_always _ _ _ (λ f a r g called. search rules)) in
    let bound = c.in-Ok.ensures.bound in
    let cs = c.self.inside.commits.items in
    let within : c.in-Ok.at < length cs = grind (arith, common_steps, bound) in
    ap (λ (commit : CommitItem). Some commit) c.index.ensures
    ∙ sym (searched-found c.self.inside.number cs c.self.invariant.rise c.args.number c.in-Ok.at c.index.result.now within equal)
    ∙ ap (λ (s : FoldState). commit_numbered c.args.number s.commits) c.self.view_is

pub returns-in-Err : goal.returns-in-Err
returns-in-Err c =
    let parted = c.in-Err.ensures.position (λ (commit : CommitItem). commit.number) (answers_always _ _ _ (λ f a r g called. search rules)) in
    sym (searched-nowhere c.self.inside.number c.self.inside.commits.items c.self.invariant.rise c.args.number c.in-Err.field-0 parted)
    ∙ ap (λ (s : FoldState). commit_numbered c.args.number s.commits) c.self.view_is
