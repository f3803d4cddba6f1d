-- Each commit is entered behind those in front of it, whose numbers are lower.
use Rattle.std.proofs.Common.{List, ◌++◌, take, ap, sym, subst, ◌∙◌}
use Rattle.cert_meaning.specs.declared.items.CommitItem.{CommitItem}
use Rattle.cert_index.specs.declared.entry.Entry.{Entry}
use Rattle.cert_index.specs.Index.{entered, entries_of, AreUpTo}
use Rattle.certification.proofs.IndexHeld.{entered-next, up_to-at}
use Rattle.certification.proofs.indexed.parts.index_of.Goals as goal

pub enter-requires : goal.enter-requires
enter-requires c =
    let cs = c.args.commits.now in
    let at = c.loop-commit.commit-index in
    let commit = c.commit-item.result in
    record {
      up_to = subst (AreUpTo commit.number) (sym c.loop-commit.invariant)
          (subst (λ (x : CommitItem). AreUpTo x.number (entered (take at cs))) (sym c.commit-item.is)
          (up_to-at 0 c.requires.0 cs at commit c.requires.1 c.loop-commit-test.true));
    }

pub loop-commit-preserved : goal.loop-commit-preserved
loop-commit-preserved c =
    let cs = c.args.commits.now in
    let at = c.loop-commit.commit-index in
    let commit = c.commit-item.result in
    c.in_ok-enter.ensures.ok
    ∙ ap (λ (es : List Entry). es ++ entries_of commit.number commit.keys.entries) c.loop-commit.invariant
    ∙ ap (λ (x : CommitItem). entered (take at cs) ++ entries_of x.number x.keys.entries) c.commit-item.is
    ∙ entered-next cs at commit c.loop-commit-test.true
