-- Each turn looks at the newest commit that is left.
use Rattle.std.proofs.Common.{◌≡◌, [], ◌∷◌, ◌++◌, sym, ap, subst, ◌∙◌}
use Rattle.cert_meaning.specs.State.{Rise}
use Rattle.cert_meaning.specs.Search.{are_related, greatest_related}
use Rattle.cert_meaning.proofs.ScanLemmas.{rise_front, rise_kept, related-seen, related-found, related-passed, related_true, related_false}
use Rattle.cert_meaning.proofs.search.greatest_related.Goals as goal

pub returns-then-commit-above : goal.returns-then-commit-above
returns-then-commit-above c =
    let front = c.next.new.self.iter.rest.now in
    let left : c.loop-commit.commit-iterator.iter.rest.now ≡ front ++ c.in-Some.commit.now ∷ [] = c.in-Some.ensures.steps in
    let rise = subst Rise left c.loop-commit.invariant.rise in
    sym (sym c.loop-commit.invariant.same
    ∙ ap (λ commits. greatest_related (are_related c.args.relation) commits c.args.above c.args.keys.now) left
    ∙ related-seen (are_related c.args.relation) 0 rise.0 c.args.above front c.in-Some.commit.now c.args.keys.now
    (rise_front 0 rise.0 front c.in-Some.commit.now rise.1) c.if-commit-above.true)

pub returns-then-meet : goal.returns-then-meet
returns-then-meet c =
    let front = c.next.new.self.iter.rest.now in
    let left : c.loop-commit.commit-iterator.iter.rest.now ≡ front ++ c.in-Some.commit.now ∷ [] = c.in-Some.ensures.steps in
    let rise = subst Rise left c.loop-commit.invariant.rise in
    sym (sym c.loop-commit.invariant.same
    ∙ ap (λ commits. greatest_related (are_related c.args.relation) commits c.args.above c.args.keys.now) left
    ∙ related-found (are_related c.args.relation) 0 rise.0 c.args.above front c.in-Some.commit.now c.args.keys.now
    (rise_front 0 rise.0 front c.in-Some.commit.now rise.1)
    (related_true (are_related c.args.relation) c.args.above c.in-Some.commit.now c.args.keys.now c.if-commit-above.false
    (sym c.meet.ensures ∙ c.if-meet.true)))

pub loop-commit-preserved : goal.loop-commit-preserved
loop-commit-preserved c =
    let front = c.next.new.self.iter.rest.now in
    let left : c.loop-commit.commit-iterator.iter.rest.now ≡ front ++ c.in-Some.commit.now ∷ [] = c.in-Some.ensures.steps in
    let rise = subst Rise left c.loop-commit.invariant.rise in
    record {
      same = sym (related-passed (are_related c.args.relation) c.args.above front c.in-Some.commit.now c.args.keys.now
          (related_false (are_related c.args.relation) c.args.above c.in-Some.commit.now c.args.keys.now (sym c.meet.ensures ∙ c.if-meet.false)))
          ∙ ap (λ commits. greatest_related (are_related c.args.relation) commits c.args.above c.args.keys.now) (sym left)
          ∙ c.loop-commit.invariant.same;
      rise = (rise.0, rise_kept 0 rise.0 front c.in-Some.commit.now (rise_front 0 rise.0 front c.in-Some.commit.now rise.1));
    }
