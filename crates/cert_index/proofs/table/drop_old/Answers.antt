-- The oldest entries go until one is above the number; then all are.
use Rattle.std.proofs.Common.{◌≡◌, ◌∷◌, sym, ap, subst, ◌∙◌}
use Rattle.std.specs.Map.{lookup}
use Rattle.cert_index.specs.Index.{above, latest}
use Rattle.cert_index.specs.Pairs.{is_at, pair_eq}
use Rattle.cert_index.specs.Table.{Finds, RiseFrom}
use Rattle.cert_index.proofs.TableLemmas.{above-all, above-next, left, left-all, left-latest, left-next, rise-weaker}
use Rattle.cert_index.proofs.table.drop_old.Goals as goal

pub loop-entry-preserved : goal.loop-entry-preserved
loop-entry-preserved c =
    let e = c.in-Some.entry in
    let to = c.args.to in
    let es = c.take_old.new.kept.items in
    let was : c.loop-entry.kept.items ≡ e ∷ es = c.in-Some.ensures.taken in
    let rise = subst (RiseFrom 0) was c.loop-entry.invariant.rise in
    record {
      kept = sym (above-next to e es c.in-Some.ensures.old) ∙ ap (above to) (sym was) ∙ c.loop-entry.invariant.kept;
      rise = rise-weaker 0 e.number es rise.0 rise.1;
      found = λ q.
          left-next to e es q (lookup (pair_eq q) c.loop-entry.latest.entries) _ c.in-Some.ensures.old (c.drop_key.ensures q)
          ∙ ap (λ xs. left to xs q (lookup (pair_eq q) c.loop-entry.latest.entries)) (sym was)
          ∙ c.loop-entry.invariant.found q;
    }

pub returns-clause-kept : goal.returns-clause-kept
returns-clause-kept c =
    c.in_default.ensures.unchanged
    ∙ sym (above-all c.args.to 0 c.loop-entry.kept.items c.in_default.ensures.none c.loop-entry.invariant.rise)
    ∙ c.loop-entry.invariant.kept

pub returns-clause-finds : goal.returns-clause-finds
returns-clause-finds c =
    let to = c.args.to in
    let es = c.loop-entry.kept.items in
    let none = c.in_default.ensures.none in
    let rise = c.loop-entry.invariant.rise in
    subst (Finds c.loop-entry.latest.entries) (sym c.in_default.ensures.unchanged)
    (record {
      rise = rise;
      found = λ q.
          sym (left-all to 0 q es (lookup (pair_eq q) c.loop-entry.latest.entries) none rise)
          ∙ c.loop-entry.invariant.found q
          ∙ ap (left to c.args.kept.now.items q) (c.requires.found q)
          ∙ left-latest to q c.args.kept.now.items
          ∙ ap (latest (is_at q)) (sym c.loop-entry.invariant.kept ∙ above-all to 0 es none rise);
    })
