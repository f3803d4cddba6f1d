-- The fragment is the latest at the places where its number rises.
use Rattle.std.proofs.Common.{cond, Some, sym, ap, ◌∙◌}
use Rattle.sr_fragments.specs.HeldIndex.{found, is_in}
use Rattle.sr_fragments.specs.OpenSet.{Open, fragments_in, latest_at}
use Rattle.sr_fragments.proofs.IndexLemmas.{latest-added}
use Rattle.sr_fragments.proofs.open_set.OpenSet.add.Goals as goal

pub invariant_of-self-in-Ok : goal.invariant_of-self-in-Ok
invariant_of-self-in-Ok c = record {
  is_index = c.raise.ensures.index;
  same = λ p.
      let number = c.args.fragment.number in
      let old = found c.self.inside.index p in
      c.raise.ensures.found p
      ∙ ap (cond (is_in p c.as_slice-places.result.now) (Some number)) (c.prepare.ensures.found p)
      ∙ ap (λ places. cond (is_in p places) (Some number) old) c.as_slice-places.ensures.value
      ∙ ap (λ b. cond b (Some number) old) (c.in_ok-places.ensures p)
      ∙ latest-added c.self.inside.open c.args.trx p c.args.fragment old (c.self.invariant.same p)
      ∙ ap (λ (open_trx : Open). latest_at p.spot (fragments_in open_trx p.trx))
      (sym c.in-Ok.ensures.ok);
}
