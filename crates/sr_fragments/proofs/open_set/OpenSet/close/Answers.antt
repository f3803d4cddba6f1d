-- What is forgotten is what the transaction had.
use Rattle.std.proofs.Common.{sym, ap, ◌∙◌}
use Rattle.sr_fragments.specs.HeldIndex.{found}
use Rattle.sr_fragments.specs.OpenSet.{Open, fragments_in, latest_at}
use Rattle.sr_fragments.proofs.IndexLemmas.{latest-closed}
use Rattle.sr_fragments.proofs.open_set.OpenSet.close.Goals as goal

pub invariant_of-self : goal.invariant_of-self
invariant_of-self c = record {
  is_index = c.forget_all.ensures.index;
  same = λ p.
      c.forget_all.ensures.found p
      ∙ latest-closed c.self.inside.open c.args.trx p _ (found c.self.inside.index p)
      c.fragments.ensures
      (c.self.invariant.same p)
      ∙ ap (λ (open_trx : Open). latest_at p.spot (fragments_in open_trx p.trx))
      (sym c.close.ensures);
}
