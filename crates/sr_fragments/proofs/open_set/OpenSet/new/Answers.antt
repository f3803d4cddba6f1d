-- Nothing is found where none is open.
use Rattle.std.proofs.Common.{sym, ap, ◌∙◌}
use Rattle.sr_fragments.specs.OpenSet.{Open, fragments_in, latest_at}
use Rattle.sr_fragments.proofs.IndexLemmas.{latest-empty}
use Rattle.sr_fragments.proofs.open_set.OpenSet.new.Goals as goal

pub invariant_of-result : goal.invariant_of-result
invariant_of-result c = record {
  is_index = c.new-2.ensures.index;
  same = λ p. c.new-2.ensures.none p ∙ sym (latest-empty p)
      ∙ ap (λ (open_trx : Open). latest_at p.spot (fragments_in open_trx p.trx))
      (sym c.new.ensures);
}
