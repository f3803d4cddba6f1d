-- Each turn adds one fragment more.
use Rattle.std.proofs.Common.{◌&&◌, cond, Some, ap, ◌∙◌}
use Rattle.cert_meaning.specs.declared.items.Fragment.{Fragment}
use Rattle.sr_fragments.specs.HeldIndex.{found, is_place, is_rising}
use Rattle.sr_fragments.proofs.IndexLemmas.{latest-more}
use Rattle.sr_fragments.proofs.open_set.parts.add_all.Goals as goal

pub loop-fragment-preserved : goal.loop-fragment-preserved
loop-fragment-preserved c = record {
  index = c.in_ok-add.ensures.index;
  found = λ p.
      let old = found c.loop-fragment.index p in
      latest-more c.args.trx p c.args.fragments.now c.loop-fragment.fragment-index
      c.fragment-item.result (found c.args.index.now p) old _ c.loop-fragment-test.true
      (c.loop-fragment.invariant.found p)
      (c.in_ok-add.ensures.found p
      ∙ ap (λ (f : Fragment). cond (is_place c.args.trx f.keys.entries p
      && is_rising f.number old) (Some f.number) old) c.fragment-item.is);
}
