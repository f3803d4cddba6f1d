-- Each turn puts in the last transaction that is left.
use Rattle.std.proofs.Common.{List, sym, ap, ◌∙◌}
use Rattle.cert_meaning.specs.declared.items.Fragment.{Fragment}
use Rattle.cert_meaning.specs.Extremes.{greater}
use Rattle.cert_meaning.specs.Parts.{open_entry}
use Rattle.cert_meaning.proofs.PutLemmas.{put_all, put_all-empty, put_all-last}
use Rattle.sr_fragments.specs.HeldIndex.{found}
use Rattle.sr_fragments.specs.OpenSet.{Open, fragments_in, latest, latest_at, stands_of}
use Rattle.sr_fragments.proofs.IndexLemmas.{latest-closed, latest-empty, latest-put}
use Rattle.sr_fragments.proofs.open_set.OpenSet.of.Goals as goal

pub loop-item-init : goal.loop-item-init
loop-item-init c = record {
  open_trx =
      ap (λ items. put_all open_entry items c.new-open.result) c.into_vec-left.ensures
      ∙ ap (put_all open_entry c.args.items) c.new-open.ensures
      ∙ put_all-empty open_entry c.args.items;
  index = record {
    is_index = c.new-index.ensures.index;
    same = λ p. c.new-index.ensures.none p ∙ sym (latest-empty p)
        ∙ ap (λ (open_trx : Open). latest_at p.spot (fragments_in open_trx p.trx))
        (sym c.new-open.ensures);
  };
}

pub loop-item-preserved : goal.loop-item-preserved
loop-item-preserved c =
    let front = c.pop.new.self.items in
    let item = c.in-Some.item in
    let was = c.loop-item.open in
    record {
      open_trx =
          ap (put_all open_entry front) c.in_ok-put.ensures
          ∙ sym (put_all-last open_entry front item was)
          ∙ ap (λ items. put_all open_entry items was) (sym c.in-Some.ensures.items)
          ∙ c.loop-item.invariant.open_trx;
      index = record {
        is_index = c.in_ok-add_all.ensures.index;
        same = λ p.
            c.in_ok-add_all.ensures.found p
            ∙ ap (λ (fragments : List Fragment). greater (found c.forget_all.new.index p)
            (latest (stands_of item.trx p) fragments)) c.as_slice.ensures
            ∙ ap (λ o. greater o (latest (stands_of item.trx p) item.fragments))
            (c.forget_all.ensures.found p
            ∙ latest-closed was item.trx p _ (found c.loop-item.index p) c.fragments.ensures
            (c.loop-item.invariant.index.same p))
            ∙ latest-put was item.trx p item.fragments
            ∙ ap (λ (open_trx : Open). latest_at p.spot (fragments_in open_trx p.trx))
            (sym c.in_ok-put.ensures);
      };
    }
