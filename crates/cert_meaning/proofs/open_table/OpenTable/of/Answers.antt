-- Each turn puts in the last transaction that is left.
use Rattle.std.proofs.Common.{sym, ap, ◌∙◌}
use Rattle.cert_meaning.specs.Parts.{open_entry}
use Rattle.cert_meaning.proofs.PutLemmas.{put_all, put_all-empty, put_all-last}
use Rattle.cert_meaning.proofs.open_table.OpenTable.of.Goals as goal

pub loop-item-init : goal.loop-item-init
loop-item-init c =
    ap (λ items. put_all open_entry items c.new-table.result) c.into_vec-left.ensures
    ∙ ap (put_all open_entry c.args.items) c.new-table.ensures
    ∙ put_all-empty open_entry c.args.items

pub loop-item-preserved : goal.loop-item-preserved
loop-item-preserved c =
    let front = c.pop.new.self.items in
    ap (put_all open_entry front) c.in_ok-put.ensures
    ∙ sym (put_all-last open_entry front c.in-Some.item c.loop-item.table)
    ∙ ap (λ items. put_all open_entry items c.loop-item.table) (sym c.in-Some.ensures.items)
    ∙ c.loop-item.invariant
