-- Each turn puts the last row that is left.
use Rattle.std.proofs.Common.{◌≡◌, ◌≤◌, List, [], ◌∷◌, ◌++◌, length, sym, ap, subst, ◌∙◌, arith, length-append}
use Rattle.finite_map.specs.FiniteMap.{get, get-empty}
use Rattle.row_model.specs.Rows.{row_cmp}
use Rattle.row_model.specs.declared.row.RowItem.{RowItem}
use Rattle.undo_rows.specs.RowTable.{Changes}
use Rattle.cert_meaning.specs.Parts.{row_entry}
use Rattle.cert_meaning.proofs.PutLemmas.{put_all, put_all-empty, put_all-last}
use Rattle.node_core.proofs.receive.put_rows.Goals as goal

pub loop-item-init : goal.loop-item-init
loop-item-init c =
    let rest = ap (λ it. it.iter.rest.now) c.into_iter-item-iterator.ensures.into_iter_gives ∙ ap (λ it. it.rest.now) c.rev-item-items.ensures.source ∙ c.iter.ensures.rest in
    record {
      made = ap (λ items. put_all row_entry items c.args.rows.now.committed) rest
          ∙ ap (put_all row_entry c.args.items.now) c.requires.none
          ∙ put_all-empty row_entry c.args.items.now;
      changes = c.requires.free;
      room = subst (λ (items : List RowItem). length items ≤ c.args.rows.now.spare) (sym rest) c.requires.room;
    }

pub put-requires-clause-spare : goal.put-requires-clause-spare
put-requires-clause-spare c =
    let front = c.next.new.self.iter.rest.now in
    let left : c.loop-item.item-iterator.iter.rest.now ≡ front ++ c.in-Some.item.now ∷ [] = c.in-Some.ensures.steps in
    let count = ap (λ (items : List RowItem). length items) left ∙ length-append front (c.in-Some.item.now ∷ []) in
    omega (arith, c.loop-item.invariant.room, count)

pub put-requires-clause-free : goal.put-requires-clause-free
put-requires-clause-free c =
    ap (λ (changes : Changes). get changes c.in-Some.item.now.id) c.loop-item.invariant.changes
    ∙ get-empty row_cmp c.in-Some.item.now.id

pub loop-item-preserved : goal.loop-item-preserved
loop-item-preserved c =
    let front = c.next.new.self.iter.rest.now in
    let item = c.in-Some.item.now in
    let left : c.loop-item.item-iterator.iter.rest.now ≡ front ++ item ∷ [] = c.in-Some.ensures.steps in
    let count = ap (λ (items : List RowItem). length items) left ∙ length-append front (item ∷ []) in
    record {
      made = ap (put_all row_entry front) c.put.ensures.committed
          ∙ sym (put_all-last row_entry front item c.loop-item.rows.committed)
          ∙ ap (λ items. put_all row_entry items c.loop-item.rows.committed) (sym left)
          ∙ c.loop-item.invariant.made;
      changes = c.put.ensures.changes ∙ c.loop-item.invariant.changes;
      room = omega (arith, c.loop-item.invariant.room, count, c.put.ensures.spare);
    }
