use Rattle.std.proofs.Common.{length, subst, sym}
use Rattle.std.specs.Int.{w32, to_be_bytes}
use Rattle.state_snapshot.specs.Spelling.{open_text}
use Rattle.state_snapshot.proofs.Puts.{item_put}
use Rattle.state_snapshot.specs.Rules.{OpenIsCounted}
use Rattle.state_snapshot.proofs.Counts.{at_index}
use Rattle.state_snapshot.proofs.writing.put_open_trx.Goals as goal

pub put_open-requires : goal.put_open-requires
put_open-requires c =
    subst OpenIsCounted (sym c.item-item.is)
    (at_index OpenIsCounted c.args.items.now c.loop-item.item-index c.item-item.result c.requires.each c.loop-item-test.true)

pub loop-item-preserved : goal.loop-item-preserved
loop-item-preserved c =
    item_put open_text c.args.items.now c.loop-item.item-index c.item-item.result c.args.out.now (to_be_bytes w32 (length c.args.items.now)) c.loop-item.out
    c.put_open.new.out c.loop-item-test.true c.item-item.is c.loop-item.invariant c.in_ok-put_open.ensures
