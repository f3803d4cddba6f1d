-- A statement that nothing hinders but its transaction's size.
use Rattle.std.proofs.Common.{sym, subst}
use Rattle.finite_map.specs.FiniteMap.{get}
use Rattle.node_meaning.specs.Client.{statement}
use Rattle.node_core.specs.Stands.{DoneOver}
use Rattle.node_core.proofs.Statements.{asked_for, grown_too_large, grown_stands}
use Rattle.node_core.proofs.node.NodeParts.accept.Goals as goal

pub returns-in-TooLarge-clause-ok : goal.returns-in-TooLarge-clause-ok
returns-in-TooLarge-clause-ok c order st =
    grown_too_large order c.args.self.now c.make_room.new.self c.extend.new.self c.args.session
    c.args.id.now c.args.kind c.args.change c.args.met c.requires.met st c.requires.free
    c.make_room.ensures.same c.in_ok-told.told c.parts_of-parts.result c.parts_of-parts.ensures
    c.in_ok-told.ensures.ok c.in-TooLarge.is

pub returns-in_default-clause-ok : goal.returns-in_default-clause-ok
returns-in_default-clause-ok c order st =
    let s = c.args.session in
    let asked = asked_for c.args.id.now c.args.kind c.args.change in
    subst (DoneOver order (λ n. statement order n s (get n.live s) asked) c.args.self.now
    c.hold.new.self) (sym c.reply_after.ensures)
    (grown_stands order c.args.self.now c.make_room.new.self c.extend.new.self s c.args.id.now
    c.args.kind c.args.change c.args.met c.requires.met st c.requires.free
    c.make_room.ensures.same c.in_ok-told.told c.parts_of-parts.result c.parts_of-parts.ensures
    c.in_ok-told.ensures.ok
    c.in_default.not-TooLarge c.in_ok-make_room.ensures.rows c.hold.new.self c.hold.ensures.others
    c.hold.ensures.locks c.hold.ensures.changes c.hold.ensures.committed c.hold.ensures.spare
    (record {
      names = c.requires.names;
      key = c.requires.change;
      place = c.place_in_range.ensures;
      change = c.change_in_range.ensures;
    })
    c.progress_in_range.ensures c.requires.running)
