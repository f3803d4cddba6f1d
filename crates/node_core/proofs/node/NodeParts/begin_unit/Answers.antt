use Rattle.std.proofs.Common.{arith, fold, length, subst, sym, ap, ◌≡◌, ◌∙◌}
use Rattle.finite_map.specs.FiniteMap.{len, len-entries}
use Rattle.key_sets.specs.Keys.{Keys}
use Rattle.row_locks.specs.declared.holder.Holder.TheVariants.{Unit as UnitHolder}
use Rattle.row_locks.specs.Alike.{HoldAlike, with_held}
use Rattle.node_meaning.specs.Steps.{send_rollback, end_killed}
use Rattle.node_core.specs.declared.node.NodeParts.{NodeParts}
use Rattle.node_core.specs.Stands.{plain_of}
use Rattle.node_core.specs.Starting.{Aborts, with_sent}
use Rattle.node_core.proofs.BeginCalls.{begin_done, can_take_back}
use Rattle.node_core.proofs.node.NodeParts.begin_unit.Goals as goal

pub hold-requires : goal.hold-requires
hold-requires c =
    let held = c.in_ok-held.held in
    let long : length c.as_slice-3.result.now ≡ len held = ap length c.as_slice-3.ensures ∙ sym (len-entries held) in
    let keys : c.len.result ≡ len held = c.len.ensures.count in
    let room = c.in_ok-reserve_unit.ensures.keys in
    let entering : c.enter.new.self.locks.spare ≡ c.reserve_unit.new.self.locks.spare =
    ap (λ (node : NodeParts). node.locks.spare) c.in_ok-enter.ensures.ok in
    let spare = c.kill_all.ensures.spare in
    record { room = omega (arith, long, keys, room, entering, spare) }

pub returns-clause-ok : goal.returns-clause-ok
returns-clause-ok c order can count =
    let number = c.args.number in
    let old = c.args.self.now in
    let mid = c.reserve_unit.new.self in
    let sent = c.in_ok-sent.sent.items in
    let kills = subst (λ (node : NodeParts). Aborts (λ n. fold (end_killed number) n c.in_ok-aborted.aborted) node c.kill_all.new.self)
    c.in_ok-enter.ensures.ok
    (subst (λ s. Aborts (λ n. fold (end_killed number) n s) c.enter.new.self c.kill_all.new.self) c.as_slice-2.ensures c.kill_all.ensures) in
    let sends = subst (λ s. fold send_rollback (plain_of old) s ≡ with_sent (plain_of old) sent) c.as_slice.ensures c.in_ok-sent.ensures.sent in
    begin_done order old mid c.kill_all.new.self number c.args.keys c.args.rows c.in_ok-aborted.aborted sent
    can c.reserve_unit.ensures.same c.reserve_unit.ensures.units sends c.in_ok-aborted.ensures kills
    c.hold.new.self
    (subst (λ list. HoldAlike c.hold.new.self.locks (with_held c.kill_all.new.self.locks.locks (UnitHolder number) list))
    (c.as_slice-3.ensures ∙ ap (λ (keys : Keys). keys.entries) c.in_ok-held.ensures) c.hold.ensures.keys)
    count c.in_ok-reserve_unit.ensures.rows
    (can_take_back old c.progress_in_range.ensures c.few_live.ensures c.requires.serial)
