-- Each session up to the last one with keys is gone over.
use Rattle.std.proofs.Common.{◌≡◌, ◌+◌, List, map, sym, ap, ◌∙◌, ◌++◌, arith}
use Rattle.std.specs.Option.{option_to_list}
use Rattle.std.specs.List.{filter_map, range_with_len}
use Rattle.key_sets.specs.declared.kind.Kind.{Kind}
use Rattle.key_sets.specs.declared.parts.Parts.{Parts}
use Rattle.row_locks.specs.declared.holder.Holder.TheVariants.{Session}
use Rattle.row_locks.specs.Locks.{LockState, touching_sessions}
use Rattle.row_locks.specs.LockTable.{touched_session}
use Rattle.row_locks.proofs.SessionLemmas.{touched-more, touched-all}
use Rattle.row_locks.proofs.lock_table.LockTable.touching.Goals as goal

pub loop-session-init : goal.loop-session-init
loop-session-init c = c.new-sessions.ensures.items

pub loop-session-preserved : goal.loop-session-preserved
loop-session-preserved c =
    touched-more c.args.self.now.locks c.args.keys.now.entries c.loop-session.session _ _ c.loop-session.invariant
    (c.in_ok-add_touched.ensures
    ∙ ap (λ (list : List (Parts × Kind)). c.loop-session.sessions.items ++ option_to_list (touched_session c.args.self.now.locks list (Session c.loop-session.session)))
    c.as_slice-list.ensures)

pub returns : goal.returns
returns c =
    let at : c.loop-session.session ≡ c.self.inside.last_session = omega (arith, c.loop-session-test.false, c.loop-session.auto.session-end) in
    let all =
    touched-more c.args.self.now.locks c.args.keys.now.entries c.self.inside.last_session _ _
    (c.loop-session.invariant
    ∙ ap (λ n. filter_map (touched_session c.args.self.now.locks c.args.keys.now.entries) (map Session (range_with_len 0 n))) at)
    (c.in_ok-add_touched-2.ensures
    ∙ ap (λ (list : List (Parts × Kind)). c.loop-session.sessions.items ++ option_to_list (touched_session c.args.self.now.locks list (Session c.self.inside.last_session)))
    c.as_slice-list.ensures) in
    c.from.ensures ∙ all
    ∙ ap (λ (s : LockState). filter_map (touched_session s.locks c.args.keys.now.entries) (map Session (range_with_len 0 (c.self.inside.last_session + 1)))) (sym c.self.view_is)
    ∙ touched-all c.self.inside.locks.entries c.self.inside.last_session c.args.keys.now c.self.invariant.sessions
    ∙ ap (λ (s : LockState). touching_sessions s.locks c.args.keys.now) c.self.view_is
