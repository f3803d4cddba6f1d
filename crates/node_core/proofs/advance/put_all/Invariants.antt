use Rattle.std.proofs.Common.{◌≡◌, ◌≤◌, ◌+◌, take}
use Rattle.apply_unit.specs.Results.{put_all}
use Rattle.node_core.proofs.advance.put_all.Given as goal

abbrev pub invariant-loop-id : goal.invariant-loop-id
invariant-loop-id l =
    (l.rows.committed ≡ put_all (take l.id-index l.results) l.initial.rows.committed)
    × (l.rows.changes ≡ l.initial.rows.changes)
    × (l.initial.rows.spare ≤ l.rows.spare + l.id-index)
