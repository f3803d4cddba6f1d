use Rattle.std.proofs.Common.{◌≡◌, map}
use Rattle.finite_map.specs.FiniteMap.{values}
use Rattle.wsrep_base.specs.Trx.{least}
use Rattle.cert_meaning.specs.declared.members.Standing.{Standing}
use Rattle.cert_meaning.specs.Extremes.{lesser}
use Rattle.view_change.proofs.standings.Standings.least_report.Given as goal

-- the least so far with that of the reports that are left
abbrev pub invariant-loop-standing : goal.invariant-loop-standing
invariant-loop-standing l =
    lesser l.least (least (map (λ (standing : Standing). standing.report) l.standing-iterator))
    ≡ least (map (λ (standing : Standing). standing.report) (values l.self))
