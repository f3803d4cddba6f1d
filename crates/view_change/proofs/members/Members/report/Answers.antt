-- A report that counts is not below the last one.
use Rattle.std.proofs.Common.{◌≡◌, ◌≤◌, sym, subst, ap, ◌∙◌}
use Rattle.cert_meaning.specs.Fold.{floor_over}
use Rattle.view_change.specs.Membership.{Membership}
use Rattle.view_change.proofs.FloorLemmas.{taken_rises}
use Rattle.view_change.proofs.members.Members.report.Goals as goal

pub returns-then-taken-clause-rises : goal.returns-then-taken-clause-rises
returns-then-taken-clause-rises c =
    let floor = c.self.inside.floor in
    let old : Membership = record { members = c.self.inside.standings; floor = floor } in
    let taken = sym c.takes-taken.ensures ∙ c.if-taken.true in
    let rises = taken_rises old c.args.n c.args.member c.args.r c.self.invariant taken in
    let is : c.floor-self-inside.result ≡ _ =
    c.floor-self-inside.ensures ∙ ap (λ members. floor_over members floor) c.set_report.ensures in
    let same : floor ≡ c.args.self.now.floor = ap (λ (m : Membership). m.floor) c.self.view_is in
    subst (λ n. n ≤ c.floor-self-inside.result) same (subst (λ n. floor ≤ n) (sym is) rises)
