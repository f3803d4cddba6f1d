-- Nobody begins below the floor.
use Rattle.std.proofs.Common.{◌≡◌, ◌≤◌, sym, subst, ap, ◌∙◌}
use Rattle.cert_meaning.specs.Fold.{floor_over}
use Rattle.view_change.specs.Membership.{Membership}
use Rattle.view_change.proofs.FloorLemmas.{viewed_rises}
use Rattle.view_change.proofs.members.Members.view.Goals as goal

pub returns-clause-rises : goal.returns-clause-rises
returns-clause-rises c below =
    let floor = c.self.inside.floor in
    let old : Membership = record { members = c.self.inside.standings; floor = floor } in
    let same : floor ≡ c.args.self.now.floor = ap (λ (m : Membership). m.floor) c.self.view_is in
    let behind : floor ≤ c.args.n = subst (λ n. n ≤ c.args.n) (sym same) below in
    let rises = viewed_rises old c.args.n c.args.members.now c.self.invariant behind in
    let is : c.floor-self-inside.result ≡ _ =
    c.floor-self-inside.ensures
    ∙ ap (λ members. floor_over members floor) c.in_ok-standings.ensures in
    subst (λ n. n ≤ c.floor-self-inside.result) same (subst (λ n. floor ≤ n) (sym is) rises)
