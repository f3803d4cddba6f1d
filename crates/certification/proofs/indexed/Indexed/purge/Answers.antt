use Rattle.std.proofs.Common.{sym, subst}
use Rattle.cert_index.specs.Index.{above}
use Rattle.certification.specs.Indexed.{IsIndexed}
use Rattle.certification.proofs.IndexHeld.{indexed-purged}
use Rattle.certification.proofs.indexed.Indexed.purge.Goals as goal

pub invariant_of-self : goal.invariant_of-self
invariant_of-self c =
    let purged = indexed-purged c.args.to c.self.inside.number c.self.inside.commits.items c.self.inside.index c.self.invariant in
    subst (IsIndexed c.self.inside.number c.drop_old.new.commits.items) (sym c.purge.ensures)
    (subst (λ cs. IsIndexed c.self.inside.number cs (above c.args.to c.self.inside.index)) (sym c.drop_old.ensures) purged)
