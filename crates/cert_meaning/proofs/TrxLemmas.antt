-- The order of transactions is total, and tells all of them apart.
use Rattle.std.specs.Prelude.{◌≡◌, ◌&&◌, nat_eq}
use Rattle.std.specs.Ordering.{nat_cmp, eq_by_cmp}
use Rattle.std.specs.Cmp.{IsTotalOrder, then_total, both_tied, unsigned_ties}
use Rattle.std.specs.FinMap.{IsAntisymmetric}
use Rattle.std.proofs.lemmas.Cmp.{nat_cmp_total, on_total}
use Rattle.std.proofs.lemmas.Map.Lookups.{exact_pairs}
use Rattle.std.specs.FinMap.{nat_cmp-IsAntisymmetric}
use Rattle.finite_map.proofs.Edits.{IsKeyOrder}
use Rattle.wsrep_base.specs.declared.ids.TrxId.{TrxId}
use Rattle.wsrep_base.specs.Trx.{trx_cmp}

pub trx_total : IsTotalOrder trx_cmp
trx_total = then_total (on_total (λ (trx : TrxId). trx.member) nat_cmp_total) (on_total (λ (trx : TrxId). trx.begin) nat_cmp_total)

pub trx_exact : IsAntisymmetric trx_cmp
trx_exact a b tied =
    let pairs = exact_pairs nat_cmp nat_cmp nat_cmp-IsAntisymmetric nat_cmp-IsAntisymmetric (a.member, a.begin) (b.member, b.begin) tied in
    λ i. record { member = (pairs i).0; begin = (pairs i).1 }

pub transactions : IsKeyOrder trx_cmp
transactions = record { total = trx_total; exact = trx_exact }

-- what `==` says of two transactions
pub trx_ties : (a b : TrxId) → (nat_eq a.member b.member && nat_eq a.begin b.begin) ≡ eq_by_cmp trx_cmp a b
trx_ties a b = both_tied _ _ _ _ (unsigned_ties a.member b.member) (unsigned_ties a.begin b.begin)
