use Rattle.std.proofs.Common.{◌≡◌}
use Rattle.std.specs.FinMap.Entries.{find}
use Rattle.finite_map.specs.FiniteMap.{get}
use Rattle.wsrep_base.specs.declared.ids.TrxId.{TrxId}
use Rattle.wsrep_base.specs.Trx.{trx_cmp}
use Rattle.cert_meaning.proofs.open_table.OpenTable.one_of.Given as goal

-- the member's transactions are among those that are left
abbrev pub invariant-loop-trx : goal.invariant-loop-trx
invariant-loop-trx l =
    (trx : TrxId) → trx.member ≡ l.member → find trx_cmp trx l.trx-iterator ≡ get l.self trx
