use Rattle.std.proofs.Common.{◌≡◌, false}
use Rattle.std.specs.FinMap.Entries.{find}
use Rattle.finite_map.specs.FiniteMap.{get}
use Rattle.wsrep_base.specs.declared.ids.TrxId.{TrxId}
use Rattle.wsrep_base.specs.Trx.{trx_cmp}
use Rattle.cert_meaning.specs.Fold.{is_of}
use Rattle.cert_meaning.proofs.open_table.OpenTable.one_outside.Given as goal

-- the transactions of other members are among those that are left
abbrev pub invariant-loop-trx : goal.invariant-loop-trx
invariant-loop-trx l =
    (trx : TrxId) → is_of l.members trx ≡ false → find trx_cmp trx l.trx-iterator ≡ get l.self trx
