-- searches among the open transactions
use Rattle.std.specs.Prelude.{◌≡◌, ℕ, false, List, None}
use Rattle.finite_map.specs.FiniteMap.{FiniteMap, get}
use Rattle.wsrep_base.specs.declared.ids.TrxId.{TrxId}
use Rattle.wsrep_base.specs.Trx.{trx_cmp}
use Rattle.cert_meaning.specs.State.{Fragment}
use Rattle.cert_meaning.specs.Fold.{is_of}

-- no transaction is the member's
abbrev pub HasNoneOf : FiniteMap trx_cmp (List Fragment) → ℕ → Type 0
HasNoneOf open_trx member =
    (trx : TrxId) → trx.member ≡ member → get open_trx trx ≡ None

-- no transaction is another member's than these
abbrev pub HasNoneOutside : FiniteMap trx_cmp (List Fragment) → List ℕ → Type 0
HasNoneOutside open_trx members =
    (trx : TrxId) → is_of members trx ≡ false → get open_trx trx ≡ None
