-- More room changes no look-up.
use Rattle.std.proofs.Common.{ap, refl}
use Rattle.std.specs.Prelude.{is_some}
use Rattle.std.specs.Option.{unwrap_or}
use Rattle.row_locks.specs.HolderIndex.{place_at}
use Rattle.row_locks.specs.LockKeys.{key_of}
use Rattle.row_locks.proofs.NumberLemmas.{numbered_along}
use Rattle.row_locks.proofs.holder_index.HolderIndex.reserve.Goals as goal

pub returns-in_err-reserve-clause-index : goal.returns-in_err-reserve-clause-index
returns-in_err-reserve-clause-index c =
    numbered_along _ _ _ _ _ _ c.requires.index
    (λ r. ap (λ o. unwrap_or o 0) (c.reserve.ensures.entries.2 r)) (λ r n. refl) (λ r g. refl)

pub returns-in_err-reserve-2-clause-index : goal.returns-in_err-reserve-2-clause-index
returns-in_err-reserve-2-clause-index c =
    numbered_along _ _ _ _ _ _ c.requires.index
    (λ r. ap (λ o. unwrap_or o 0) (c.reserve.ensures.entries.2 r))
    (λ r n. c.reserve-2.ensures.entries.2 (place_at r n)) (λ r g. refl)

pub returns-clause-index : goal.returns-clause-index
returns-clause-index c =
    numbered_along _ _ _ _ _ _ c.requires.index
    (λ r. ap (λ o. unwrap_or o 0) (c.reserve.ensures.entries.2 r))
    (λ r n. c.reserve-2.ensures.entries.2 (place_at r n))
    (λ r g. c.reserve-3.ensures.entries.2 (key_of g r))

pub returns-clause-same : goal.returns-clause-same
returns-clause-same c k = ap is_some (c.reserve-3.ensures.entries.2 k)
