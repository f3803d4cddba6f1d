-- transactions in order, and the greatest and least of some numbers
use Rattle.std.specs.Prelude.{ℕ, Bool, List, [], ◌∷◌, Option, Some, None, unwrap_or, max, min}
use Rattle.std.specs.declared.cmp.Ordering.{Ordering}
use Rattle.std.specs.Ordering.{nat_cmp, ordering_then, eq_by_cmp}
use Rattle.wsrep_base.specs.declared.ids.TrxId.{TrxId}

-- by member, and then by begin number
abbrev pub trx_cmp : TrxId → TrxId → Ordering
trx_cmp a b = ordering_then (nat_cmp a.member b.member) (nat_cmp a.begin b.begin)

abbrev pub same_trx : TrxId → TrxId → Bool
same_trx = eq_by_cmp trx_cmp

-- the greatest of some numbers, if there is one
abbrev pub greatest : List ℕ → Option ℕ
greatest [] = None
greatest (n ∷ ns) = Some (max n (unwrap_or (greatest ns) n))

-- the least of some numbers, if there is one
abbrev pub least : List ℕ → Option ℕ
least [] = None
least (n ∷ ns) = Some (min n (unwrap_or (least ns) n))
