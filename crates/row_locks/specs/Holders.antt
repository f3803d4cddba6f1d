-- Who holds keys, in order: sessions, then units, each by number.
use Rattle.std.specs.Prelude.{◌≡◌, ℕ, zero, suc, Bool, refl}
use Rattle.std.specs.Coded.{Coded, code_by, coded×, coded_ℕ}
use Rattle.std.specs.Ordering.{nat_cmp, eq_by_cmp}
use Rattle.std.specs.declared.cmp.Ordering.{Ordering}
use Rattle.std.specs.declared.cmp.Ordering.TheVariants.{Less, Greater}
use Rattle.row_locks.specs.declared.holder.Holder.{Holder}
use Rattle.row_locks.specs.declared.holder.Holder.TheVariants.{Session, Unit}

-- sessions, then units, each by number
abbrev pub holder_cmp : Holder → Holder → Ordering
holder_cmp (Session a) (Session b) = nat_cmp a b
holder_cmp (Session a) (Unit b) = Less
holder_cmp (Unit a) (Session b) = Greater
holder_cmp (Unit a) (Unit b) = nat_cmp a b

-- whether two holders are the same
abbrev pub same_holder : Holder → Holder → Bool
same_holder = eq_by_cmp holder_cmp

-- a holder as the number of its variant and its own
abbrev pub holder_pair : Holder → ℕ × ℕ
holder_pair (Session n) = (0, n)
holder_pair (Unit n) = (1, n)

-- the holder of these numbers
abbrev pub holder_at : ℕ → ℕ → Holder
holder_at zero n = Session n
holder_at (suc k) n = Unit n

pub holder_back : (h : Holder) → holder_at (holder_pair h).0 (holder_pair h).1 ≡ h
holder_back (Session n) = refl
holder_back (Unit n) = refl

-- a holder is stored as that pair
abbrev pub coded_holder : Coded Holder
coded_holder =
    code_by (ℕ × ℕ) (coded× coded_ℕ coded_ℕ) holder_pair (λ p. holder_at p.0 p.1) holder_back
