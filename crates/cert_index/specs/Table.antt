-- The hashed table of the latest commits, which answers what the kept entries say.
use Rattle.std.specs.Prelude.{◌≡◌, ℕ, ◌+◌, ◌<◌, ◌≤◌, nat_le, Bool, false, List, [], ◌∷◌, Option, None, Some, if◌then◌else◌}
use Rattle.std.specs.List.{list_any}
use Rattle.std.specs.Map.{lookup}
use Rattle.key_sets.specs.declared.kind.Kind.{Kind}
use Rattle.key_sets.specs.declared.kind.Kind.TheVariants.{Shared, Update, Exclusive}
use Rattle.key_sets.specs.declared.parts.Parts.{Parts}
use Rattle.key_sets.specs.declared.relation.Relation.{Relation}
use Rattle.key_sets.specs.Keys.{pairs_meet, pairs_of_key}
use Rattle.key_sets.specs.Probes.{kind_test}
use Rattle.cert_index.specs.declared.pair.Pair.{Pair}
use Rattle.cert_index.specs.Index.{Entry, latest}
use Rattle.cert_index.specs.Pairs.{is_at, pair_eq}

-- the numbers rise, from this one on
abbrev pub RiseFrom : ℕ → List Entry → Type 0
RiseFrom least [] = Unit {0}
RiseFrom least (e ∷ es) = (least ≤ e.number) × RiseFrom e.number es

-- the oldest entry, if there is one, is above the number
abbrev pub BeginsAbove : ℕ → List Entry → Type 0
BeginsAbove to [] = Unit {0}
BeginsAbove to (e ∷ es) = to < e.number

-- the numbers rise, and a look-up finds the latest
pub record Finds (table : List (Pair × ℕ)) (entries : List Entry) : Type 0 where
  pub rise : RiseFrom 0 entries
  pub found : (q : Pair) → lookup (pair_eq q) table ≡ latest (is_at q) entries

-- there is a number, and it is not above the other
abbrev pub is_old : ℕ → Option ℕ → Bool
is_old to None = false
is_old to (Some number) = nat_le number to

-- some kind of the entry at these parts passes the test with this kind
abbrev pub pair_meets : (Kind → Kind → Bool) → Parts × Kind → Entry → Bool
pair_meets test pair e = list_any (λ p. pairs_meet test p pair) (pairs_of_key e.key)

-- one where it holds
abbrev pub one_if : Bool → ℕ
one_if b = if b then 1 else 0

-- how many kinds are so related to this one
abbrev pub kinds_met : Relation → Kind → ℕ
kinds_met relation kind =
    one_if (kind_test relation Shared kind)
    + one_if (kind_test relation Update kind)
    + one_if (kind_test relation Exclusive kind)
