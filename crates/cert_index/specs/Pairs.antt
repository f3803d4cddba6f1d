-- Kinds at parts: when two are the same, and which of them a key has.
use Rattle.std.specs.Prelude.{◌≡◌, ◌==◌, Bool, true, ◌&&◌, refl}
use Rattle.std.proofs.Common.{true≢false, sym}
use Rattle.std.specs.Cmp.{first_so, second_so}
use Rattle.std.specs.Hash.{HashWrites}
use Rattle.std.specs.List.{list_any}
use Rattle.key_sets.specs.contracts.kind.KindPartialEq.TheImpl as derived
use Rattle.key_sets.specs.declared.kind.Kind.{Kind}
use Rattle.key_sets.specs.declared.kind.Kind.TheVariants.{Shared, Update, Exclusive}
use Rattle.key_sets.specs.declared.parts.Parts.{Parts}
use Rattle.key_sets.specs.Keys.{pairs_of_key}
use Rattle.key_sets.specs.Kinds.{kind_number}
use Rattle.key_sets.specs.Parts.{parts_eq, parts_same, parts_writes, same_parts, table_of}
use Rattle.cert_index.specs.declared.entry.Entry.{Entry}
use Rattle.cert_index.specs.declared.pair.Pair.{Pair}

-- whether two kinds are the same
abbrev pub same_kind : Kind → Kind → Bool
same_kind k l = kind_number k == kind_number l

-- what the derived `==` of two kinds computes
abbrev pub kind_eq : Kind → Kind → Bool
kind_eq = derived.eq-value.it

-- what the derived `==` of two pairs computes
abbrev pub pair_eq : Pair → Pair → Bool
pair_eq p q = parts_eq p.parts q.parts && kind_eq p.kind q.kind

-- what a pair feeds a hasher: its names
abbrev pub pair_writes : Pair → HashWrites
pair_writes p = parts_writes p.parts

-- what a key of a row has at its table
abbrev pub table_pair_of : Parts → Pair
table_pair_of p = record { parts = table_of p; kind = Shared }

-- whether the pair is this one
abbrev pub is_pair : Pair → Parts × Kind → Bool
is_pair q p = same_parts p.0 q.parts && same_kind p.1 q.kind

-- whether a key has the pair, by itself or at its table
abbrev pub is_of : Pair → Parts × Kind → Bool
is_of q key = list_any (is_pair q) (pairs_of_key key)

-- whether an entry's key has the pair
abbrev pub is_at : Pair → Entry → Bool
is_at q e = is_of q e.key

kind_same : (k l : Kind) → kind_eq k l ≡ true → k ≡ l
kind_same Shared Shared e = refl
kind_same Shared Update e = absurd (true≢false (sym e))
kind_same Shared Exclusive e = absurd (true≢false (sym e))
kind_same Update Shared e = absurd (true≢false (sym e))
kind_same Update Update e = refl
kind_same Update Exclusive e = absurd (true≢false (sym e))
kind_same Exclusive Shared e = absurd (true≢false (sym e))
kind_same Exclusive Update e = absurd (true≢false (sym e))
kind_same Exclusive Exclusive e = refl

-- `==` tells all pairs apart
pub pair_same : (p q : Pair) → pair_eq p q ≡ true → p ≡ q
pair_same p q e =
    let parts = parts_same p.parts q.parts (first_so _ _ e) in
    let kinds = kind_same p.kind q.kind (second_so (parts_eq p.parts q.parts) _ e) in
    λ i. record { parts = parts i; kind = kinds i }
