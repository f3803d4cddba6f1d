-- The three kinds of a key: which two conflict, which two touch, and which is the stronger.
use Rattle.std.specs.Prelude.{◌≡◌, ℕ, zero, suc, Bool, true, false, Option, None, Some, refl}
use Rattle.std.specs.Coded.{Coded, code_by, coded_ℕ}
use Rattle.key_sets.specs.declared.kind.Kind.{Kind}
use Rattle.key_sets.specs.declared.kind.Kind.TheVariants.{Shared, Update, Exclusive}

-- two kinds conflict where one is exclusive or both are update
abbrev pub kinds_conflict : Kind → Kind → Bool
kinds_conflict Exclusive other = true
kinds_conflict Update Shared = false
kinds_conflict Update other = true
kinds_conflict Shared Exclusive = true
kinds_conflict Shared other = false

-- two kinds touch where they are not both shared
abbrev pub kinds_touch : Kind → Kind → Bool
kinds_touch Shared Shared = false
kinds_touch one other = true

-- the stronger of two kinds
abbrev pub stronger : Kind → Kind → Kind
stronger Exclusive other = Exclusive
stronger Update Exclusive = Exclusive
stronger Update other = Update
stronger Shared other = other

-- the kind where there was one or none, once a key of this kind is added
abbrev pub raised : Option Kind → Kind → Kind
raised None kind = kind
raised (Some old) kind = stronger old kind

-- the kind that is there in the union of two sets
abbrev pub joined : Option Kind → Option Kind → Option Kind
joined old None = old
joined old (Some kind) = Some (raised old kind)

-- the place of a kind in rising strength
abbrev pub kind_number : Kind → ℕ
kind_number Shared = 0
kind_number Update = 1
kind_number Exclusive = 2

-- the kind in that place
abbrev pub kind_of : ℕ → Kind
kind_of zero = Shared
kind_of (suc zero) = Update
kind_of (suc (suc n)) = Exclusive

pub kind_back : (k : Kind) → kind_of (kind_number k) ≡ k
kind_back Shared = refl
kind_back Update = refl
kind_back Exclusive = refl

-- a kind is stored as its number
abbrev pub coded_kind : Coded Kind
coded_kind = code_by ℕ coded_ℕ kind_number kind_of kind_back
