-- The laws of the relations of kinds and of key sets.
use Rattle.std.specs.Prelude.{◌≡◌, ℕ, Bool, true, ◌||◌, List, Some}
use Rattle.key_sets.specs.declared.kind.Kind.{Kind}
use Rattle.key_sets.specs.declared.parts.Parts.{Parts}
use Rattle.key_sets.specs.Kinds.{stronger}
use Rattle.key_sets.specs.Keys.{Keys, conflicts, union}
use Rattle.key_sets.specs.Meeting.{covers}

-- the relation does not tell the one from the other
abbrev pub IsSymmetric : {A : Type 0} → (A → A → Bool) → Type 0
IsSymmetric {A} relation = (x y : A) → relation x y ≡ relation y x

-- what the first relation relates the second relates too
abbrev pub Implies : {A : Type 0} → (A → A → Bool) → (A → A → Bool) → Type 0
Implies {A} first second = (x y : A) → first x y ≡ true → second x y ≡ true

-- the stronger of two kinds is related to what one of them is related to
abbrev pub IsRising : (Kind → Kind → Bool) → Type 0
IsRising relation = (k l other : Kind)
    → relation (stronger k l) other ≡ relation k other || relation l other

-- a union is related to what one of its parts is related to
abbrev pub IsOfUnions : (Keys → Keys → Bool) → Type 0
IsOfUnions relation = (a b c : Keys) → relation (union a b) c ≡ relation a c || relation b c

-- two sets that cover one row conflict
abbrev pub CoversConflict : Type 0
CoversConflict = (a b : Keys) (p : Parts) (name : List ℕ) → p.row ≡ Some name
    → covers a p ≡ true → covers b p ≡ true → conflicts a b ≡ true
