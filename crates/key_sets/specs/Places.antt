-- Among keys that rise: where the key with some parts stands, and where it would go.
use Rattle.std.specs.Prelude.{◌≡◌, ℕ, zero, suc, List, [], ◌∷◌, ⊤}
use Rattle.std.specs.declared.cmp.Ordering.TheVariants.{Less, Equal, Greater}
use Rattle.key_sets.specs.declared.kind.Kind.{Kind}
use Rattle.key_sets.specs.declared.parts.Parts.{Parts}
use Rattle.key_sets.specs.Parts.{parts_cmp}

module _ (p : Parts) where
  -- the key there has the parts, and those before it are below
  abbrev pub IsAt : List (Parts × Kind) → ℕ → Type 0
  IsAt [] at = ⊥
  IsAt (e ∷ es) zero = parts_cmp p e.0 ≡ Equal
  IsAt (e ∷ es) (suc at) = (parts_cmp p e.0 ≡ Greater) × IsAt es at

  -- the keys before it are below the parts, and those from it on are above
  abbrev pub IsGap : List (Parts × Kind) → ℕ → Type 0
  IsGap [] zero = ⊤
  IsGap [] (suc at) = ⊥
  IsGap (e ∷ es) zero = (parts_cmp p e.0 ≡ Less) × IsGap es zero
  IsGap (e ∷ es) (suc at) = (parts_cmp p e.0 ≡ Greater) × IsGap es at
