-- Which fragments a kind at some parts touches: those that change what is there, and where it
-- changes it itself, also those that share it.
use Rattle.std.proofs.Common.{◌≡◌, Bool, true, false, ◌||◌, ◌&&◌, List, refl, sym, ◌∙◌}
use Rattle.std.specs.Bool.{beq}
use Rattle.std.specs.List.{list_any}
use Rattle.key_sets.specs.declared.kind.Kind.{Kind}
use Rattle.key_sets.specs.declared.kind.Kind.TheVariants.{Shared, Update, Exclusive}
use Rattle.key_sets.specs.declared.parts.Parts.{Parts}
use Rattle.key_sets.specs.Keys.{pairs_of, pairs_of_key}
use Rattle.key_sets.specs.Kinds.{kinds_touch}
use Rattle.key_sets.specs.Parts.{same_parts}
use Rattle.cert_meaning.specs.declared.items.Fragment.{Fragment}
use Rattle.cert_meaning.specs.Extremes.{greater}
use Rattle.sr_fragments.specs.declared.spot.Spot.{Spot}
use Rattle.sr_fragments.specs.Spots.{is_changing}
use Rattle.sr_fragments.specs.HeldIndex.{is_pair_at}
use Rattle.sr_fragments.specs.OpenSet.{latest, latest_at, pair_meets, stands_at}
use Rattle.sr_fragments.proofs.LatestLemmas.{latest-or}
use Rattle.sr_fragments.proofs.MeetLemmas.{any-flat, any-or}

abbrev pub spot_at : Parts → Bool → Spot
spot_at parts changing = record { parts = parts; changing = changing }

-- a fragment stands at a spot by one of its pairs
stands_by : (spot : Spot) (e : Fragment)
    → list_any (is_pair_at spot) (pairs_of e.keys) ≡ stands_at spot e
unfolding pairs_of
stands_by spot e = any-flat (is_pair_at spot) pairs_of_key e.keys.entries

shared_touch : (kind k : Kind) (a : Bool) → is_changing kind ≡ false
    → a && kinds_touch k kind ≡ a && beq (is_changing k) true
shared_touch Shared Shared a e = refl
shared_touch Shared Update a e = refl
shared_touch Shared Exclusive a e = refl
shared_touch Update k a e = cc
shared_touch Exclusive k a e = cc

changing_touch : (kind k : Kind) (a : Bool) → is_changing kind ≡ true
    → a && kinds_touch k kind ≡ (a && beq (is_changing k) false) || (a && beq (is_changing k) true)
changing_touch Shared k a e = cc
changing_touch Update Shared true e = refl
changing_touch Update Update true e = refl
changing_touch Update Exclusive true e = refl
changing_touch Exclusive Shared true e = refl
changing_touch Exclusive Update true e = refl
changing_touch Exclusive Exclusive true e = refl
changing_touch Update k false e = refl
changing_touch Exclusive k false e = refl

module _ (parts : Parts) (kind : Kind) where
  pub latest-shared : is_changing kind ≡ false → (es : List Fragment)
      → latest_at (spot_at parts true) es ≡ latest (pair_meets (parts, kind)) es
  latest-shared e es =
      sym ((λ i. latest (λ f. list_any (λ x. shared_touch kind x.1 (same_parts x.0 parts) e i)
      (pairs_of f.keys)) es)
      ∙ (λ i. latest (λ f. stands_by (spot_at parts true) f i) es))

  pub latest-changing : is_changing kind ≡ true → (es : List Fragment)
      → greater (latest_at (spot_at parts false) es) (latest_at (spot_at parts true) es)
      ≡ latest (pair_meets (parts, kind)) es
  latest-changing e es =
      sym ((λ i. latest (λ f. list_any (λ x. changing_touch kind x.1 (same_parts x.0 parts) e i)
      (pairs_of f.keys)) es)
      ∙ (λ i. latest (λ f. any-or (is_pair_at (spot_at parts false))
      (is_pair_at (spot_at parts true)) (pairs_of f.keys) i) es)
      ∙ (λ i. latest (λ f. stands_by (spot_at parts false) f i
      || stands_by (spot_at parts true) f i) es)
      ∙ latest-or (stands_at (spot_at parts false)) (stands_at (spot_at parts true)) es)
