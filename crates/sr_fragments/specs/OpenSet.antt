-- The open transactions, and what the index finds among their fragments.
use Rattle.std.specs.Prelude.{◌≡◌, ℕ, ◌==◌, Bool, not, ◌&&◌, List, [], ◌∷◌, ◌++◌, length, map, filter, flat_map, Option, unwrap_or}
use Rattle.std.specs.List.{list_any}
use Rattle.finite_map.specs.FiniteMap.{FiniteMap, get, insert, retain_keys}
use Rattle.wsrep_base.specs.declared.ids.TrxId.{TrxId}
use Rattle.wsrep_base.specs.Trx.{trx_cmp, same_trx, greatest}
use Rattle.key_sets.specs.declared.kind.Kind.{Kind}
use Rattle.key_sets.specs.declared.parts.Parts.{Parts}
use Rattle.key_sets.specs.Keys.{pairs_meet, pairs_of, pairs_of_key}
use Rattle.key_sets.specs.Kinds.{kinds_touch}
use Rattle.cert_meaning.specs.declared.items.Fragment.{Fragment}
use Rattle.cert_meaning.specs.State.{last_seen_of}
use Rattle.sr_fragments.specs.declared.shape.Shape.{Shape}
use Rattle.sr_fragments.specs.declared.spot.Spot.{Spot}
use Rattle.sr_fragments.specs.declared.spot.Place.{Place}
use Rattle.sr_fragments.specs.declared.held_index.HeldIndex.{HeldIndex}
use Rattle.sr_fragments.specs.HeldIndex.{IsIndex, found, is_key_at}

-- the open transactions, each with its passed fragments, oldest first
abbrev pub Open : Type 0
Open = FiniteMap trx_cmp (List Fragment)

-- the fragments of a transaction, none where it is not open
abbrev pub fragments_in : Open → TrxId → List Fragment
fragments_in open_trx trx = unwrap_or (get open_trx trx) []

-- the transaction has one more fragment, and is open
abbrev pub added : Open → TrxId → Fragment → Open
added open_trx trx fragment = insert open_trx trx (fragments_in open_trx trx ++ fragment ∷ [])

-- those of other members
abbrev pub dropped : Open → ℕ → Open
dropped open_trx member = retain_keys open_trx (λ trx. not (trx.member == member))

-- how far a transaction with these fragments has come
abbrev pub shape_of : List Fragment → Shape
shape_of fragments = record { fragments = length fragments; last_seen = last_seen_of fragments }

-- the greatest number of a fragment that passes the test
abbrev pub latest : (Fragment → Bool) → List Fragment → Option ℕ
latest test fragments =
    greatest (map (λ (fragment : Fragment). fragment.number) (filter test fragments))

-- whether a fragment has a key at the spot
abbrev pub stands_at : Spot → Fragment → Bool
stands_at spot fragment = list_any (is_key_at spot) fragment.keys.entries

-- whether the place is the transaction's, and a fragment of it has a key at its spot
abbrev pub stands_of : TrxId → Place → Fragment → Bool
stands_of trx p fragment = same_trx trx p.trx && stands_at p.spot fragment

-- the greatest fragment that has a key at the spot
abbrev pub latest_at : Spot → List Fragment → Option ℕ
latest_at spot fragments = latest (stands_at spot) fragments

-- at some parts a key of the fragment and one of these touch
abbrev pub meets : List (Parts × Kind) → Fragment → Bool
meets keys fragment =
    list_any (λ p. list_any (pairs_meet kinds_touch p) (flat_map pairs_of_key keys))
    (pairs_of fragment.keys)

-- a kind of the fragment at these parts touches this one
abbrev pub pair_meets : Parts × Kind → Fragment → Bool
pair_meets pair fragment = list_any (λ p. pairs_meet kinds_touch p pair) (pairs_of fragment.keys)

-- whether the place is the transaction's, and one of these fragments has a key at its spot
abbrev pub is_place_of : TrxId → List Fragment → Place → Bool
is_place_of trx fragments p = same_trx trx p.trx && list_any (stands_at p.spot) fragments

-- the index has the latest fragment of each open transaction at each spot
pub record IsIndexOf (index : HeldIndex) (open_trx : Open) : Type 0 where
  pub is_index : IsIndex index
  pub same : (p : Place) → found index p ≡ latest_at p.spot (fragments_in open_trx p.trx)
