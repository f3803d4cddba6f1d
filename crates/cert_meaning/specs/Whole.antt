-- all that a transaction has
use Rattle.std.specs.Prelude.{◌≡◌, ◌≤◌, nat_le, List, flat_map, Option, Some, None, IfSome, if◌then◌else◌}
use Rattle.std.specs.Option.{option_map}
use Rattle.finite_map.specs.FiniteMap.{get, len}
use Rattle.wsrep_base.specs.declared.ids.TrxId.{TrxId}
use Rattle.key_sets.specs.Keys.{Keys, LIMIT}
use Rattle.write_set.specs.declared.write_set.WriteSet.{WriteSet}
use Rattle.cert_meaning.specs.State.{FoldState, Fragment, fragments_of, fragment_keys, whole_keys}
use Rattle.cert_meaning.specs.Verdict.{trx_of}
pub use Rattle.cert_meaning.specs.declared.items.Whole.{Whole}

-- the keys, where they are not too many
abbrev pub within : Keys → Option Keys
within keys = if nat_le (len keys) LIMIT then Some keys else None

-- all keys and all changes of fragments
abbrev pub whole_of : List Fragment → Whole
whole_of fragments = record {
  keys = fragment_keys fragments;
  ops = flat_map (λ (fragment : Fragment). fragment.ops) fragments;
}

-- those of an open transaction, none where it is not open
abbrev pub whole_at : FoldState → TrxId → Option Whole
whole_at s trx = option_map whole_of (get s.open_trx trx)

-- with the write set its transaction has no more keys than a set can have
abbrev pub Fits : FoldState → WriteSet → Type 0
Fits s w = len (whole_keys (fragments_of s (trx_of w)) w.keys) ≤ LIMIT

-- the fragments have no more keys than a set can have, and keys that are kept are all of theirs
abbrev pub KeepsKeys : List Fragment → Option Keys → Type 0
KeepsKeys fragments kept =
    (len (fragment_keys fragments) ≤ LIMIT) × IfSome kept (λ keys. keys ≡ fragment_keys fragments)
