-- Where fragments are found: by the kinds of their keys at each parts, and then by their numbers.
use Rattle.std.specs.Prelude.{ℕ, ◌+◌, Bool, cond}
use Rattle.std.specs.Ordering.{nat_cmp, ordering_then}
use Rattle.std.specs.declared.cmp.Ordering.{Ordering}
use Rattle.wsrep_base.specs.declared.ids.TrxId.{TrxId}
use Rattle.wsrep_base.specs.Trx.{trx_cmp}
use Rattle.key_sets.specs.declared.kind.Kind.{Kind}
use Rattle.key_sets.specs.declared.kind.Kind.TheVariants.{Shared}
use Rattle.key_sets.specs.declared.parts.Parts.{Parts}
use Rattle.key_sets.specs.Kinds.{kinds_touch}
use Rattle.key_sets.specs.Parts.{parts_cmp}
use Rattle.sr_fragments.specs.declared.spot.Spot.{Spot}
use Rattle.sr_fragments.specs.declared.spot.Place.{Place}
use Rattle.sr_fragments.specs.declared.spot.Mark.{Mark}

-- keys of the kind touch shared ones too
abbrev pub is_changing : Kind → Bool
is_changing kind = kinds_touch kind Shared

-- the place of a kind at some parts
abbrev pub place_of : TrxId → Parts × Kind → Place
place_of trx pair = record {
  spot = record { parts = pair.0; changing = is_changing pair.1 };
  trx = trx;
}

abbrev pub place_at : Spot → TrxId → Place
place_at spot trx = record { spot = spot; trx = trx }

-- changing keys come behind shared ones
abbrev pub rank_of : Bool → ℕ
rank_of changing = cond changing 1 0

-- the mark of a fragment with this number
abbrev pub mark_of : Place → ℕ → Mark
mark_of place number = record {
  parts = place.spot.parts;
  rank = rank_of place.spot.changing;
  number = number;
  trx = place.trx;
}

abbrev pub no_trx : TrxId
no_trx = record { member = 0; begin = 0 }

-- no mark of the spot is before this one
abbrev pub mark_first : Spot → Mark
mark_first spot = mark_of (place_at spot no_trx) 0

-- each mark of the spot is before this one
abbrev pub mark_end : Spot → Mark
mark_end spot =
    record { parts = spot.parts; rank = rank_of spot.changing + 1; number = 0; trx = no_trx }

-- by parts, shared before changing, then by number
abbrev pub mark_cmp : Mark → Mark → Ordering
mark_cmp a b =
    ordering_then (parts_cmp a.parts b.parts)
    (ordering_then (nat_cmp a.rank b.rank)
    (ordering_then (nat_cmp a.number b.number) (trx_cmp a.trx b.trx)))
