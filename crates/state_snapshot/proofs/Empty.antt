-- The state before the first event meets the rules of a snapshot.
use Rattle.std.proofs.Common.{◌≡◌, refl, sym, subst, arith}
use Rattle.finite_map.specs.FiniteMap.{empty}
use Rattle.cert_meaning.specs.State.{FoldState, no_events}
use Rattle.cert_meaning.specs.Parts.{parts_of, trim}
use Rattle.state_snapshot.specs.Rules.{Obeys}

none_obey : Obeys (parts_of (trim no_events))
unfolding no_events empty
none_obey = record {
  number = omega arith;
  floor = omega arith;
  members = record { counted = omega arith; rise = tt; reported = tt; least = refl };
  rows = record { counted = omega arith; rise = tt; named = tt };
  commits = record { counted = omega arith; rise = tt; keyed = tt };
  open_counted = omega arith;
  open_rise = tt;
  open_trx = tt;
}

pub no_events_obey : (s : FoldState) → s ≡ no_events → Obeys (parts_of (trim s))
no_events_obey s is = let P : FoldState → Type 0 = λ state. Obeys (parts_of (trim state)) in subst P (sym is) none_obey
