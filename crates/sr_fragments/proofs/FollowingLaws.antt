-- The open transactions follow a fold.
use Rattle.std.proofs.Common.{◌≡◌, ℕ, ◌+◌, Option, None, Some, refl}
use Rattle.finite_map.specs.FiniteMap.{get}
use Rattle.order_event.specs.declared.event.Event.{Event}
use Rattle.order_event.specs.declared.event.Event.TheVariants.{Write, View, Report}
use Rattle.write_set.specs.declared.write_set.WriteSet.{WriteSet}
use Rattle.write_set.specs.Reading.{decoded}
use Rattle.cert_meaning.specs.declared.members.Standing.{Standing}
use Rattle.cert_meaning.specs.State.{FoldState, no_events}
use Rattle.cert_meaning.specs.Verdict.{held_by}
use Rattle.cert_meaning.specs.Fold.{Effect, Same, Closes, Adds, Commits, effect_of, judged, judged_write, affected, written, after, reported}
use Rattle.std.specs.Prelude.{Bool, true, false, cond, ◌&&◌, nat_le, nat_lt}
use Rattle.sr_fragments.specs.Following.{after_effect, after_event, after_write, BeginsEmpty, FollowsTheFold, HoldsAsTheFold}

pub begins : BeginsEmpty
unfolding no_events
begins = refl

pub holds : HoldsAsTheFold
unfolding held_by
holds s trx keys = refl

module _ (s : FoldState) where
  by_effect : (w : WriteSet) (effect : Effect)
      → (affected s w effect).open_trx ≡ after_effect s.open_trx (s.number + 1) w effect
  by_effect w Same = refl
  by_effect w Closes = refl
  by_effect w Adds = refl
  by_effect w Commits = refl

  by_write : (member : ℕ) (o : Option WriteSet)
      → (written s member o).open_trx
      ≡ after_write s.open_trx (s.number + 1) (judged_write s member o) o
  by_write member None = refl
  by_write member (Some w) = by_effect w (effect_of (judged_write s member (Some w)))

  by_taken : (taken : Bool) (t : FoldState) → t.open_trx ≡ s.open_trx
      → (cond taken t s).open_trx ≡ s.open_trx
  by_taken true t is = is
  by_taken false t is = refl

  by_report : (member report : ℕ) (o : Option Standing)
      → (reported s member report o).open_trx ≡ s.open_trx
  by_report member report None = refl
  by_report member report (Some standing) =
      by_taken (nat_le standing.report report && nat_lt report (s.number + 1)) _ refl

  by_event : (event : Event)
      → (after s event).open_trx ≡ after_event s.open_trx (s.number + 1) (judged s event) event
  unfolding after judged
  by_event (Write member body) = by_write member (decoded body)
  by_event (View version listed) = refl
  by_event (Report member report) = by_report member report (get s.members member)

pub follows : FollowsTheFold
follows s event = by_event s event
