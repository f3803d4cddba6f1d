-- The open transactions follow a fold, by the calls that each event asks for.
use Rattle.std.specs.Prelude.{◌≡◌, ℕ, ◌+◌, ◌==◌, Bool, true, false, ◌||◌, List, fold, Option, None, Some}
use Rattle.std.specs.List.{list_any}
use Rattle.finite_map.specs.FiniteMap.{empty, get, remove, retain_keys}
use Rattle.wsrep_base.specs.declared.ids.TrxId.{TrxId}
use Rattle.wsrep_base.specs.declared.verdict.Judged.{Judged}
use Rattle.key_sets.specs.Keys.{Keys}
use Rattle.order_event.specs.declared.event.Event.{Event}
use Rattle.order_event.specs.declared.event.Event.TheVariants.{Write, View, Report}
use Rattle.write_set.specs.declared.write_set.WriteSet.{WriteSet}
use Rattle.write_set.specs.Reading.{decoded}
use Rattle.cert_meaning.specs.declared.items.Fragment.{Fragment}
use Rattle.cert_meaning.specs.State.{FoldState, no_events, fragments_but}
use Rattle.cert_meaning.specs.Verdict.{greatest_touching, held_by, trx_of}
use Rattle.cert_meaning.specs.Fold.{Effect, Same, Closes, Adds, Commits, effect_of, judged, after, is_of}
use Rattle.sr_fragments.specs.OpenSet.{Open, added, dropped}

-- the fragment that a write set is, by the event with this number
abbrev pub fragment_at : ℕ → WriteSet → Fragment
fragment_at number w =
    record { number = number; last_seen = w.last_seen; keys = w.keys; ops = w.ops }

-- the call that a write set asks for, by what it does to its transaction
abbrev pub after_effect : Open → ℕ → WriteSet → Effect → Open
after_effect open_trx number w Same = open_trx
after_effect open_trx number w Closes = remove open_trx (trx_of w)
after_effect open_trx number w Adds = added open_trx (trx_of w) (fragment_at number w)
after_effect open_trx number w Commits = remove open_trx (trx_of w)

abbrev pub after_write : Open → ℕ → Judged → Option WriteSet → Open
after_write open_trx number judged None = open_trx
after_write open_trx number judged (Some w) =
    after_effect open_trx number w (effect_of judged)

-- the calls that the event with this number asks for, by what became of it: at a view the members
-- that are not of it are dropped
abbrev pub after_event : Open → ℕ → Judged → Event → Open
after_event open_trx number judged (Write member body) =
    after_write open_trx number judged (decoded body)
after_event open_trx number judged (View version listed) = retain_keys open_trx (is_of listed)
after_event open_trx number judged (Report member report) = open_trx

-- what are a fold state's open transactions before an event are those after it
abbrev pub FollowsTheFold : Type 0
FollowsTheFold =
    (s : FoldState) (event : Event)
    → (after s event).open_trx ≡ after_event s.open_trx (s.number + 1) (judged s event) event

-- before the first event of an order none is open
abbrev pub BeginsEmpty : Type 0
BeginsEmpty = no_events.open_trx ≡ empty

-- these members are dropped
abbrev pub all_dropped : Open → List ℕ → Open
all_dropped open_trx members = fold dropped open_trx members

-- a member is one of the list
abbrev pub is_listed : List ℕ → ℕ → Bool
is_listed members member = list_any (λ one. one == member) members

-- where the members that have one are listed or gone, and none is both, those that are gone are
-- dropped for a view of those that are listed
abbrev pub DropsTheGone : Type 0
DropsTheGone =
    (open_trx : Open) (listed gone : List ℕ)
    → ((trx : TrxId) (fragments : List Fragment) → get open_trx trx ≡ Some fragments
    → is_of listed trx || is_of gone trx ≡ true)
    → ((member : ℕ) → is_listed listed member ≡ true → is_listed gone member ≡ false)
    → all_dropped open_trx gone ≡ retain_keys open_trx (is_of listed)

-- what stands in the way of a write set's keys over a fold state is asked of its open transactions
abbrev pub HoldsAsTheFold : Type 0
HoldsAsTheFold =
    (s : FoldState) (trx : TrxId) (keys : Keys)
    → greatest_touching (fragments_but s.open_trx trx) keys ≡ held_by s trx keys
