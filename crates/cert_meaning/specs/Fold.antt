-- what an event does, and the state after the first n events of an order
use Rattle.std.specs.Prelude.{ℕ, zero, suc, ◌+◌, ◌==◌, Bool, ◌&&◌, nat_le, nat_lt, List, [], ◌∷◌, ◌++◌, map, slice_get, Option, Some, None, unwrap_or, if◌then◌else◌}
use Rattle.std.specs.Option.{option_map_or}
use Rattle.std.specs.List.{list_any}
use Rattle.std.specs.Ordering.{nat_cmp}
use Rattle.finite_map.specs.FiniteMap.{FiniteMap, get, insert, remove, retain_keys, from_entries, values, computing_maps}
use Rattle.wsrep_base.specs.declared.ids.TrxId.{TrxId}
use Rattle.wsrep_base.specs.declared.verdict.Verdict.{Verdict}
use Rattle.wsrep_base.specs.declared.verdict.Verdict.TheVariants.{Pass, Malformed, Stranger, Repeat, Future, Stale, Broken, Conflict, Held}
use Rattle.wsrep_base.specs.declared.verdict.Judged.{Judged}
use Rattle.wsrep_base.specs.declared.verdict.Judged.TheVariants as became
use Rattle.wsrep_base.specs.Trx.{least}
use Rattle.key_sets.specs.Keys.{computing_keys}
use Rattle.row_model.specs.declared.ops.Op.{Op}
use Rattle.row_model.specs.Rows.{ops_on}
use Rattle.order_event.specs.declared.event.Event.{Event}
use Rattle.order_event.specs.declared.event.Event.TheVariants.{Write, View, Report}
use Rattle.write_set.specs.declared.write_set.WriteSet.{WriteSet}
use Rattle.write_set.specs.Reading.{decoded}
use Rattle.cert_meaning.specs.declared.items.CommitItem.{CommitItem}
use Rattle.cert_meaning.specs.declared.items.Fragment.{Fragment}
use Rattle.cert_meaning.specs.State.{FoldState, Standing, no_events, fragments_of, whole_keys, whole_ops}
use Rattle.cert_meaning.specs.Verdict.{verdict, trx_of, is_end, is_rollback, is_broken, conflict_of, held_by}

-- what becomes of a write set that passes
abbrev pub passed : WriteSet → Judged
passed w =
    if is_rollback w then became.Rollback else if is_end w then became.Commit else became.Fragment

-- what becomes of a write set by its verdict
abbrev pub judged_as : WriteSet → Verdict → Judged
judged_as w Pass = passed w
judged_as w Malformed = became.Fail Malformed
judged_as w Stranger = became.Fail Stranger
judged_as w Repeat = became.Fail Repeat
judged_as w Future = became.Fail Future
judged_as w Stale = became.Fail Stale
judged_as w Broken = became.Fail Broken
judged_as w (Conflict commit) = became.Fail (Conflict commit)
judged_as w (Held fragment) = became.Fail (Held fragment)

-- what becomes of the bytes of a member: those that spell no write set are malformed
abbrev pub judged_write : FoldState → ℕ → Option WriteSet → Judged
judged_write s member None = became.Fail Malformed
judged_write s member (Some w) = judged_as w (verdict s member w)

-- what becomes of an event
unfoldable pub judged : FoldState → Event → Judged
judged s (Write member body) = judged_write s member (decoded body)
judged s (View version members) = became.View
judged s (Report member number) = became.Report

-- what an event does to its transaction: nothing, it is open no longer, one more fragment of it has
-- passed, or it is committed
pub data Effect : Type 0 where
  Same : Effect
  Closes : Effect
  Adds : Effect
  Commits : Effect

-- what a failure does, by its verdict
abbrev pub effect_of_failure : Verdict → Effect
effect_of_failure Pass = Same
effect_of_failure Malformed = Same
effect_of_failure Stranger = Same
effect_of_failure Repeat = Same
effect_of_failure Future = Closes
effect_of_failure Stale = Closes
effect_of_failure Broken = Closes
effect_of_failure (Conflict commit) = Closes
effect_of_failure (Held fragment) = Closes

-- what an event does, by what became of it
abbrev pub effect_of : Judged → Effect
effect_of became.View = Same
effect_of became.Report = Same
effect_of became.Commit = Commits
effect_of became.Fragment = Adds
effect_of became.Rollback = Closes
effect_of (became.Fail failure) = effect_of_failure failure

-- a member's last serial is this one
abbrev pub with_serial : FiniteMap nat_cmp Standing → ℕ → ℕ → FiniteMap nat_cmp Standing
with_serial members member serial =
    option_map_or
    (λ (standing : Standing). insert members member (record standing { serial = serial }))
    (get members member) members

-- a member's last serial is that of the write set
abbrev pub counted : FoldState → WriteSet → FoldState
counted s w = record s { members = with_serial s.members w.member w.serial }

-- its transaction is open no longer
abbrev pub closed : FoldState → WriteSet → FoldState
closed s w = record (counted s w) { open_trx = remove s.open_trx (trx_of w) }

-- the fragment that a write set adds to its transaction
abbrev pub fragment_by : FoldState → WriteSet → Fragment
fragment_by s w =
    record { number = s.number + 1; last_seen = w.last_seen; keys = w.keys; ops = w.ops }

-- its transaction has one more fragment
abbrev pub continued : FoldState → WriteSet → FoldState
continued s w =
    record (counted s w) {
      open_trx = insert s.open_trx (trx_of w) (fragments_of s (trx_of w) ++ fragment_by s w ∷ []);
    }

-- the commit that a write set makes of its transaction
abbrev pub commit_by : FoldState → WriteSet → CommitItem
commit_by s w =
    record {
      number = s.number + 1;
      trx = trx_of w;
      keys = whole_keys (fragments_of s (trx_of w)) w.keys;
    }

-- its transaction is committed: all its changes go into the rows
abbrev pub committed : FoldState → WriteSet → FoldState
committed s w =
    record (closed s w) {
      rows = ops_on (whole_ops (fragments_of s (trx_of w)) w.ops) s.rows;
      commits = s.commits ++ commit_by s w ∷ [];
    }

abbrev pub affected : FoldState → WriteSet → Effect → FoldState
affected s w Same = s
affected s w Closes = closed s w
affected s w Adds = continued s w
affected s w Commits = committed s w

-- bytes that spell no write set change nothing
abbrev pub written : FoldState → ℕ → Option WriteSet → FoldState
written s member None = s
written s member (Some w) = affected s w (effect_of (judged_write s member (Some w)))

-- how a member stands after a view of this number that has it: a new one begins there
abbrev pub standing_in : FiniteMap nat_cmp Standing → ℕ → ℕ → Standing
standing_in members number member =
    unwrap_or (get members member) (record { report = number; serial = 0 })

-- the members of a view of this number
abbrev pub members_in : FiniteMap nat_cmp Standing → ℕ → List ℕ → FiniteMap nat_cmp Standing
members_in members number listed =
    from_entries (map (λ member. (member, standing_in members number member)) listed)

-- whether the transaction's member is one of the list
abbrev pub is_of : List ℕ → TrxId → Bool
is_of members trx = list_any (λ member. member == trx.member) members

-- the members are those of the view, and open transactions of others go
abbrev pub viewed : FoldState → ℕ → List ℕ → FoldState
viewed s version members =
    record s {
      version = version;
      members = members_in s.members (s.number + 1) members;
      open_trx = retain_keys s.open_trx (is_of members);
    }

-- a member's report rises to the number, which is below that of this event; no other report counts
abbrev pub reported : FoldState → ℕ → ℕ → Option Standing → FoldState
reported s member number None = s
reported s member number (Some standing) =
    if nat_le standing.report number && nat_lt number (s.number + 1)
    then record s { members = insert s.members member (record standing { report = number }) } else s

abbrev pub changed_by : FoldState → Event → FoldState
changed_by s (Write member body) = written s member (decoded body)
changed_by s (View version members) = viewed s version members
changed_by s (Report member number) = reported s member number (get s.members member)

-- the least report of the members; the floor as it was where there is none
abbrev pub floor_over : FiniteMap nat_cmp Standing → ℕ → ℕ
floor_over members floor =
    unwrap_or (least (map (λ (standing : Standing). standing.report) (values members))) floor

-- one more event is seen, and the floor is the least report; it stays where there is no member
abbrev pub settled : FoldState → FoldState
settled s = record s { number = s.number + 1; floor = floor_over s.members s.floor }

-- the state after one more event
unfoldable pub after : FoldState → Event → FoldState
after s e = settled (changed_by s e)

abbrev pub after_next : FoldState → Option Event → FoldState
after_next s None = s
after_next s (Some e) = after s e

-- the state after the first n events of an order; past its end it stays
unfoldable pub state_at : List Event → ℕ → FoldState
state_at order zero = no_events
state_at order (suc n) = after_next (state_at order n) (slice_get order n)

-- what becomes of each event, over the state that the events before it lead to
unfoldable pub judged_all : FoldState → List Event → List Judged
judged_all s [] = []
judged_all s (e ∷ es) = judged s e ∷ judged_all (after s e) es

-- the changes that a write set commits: those of its transaction's fragments, and its own; None
-- where it commits nothing
abbrev pub ops_by : FoldState → WriteSet → Effect → Option (List Op)
ops_by s w Same = None
ops_by s w Closes = None
ops_by s w Adds = None
ops_by s w Commits = Some (whole_ops (fragments_of s (trx_of w)) w.ops)

abbrev pub ops_written : FoldState → ℕ → Option WriteSet → Option (List Op)
ops_written s member None = None
ops_written s member (Some w) = ops_by s w (effect_of (judged_write s member (Some w)))

-- the changes that an event commits over a state; None where it commits nothing
unfoldable pub committed_ops : FoldState → Event → Option (List Op)
committed_ops s (Write member body) = ops_written s member (decoded body)
committed_ops s (View version members) = None
committed_ops s (Report member number) = None

-- the changes that an event commits over a state: none where it commits nothing
abbrev pub ops_of : FoldState → Event → List Op
ops_of s event = unwrap_or (committed_ops s event) []

-- the write set that an event's bytes spell; None where they spell none, and of other events
abbrev pub set_in : Event → Option WriteSet
set_in (Write member body) = decoded body
set_in (View version members) = None
set_in (Report member number) = None

-- the commit that a write set makes; None where it commits nothing
abbrev pub commit_made : FoldState → WriteSet → Effect → Option CommitItem
commit_made s w Same = None
commit_made s w Closes = None
commit_made s w Adds = None
commit_made s w Commits = Some (commit_by s w)

abbrev pub commit_written : FoldState → ℕ → Option WriteSet → Option CommitItem
commit_written s member None = None
commit_written s member (Some w) = commit_made s w (effect_of (judged_write s member (Some w)))

-- the commit that an event makes over a state; None where it commits nothing
unfoldable pub commit_of : FoldState → Event → Option CommitItem
commit_of s (Write member body) = commit_written s member (decoded body)
commit_of s (View version members) = None
commit_of s (Report member number) = None

-- what a worked example over the fold unfolds
unfoldable pub computing_folds : Unit {0}
unfolding computing_maps computing_keys ops_on is_broken conflict_of held_by verdict no_events
    judged after state_at judged_all committed_ops commit_of
computing_folds = tt
