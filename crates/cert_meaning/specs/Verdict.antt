-- the verdict of a write set over a state: the first line that holds
use Rattle.std.specs.Prelude.{ℕ, ◌==◌, Bool, not, ◌||◌, nat_le, nat_lt, List, length, map, filter, Option, Some, None, if◌then◌else◌}
use Rattle.finite_map.specs.FiniteMap.{len}
use Rattle.wsrep_base.specs.declared.ids.TrxId.{TrxId}
use Rattle.wsrep_base.specs.declared.verdict.Verdict.{Verdict}
use Rattle.wsrep_base.specs.declared.verdict.Verdict.TheVariants.{Pass, Stranger, Repeat, Future, Stale, Broken, Conflict, Held}
use Rattle.wsrep_base.specs.Trx.{greatest}
use Rattle.key_sets.specs.Keys.{Keys, LIMIT, conflicts, touches}
use Rattle.write_set.specs.declared.write_set.WriteSet.{WriteSet}
use Rattle.cert_meaning.specs.declared.items.Fragment.{Fragment}
use Rattle.cert_meaning.specs.Search.{greatest_related}
use Rattle.cert_meaning.specs.State.{FoldState, is_member, serial_of, is_open, fragments_of, other_fragments, last_seen_of, whole_keys}

-- it is the first of its transaction
abbrev pub is_start : WriteSet → Bool
is_start w = w.flags == 1 || w.flags == 3

-- it commits its transaction
abbrev pub is_end : WriteSet → Bool
is_end w = w.flags == 2 || w.flags == 3

-- it rolls its transaction back
abbrev pub is_rollback : WriteSet → Bool
is_rollback w = w.flags == 4

-- the transaction of a write set
abbrev pub trx_of : WriteSet → TrxId
trx_of w = record { member = w.member; begin = w.begin }

-- it begins a transaction that is open, or continues one that is not open or stands elsewhere
abbrev pub is_out_of_place : FoldState → WriteSet → Bool
is_out_of_place s w =
    if is_start w then is_open s (trx_of w)
    else not (is_open s (trx_of w)) || not (w.fragment == length (fragments_of s (trx_of w)))

-- it does not continue its transaction where that stands, has seen less than it had, or makes it
-- too large
unfoldable pub is_broken : FoldState → WriteSet → Bool
is_broken s w =
    is_out_of_place s w
    || nat_lt w.last_seen (last_seen_of (fragments_of s (trx_of w)))
    || nat_lt LIMIT (len (whole_keys (fragments_of s (trx_of w)) w.keys))

-- the greatest number of a passed commit above what was last seen whose keys conflict
unfoldable pub conflict_of : FoldState → ℕ → Keys → Option ℕ
conflict_of s last_seen keys = greatest_related conflicts s.commits last_seen keys

-- the greatest number of a fragment whose keys touch
abbrev pub greatest_touching : List Fragment → Keys → Option ℕ
greatest_touching fragments keys =
    greatest
    (map (λ (fragment : Fragment). fragment.number)
    (filter (λ (fragment : Fragment). touches fragment.keys keys) fragments))

-- the greatest number of such a fragment of another open transaction
unfoldable pub held_by : FoldState → TrxId → Keys → Option ℕ
held_by s trx keys = greatest_touching (other_fragments s trx) keys

-- a conflict comes before what is held
abbrev pub conflict_or_held : Option ℕ → Option ℕ → Verdict
conflict_or_held (Some commit) fragment = Conflict commit
conflict_or_held None (Some fragment) = Held fragment
conflict_or_held None None = Pass

-- the verdict of a write set that a member sent
unfoldable pub verdict : FoldState → ℕ → WriteSet → Verdict
verdict s member w =
    if not (is_member s member) || not (w.member == member) then Stranger
    else if nat_le w.serial (serial_of s member) then Repeat
    else if nat_lt s.number w.last_seen then Future
    else if nat_lt w.last_seen s.floor then Stale
    else if is_rollback w then Pass
    else if is_broken s w then Broken
    else conflict_or_held (conflict_of s w.last_seen w.keys) (held_by s (trx_of w) w.keys)
