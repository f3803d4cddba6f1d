-- the state of certification, of which the commits are found by an index
use Rattle.std.specs.Prelude.{ℕ, List, Option, None, Some}
use Rattle.std.specs.Option.{option_map}
use Rattle.key_sets.specs.Keys.{touches}
use Rattle.order_event.specs.declared.event.Event.{Event}
use Rattle.write_set.specs.declared.write_set.WriteSet.{WriteSet}
use Rattle.cert_meaning.specs.Fold.{set_in}
use Rattle.cert_meaning.specs.declared.items.CommitItem.{CommitItem}
use Rattle.cert_meaning.specs.State.{FoldState, RiseWithin}
use Rattle.cert_meaning.specs.Search.{greatest_related}
use Rattle.cert_index.specs.declared.entry.Entry.{Entry}
use Rattle.cert_index.specs.Laws.{Holds}

-- the numbers of the commits rise up to that of the state, and their keys are those of the index
pub record IsIndexed (number : ℕ) (commits : List CommitItem) (entries : List Entry) : Type 0 where
  pub rise : RiseWithin 0 number commits
  pub holds : Holds entries 0 commits

-- the begin number of a write set; None where there is none
abbrev pub begin_of : Option WriteSet → Option ℕ
begin_of = option_map (λ (w : WriteSet). w.begin)

-- the begin number of the write set that an event's bytes spell
abbrev pub begin_in : Event → Option ℕ
begin_in e = begin_of (set_in e)

-- the latest of the commits whose keys touch those of a commit that is made; None where none is
abbrev pub dependency_of : FoldState → Option CommitItem → Option ℕ
dependency_of s None = None
dependency_of s (Some commit) = greatest_related touches s.commits 0 commit.keys
