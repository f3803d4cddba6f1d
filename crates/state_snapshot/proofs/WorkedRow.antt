-- The snapshot of a worked order, by computing the definitions.
use Rattle.std.proofs.Common.{◌≡◌, ℕ, List, [], ◌∷◌, ◌++◌, refl}
use Rattle.std.specs.Prelude.{length, replicate}
use Rattle.order_event.specs.declared.event.Event.{Event}
use Rattle.order_event.specs.declared.event.Event.TheVariants.{Write, View}
use Rattle.wsrep_base.specs.Reading.{bytes_at, number_at}
use Rattle.write_set.specs.Reading.{many_at, name_at, key_row_at, key_at, some_keys_at, keys_at, place_at, count_at, values_at, some_columns_at, columns_at, op_at, ops_at, header_at, finished, read}
use Rattle.cert_meaning.specs.Fold.{state_at, computing_folds}
use Rattle.state_snapshot.specs.Spelling.{spelling, snapshot_of}

unfoldable computing_snapshots : Unit {0}
unfolding computing_folds bytes_at number_at many_at name_at key_row_at key_at some_keys_at keys_at place_at count_at values_at some_columns_at columns_at op_at ops_at header_at finished read spelling
computing_snapshots = tt

four : ℕ → List ℕ
four n = 0 ∷ 0 ∷ 0 ∷ n ∷ []

eight : ℕ → List ℕ
eight n = 0 ∷ 0 ∷ 0 ∷ 0 ∷ four n

-- row a of table acct
row_place : List ℕ
row_place = 4 ∷ 97 ∷ 99 ∷ 99 ∷ 116 ∷ 1 ∷ 97 ∷ []

-- one exclusive key, of that row
one_key : List ℕ
one_key = four 1 ++ 2 ∷ 3 ∷ row_place

-- member 1 inserts the row with the value 100
insert : List ℕ
insert = 1 ∷ four 1 ++ eight 1 ++ eight 1 ++ four 0 ++ 3 ∷ eight 1 ++ one_key ++ four 1 ++ 1 ∷ row_place ++ 1 ∷ eight 100

-- after its commit member 1 leaves, and comes back as member 3
order : List Event
order = View 1 (1 ∷ 2 ∷ []) ∷ Write 1 insert ∷ View 1 (2 ∷ []) ∷ View 1 (2 ∷ 3 ∷ []) ∷ []

state_id : List ℕ
state_id = replicate 15 0 ++ 161 ∷ []

-- its snapshot: the head, members 2 and 3, the row, the commit, and no open transaction
snapshot : List ℕ
snapshot =
    83 ∷ 1 ∷ state_id ++ eight 4 ++ eight 1 ++ four 1
    ++ four 2 ++ four 2 ++ eight 1 ++ eight 0 ++ four 3 ++ eight 4 ++ eight 0
    ++ four 1 ++ row_place ++ 1 ∷ eight 100
    ++ four 1 ++ eight 2 ++ four 1 ++ eight 1 ++ one_key ++ four 0

it_has_143_bytes : length snapshot ≡ 143
unfolding snapshot state_id eight four one_key row_place
it_has_143_bytes = refl

joins_again : snapshot_of (state_at order 4) state_id ≡ snapshot
unfolding computing_snapshots order snapshot insert state_id eight four one_key row_place
joins_again = refl
