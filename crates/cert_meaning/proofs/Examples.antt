-- Worked orders, each by computing the definitions.
use Rattle.std.proofs.Common.{◌≡◌, ℕ, List, [], ◌∷◌, ◌++◌, refl}
use Rattle.std.specs.Prelude.{take}
use Rattle.wsrep_base.specs.declared.verdict.Verdict.TheVariants.{Malformed, Stranger, Repeat, Future, Stale, Broken, Conflict, Held}
use Rattle.wsrep_base.specs.declared.verdict.Judged.TheVariants as became
use Rattle.order_event.specs.declared.event.Event.{Event}
use Rattle.order_event.specs.declared.event.Event.TheVariants.{Write, View, Report}
use Rattle.wsrep_base.specs.Reading.{bytes_at, number_at}
use Rattle.write_set.specs.Reading.{many_at, name_at, key_row_at, key_at, some_keys_at, keys_at, place_at, count_at, values_at, some_columns_at, columns_at, op_at, ops_at, header_at, finished, read}
use Rattle.cert_meaning.specs.State.{no_events}
use Rattle.cert_meaning.specs.Fold.{judged_all, computing_folds}

unfoldable computing_orders : Unit {0}
unfolding computing_folds bytes_at number_at many_at name_at key_row_at key_at some_keys_at keys_at place_at count_at values_at some_columns_at columns_at op_at ops_at header_at finished read
computing_orders = tt

eight : ℕ → List ℕ
eight n = 0 ∷ 0 ∷ 0 ∷ 0 ∷ 0 ∷ 0 ∷ 0 ∷ n ∷ []

four : ℕ → List ℕ
four n = 0 ∷ 0 ∷ 0 ∷ n ∷ []

-- the exclusive key of row a of table acct
row_key : List ℕ
row_key = 2 ∷ 3 ∷ 4 ∷ 97 ∷ 99 ∷ 99 ∷ 116 ∷ 1 ∷ 97 ∷ []

-- the insert of that row with the value 100
row_insert : List ℕ
row_insert = 1 ∷ 4 ∷ 97 ∷ 99 ∷ 99 ∷ 116 ∷ 1 ∷ 97 ∷ 1 ∷ eight 100

-- a write set of member 1 by its serial, begin number, fragment number, flags and last seen
head_of : ℕ → ℕ → ℕ → ℕ → ℕ → List ℕ
head_of serial begin fragment flags seen = 1 ∷ four 1 ++ eight serial ++ eight begin ++ four fragment ++ flags ∷ eight seen

inserting : ℕ → ℕ → ℕ → ℕ → ℕ → List ℕ
inserting serial begin fragment flags seen =
    head_of serial begin fragment flags seen ++ four 1 ++ row_key ++ four 1 ++ row_insert

-- one with no key and no change
bare : ℕ → ℕ → ℕ → ℕ → ℕ → List ℕ
bare serial begin fragment flags seen = head_of serial begin fragment flags seen ++ four 0 ++ four 0

one_member : Event
one_member = View 1 (1 ∷ [])

-- foreign bytes
foreign : List Event
foreign =
    one_member
    ∷ Write 1 (inserting 1 1 0 3 1)
    ∷ Write 1 (inserting 1 1 0 3 1)
    ∷ Report 1 3
    ∷ Write 1 (inserting 2 1 0 3 1)
    ∷ Write 1 (take 67 (inserting 1 1 0 3 1))
    ∷ Write 2 (inserting 1 1 0 3 1)
    ∷ Write 1 (inserting 3 1 0 3 8)
    ∷ []

foreign_bytes : judged_all no_events foreign ≡
    became.View ∷ became.Commit ∷ became.Fail Repeat ∷ became.Report ∷ became.Fail Stale ∷ became.Fail Malformed ∷ became.Fail Stranger ∷ became.Fail Future ∷ []
unfolding computing_orders foreign one_member inserting head_of eight four row_key row_insert
foreign_bytes = refl

-- a commit conflicts with those above its last seen alone, and the greatest of them is named
window : List Event
window =
    one_member
    ∷ Write 1 (inserting 1 1 0 3 1)
    ∷ Write 1 (inserting 2 2 0 3 1)
    ∷ Write 1 (inserting 3 3 0 3 2)
    ∷ Write 1 (inserting 4 4 0 3 1)
    ∷ []

window_edge : judged_all no_events window ≡
    became.View ∷ became.Commit ∷ became.Fail (Conflict 2) ∷ became.Commit ∷ became.Fail (Conflict 4) ∷ []
unfolding computing_orders window one_member inserting head_of eight four row_key row_insert
window_edge = refl

-- a transaction in fragments: it holds its row until it ends, and a fragment out of place ends it
streaming : List Event
streaming =
    one_member
    ∷ Write 1 (inserting 1 1 0 1 1)
    ∷ Write 1 (inserting 2 2 0 3 2)
    ∷ Write 1 (bare 3 1 1 2 2)
    ∷ Write 1 (inserting 4 3 0 1 4)
    ∷ Write 1 (bare 5 3 2 0 4)
    ∷ Write 1 (bare 6 3 1 2 4)
    ∷ Write 1 (inserting 7 4 0 1 4)
    ∷ Write 1 (bare 8 4 0 4 4)
    ∷ Write 1 (inserting 9 5 0 3 3)
    ∷ Write 1 (inserting 10 6 0 3 4)
    ∷ []

held_until_its_end : judged_all no_events streaming ≡
    became.View ∷ became.Fragment ∷ became.Fail (Held 2) ∷ became.Commit ∷ became.Fragment ∷ became.Fail Broken ∷ became.Fail Broken
    ∷ became.Fragment ∷ became.Rollback ∷ became.Fail (Conflict 4) ∷ became.Commit ∷ []
unfolding computing_orders streaming one_member inserting bare head_of eight four row_key row_insert
held_until_its_end = refl
